-- `dem_lines::reply_at` meets its contract: lines that are not sixteen are refused, and else the answer by value is the one with the lines lent.
use mathlib.Core.Path.{◌≡◌, ◌∙◌}
use native.Mathlib.Omega.{arith}
use lib.ListN.{length, length-map}
use Rattle.format.proofs.ByteLaws.{bytes_of}
use Rattle.dem_scene.specs.Views.{line_of, scene_with, scene_of}
use Rattle.dem_lines.proofs.Brought.{refused-lent, told-lent}
use Rattle.dem_lines.proofs.reply_at.Goals as goal

pub returns-then-count-ne-PLAYER_COUNT : goal.returns-then-count-ne-PLAYER_COUNT
returns-then-count-ne-PLAYER_COUNT c k brought lines e =
    let a = c.args in
    refused-lent (scene_of a.scene) a.bytes.now a.at k lines (λ q. omega (arith, e, q))

pub returns : goal.returns
unfolding scene_with
returns c k brought lines e =
    let a = c.args in
    let bytes = bytes_of a.bytes.now (λ i. (c.type_inv.bytes i).fits) in
    let own : length a.scene.rest.players ≡ 16 = omega arith in
    let read = c.read_message_at-read in
    told-lent (scene_of a.scene) a.bytes.now bytes a.at read.result read.ensures (length-map a.scene.rest.players line_of ∙ own) k brought c.with_lines.result c.with_lines.ensures lines (omega (arith, e))
