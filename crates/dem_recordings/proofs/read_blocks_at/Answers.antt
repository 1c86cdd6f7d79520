-- `dem_recordings::read_blocks_at` meets its contract: what is asked first, then a run of blocks, and where a message is refused a run of
-- those before its own.
use mathlib.Core.Path.{◌≡◌, ap, ◌∙◌}
use mathlib.Core.Bool.{true}
use Prim.Native.Nat.{◌≤◌}
use lib.ListN.{length}
use Rattle.format.specs.Bytes.{Bytes}
use Rattle.format.specs.Answer.{reply, result}
use Rattle.dem.specs.Scene.{in_range}
use Rattle.format.proofs.ByteLaws.{bytes_of}
use Rattle.dem_scene.specs.Views.{scene_of}
use Rattle.dem_messages.proofs.Asked.{asked-ok}
use Rattle.dem_recordings.specs.Replies.{progress_of}
use Rattle.dem_recordings.specs.declared.Progress.{Progress}
use Rattle.dem_recordings.proofs.Recordings.{blocks_once, blocks_twice}
use Rattle.dem_recordings.proofs.read_blocks_at.Goals.{In_default}
use Rattle.dem_recordings.proofs.read_blocks_at.Goals as goal

asked : (c : In_default) → (in_range (scene_of c.args.scene) ≡ true) × (c.args.at ≤ length c.args.bytes.now)
asked c = asked-ok (in_range (scene_of c.args.scene)) c.args.bytes.now c.args.at c.in_default.ensures.value

bytes : (c : In_default) → Bytes c.args.bytes.now
bytes c = bytes_of c.args.bytes.now (λ i. (c.type_inv.bytes i).fits)

pub returns-then-not-stopped_inside : goal.returns-then-not-stopped_inside
returns-then-not-stopped_inside c =
    let a = c.args in
    let e = (goal.at.returns-then-not-stopped_inside c).In_default in
    let b = c.read_blocks-all in
    ap (λ (p : Progress). reply (scene_of b.result.scene) (result (progress_of p))) c.of.ensures
    ∙ blocks_once (scene_of a.scene) a.bytes.now a.at (bytes e) (asked e).0 b.result (asked e).1 b.ensures (c.stopped_inside.ensures.behind c.if-not-stopped_inside.true).0

pub returns : goal.returns
returns c =
    let a = c.args in
    let e = (goal.at.returns c).In_default in
    let b = c.read_blocks-all in
    let again = c.read_blocks-before in
    let k = c.stopped_inside.ensures.inside c.if-not-stopped_inside.false in
    ap (λ (p : Progress). reply (scene_of again.result.scene) (result (progress_of p))) c.of-2.ensures
    ∙ blocks_twice (scene_of a.scene) a.bytes.now a.at (bytes e) (asked e).0 b.result (asked e).1 b.ensures k.0 k.1 again.result again.ensures
