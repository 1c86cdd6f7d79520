-- `dem_scene::with_colours` meets its contract: the line is set here and, as the scene sees it, there; past the last line nothing is set.
use mathlib.Core.Path.{refl, ap}
use lib.IntN.{pos}
use Rattle.dem.specs.Message.{apply}
use Rattle.dem.specs.Scene.{PlayerLine}
use Rattle.dem_scene.specs.Views.{scene_with, line_of}
use Rattle.dem_scene.proofs.Changes.{with_players, set_seen, seen_at, line_equal}
use Rattle.dem_scene.proofs.with_colours.Goals as goal

pub returns-then-at-lt-PLAYER_COUNT : goal.returns-then-at-lt-PLAYER_COUNT
unfolding scene_with apply
returns-then-at-lt-PLAYER_COUNT c t =
    let x = c.args.x in
    let p = c.args.p.0 in
    rw c.from-at.ensures
    (ap (λ l. with_players l (scene_with t x))
    (set_seen line_of x.players p _ _
    (line_equal _ _ (ap (λ (l : PlayerLine). l.frags) (seen_at line_of x.players p (record { frags = pos 0; colours = 0 }))) refl)))
