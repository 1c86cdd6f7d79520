-- `dem_scene::with_stat` meets its contract: the stat is set here and, by its bits, in the scene; past the last stat nothing is set.
use mathlib.Core.Path.{refl, ap}
use mir.Syntax.{w32}
use mir.Val.{of_z}
use Rattle.dem.specs.Message.{apply}
use Rattle.wire.proofs.SignedLaws.{same_bits}
use Rattle.dem_scene.specs.Views.{scene_with, with_stats}
use Rattle.dem_scene.proofs.Changes.{set_seen}
use Rattle.dem_scene.proofs.with_stat.Goals as goal

pub returns-then-at-lt-STAT_COUNT : goal.returns-then-at-lt-STAT_COUNT
unfolding scene_with apply
returns-then-at-lt-STAT_COUNT c t =
    let x = c.args.x in
    let v = c.args.v in
    rw c.from-at.ensures
    (ap (λ s. with_stats s (scene_with t x))
    (set_seen (of_z w32) x.stats c.args.i _ _ (same_bits w32 v _ (record { sfits = c.well_formed.1.1.0 }) refl)))
