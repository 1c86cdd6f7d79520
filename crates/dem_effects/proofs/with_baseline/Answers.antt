-- `dem_effects::with_baseline` meets its contract: the baseline is set here and, as the scene sees it, there.
use mathlib.Core.Path.{refl, ap}
use mathlib.Core.List.{List}
use Prim.Native.Nat.{ℕ}
use Rattle.dem.specs.Message.{apply}
use Rattle.dem_scene.specs.Views.{scene_with, scene_of, baseline_numbers}
use Rattle.dem_scene.proofs.Changes.{set_seen}
use Rattle.dem_effects.proofs.Tables.{with_baselines}
use Rattle.dem_effects.proofs.with_baseline.Goals as goal

pub returns-then-i-lt-ENTITY_COUNT : goal.returns-then-i-lt-ENTITY_COUNT
unfolding scene_with apply
returns-then-i-lt-ENTITY_COUNT c =
    let a = c.args in
    let s = scene_of a.s in
    rw c.index_of-i.ensures
    (ap (λ (l : List (List ℕ)). with_baselines l s)
    (set_seen baseline_numbers a.s.baselines a.entity.0 (record { look = a.look; pose = a.pose }) _ refl))
