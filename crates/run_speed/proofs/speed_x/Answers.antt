-- `run_speed::speed_x` meets its contract: what code finds in the records, the definition finds in its own.
use Rattle.std.proofs.Common.{arith}
use Rattle.std.proofs.lemmas.Grind.{common_steps}
use Rattle.dem_scene.specs.Views.{scene_with}
use Rattle.dem_scene.proofs.Changes.{seen_at}
use Rattle.run_speed.specs.Coordinates.{x_of}
use Rattle.run_speed.proofs.speed_x.Goals as goal

pub returns-then-scene-i : goal.returns-then-scene-i
unfolding scene_with x_of
returns-then-scene-i c = grind (arith, common_steps, seen_at)
