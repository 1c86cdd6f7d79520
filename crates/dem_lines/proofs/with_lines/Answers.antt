-- `dem_lines::with_lines` meets its contract: the scene has these lines, and every other part is as it was.
use mathlib.Core.Path.{refl}
use Rattle.dem_scene.specs.Views.{scene_with}
use Rattle.dem_lines.proofs.with_lines.Goals as goal

pub returns : goal.returns
unfolding scene_with
returns c = refl
