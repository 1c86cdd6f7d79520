-- `dem_scene::cleared_scene` meets its contract: its tables are zeros as they compute, and `cleared_rest` has the rest.
use Rattle.dem_scene.specs.Views.{scene_with}
use Rattle.dem_scene.proofs.cleared_scene.Goals as goal

pub returns : goal.returns
unfolding scene_with
returns c = c.cleared_rest.ensures _
