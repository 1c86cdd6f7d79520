-- `dem_recordings::write_all` meets its contract: it is the run of all blocks, from the scene at the start.
use mathlib.Core.Path.{ap, ◌∙◌}
use Rattle.dem.specs.Scene.{in_range}
use Rattle.dem.proofs.RangeLaws.{fresh_range}
use Rattle.dem_recordings.proofs.write_all.Goals as goal

pub write_blocks-requires : goal.write_blocks-requires
write_blocks-requires c = (c.requires.0, ap in_range c.start.ensures ∙ fresh_range, c.requires.1)
