-- `dem_blocks::read_blocks` meets its contract: a run that writes nothing is a run that reads.
use mathlib.Core.Path.{ap, ◌∙◌}
use lib.ListN.{length, drop}
use Rattle.dem.specs.Scene.{Scene}
use Rattle.format.specs.Codec.{WrittenRun}
use Rattle.dem.specs.Recording.{Block, blocks}
use Rattle.format.proofs.WrittenLaws.{written_none}
use Rattle.dem_scene.specs.Views.{scene_of}
use Rattle.dem_blocks.specs.Runs.{Wrote, told_with}
use Rattle.dem_blocks.proofs.read_blocks.Goals as goal

pub returns : goal.returns
returns c =
    let a = c.args in
    ap (λ (w : Wrote). w.told) c.write_blocks.ensures
    ∙ ap (λ (w : WrittenRun Scene Block). told_with (scene_of a.given) (length a.d.now) 0 0 w)
    (written_none blocks a.most 0 (scene_of a.given) (drop a.from a.d.now))
