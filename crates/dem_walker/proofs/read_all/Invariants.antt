use Prim.Native.Nat.{◌-◌}
use lib.ListN.{length}
use Rattle.dem_scene.specs.Views.{scene_of}
use Rattle.dem_walker.proofs.Walking.{Going}
use Rattle.dem_walker.proofs.read_all.Given as goal

abbrev pub invariant-loop-found : goal.invariant-loop-found
invariant-loop-found l = Going (scene_of l.scene) l.block (scene_of l.current) l.at l.messages

abbrev pub decreases-loop-found : goal.decreases-loop-found
decreases-loop-found l = length l.block - l.at
