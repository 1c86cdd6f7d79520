use Prim.Native.Nat.{◌≤◌}
use Rattle.dem.proofs.CountLaws.{CountedTo}
use Rattle.dem_scene.proofs.count_marks.Given as goal

abbrev pub invariant-loop-set : goal.invariant-loop-set
invariant-loop-set l = record { counted : CountedTo l.present l.set-index l.count; few : l.count ≤ l.set-index }
