use Prim.Native.Nat.{◌-◌}
use Rattle.strings.proofs.Scans.{Run}
use Rattle.strings.proofs.plain_run.Given as goal

abbrev pub invariant-loop-n : goal.invariant-loop-n
invariant-loop-n l = Run l.s l.start l.room l.n

abbrev pub decreases-loop-n : goal.decreases-loop-n
decreases-loop-n l = l.room - l.n
