-- The place is no greater than the longest recording here; each run is behind the one before.
use Rattle.std.proofs.Common.{length, ◌-◌, ◌≤◌}
use Rattle.run_cases.proofs.hex.unpack.Given as goal

abbrev pub invariant-loop-from : goal.invariant-loop-from
invariant-loop-from l = l.at ≤ 8192

abbrev pub decreases-loop-from : goal.decreases-loop-from
decreases-loop-from l = length l.packed - l.from
