-- What is read is within the input array.
use Rattle.std.proofs.Common.{◌≡◌, ◌≤◌, length}
use Rattle.demgiven.proofs.recording.after_blocks.Given as goal

abbrev pub invariant-loop : goal.invariant-loop
invariant-loop g l = (length l.input ≡ length l.fn.input) × (l.filled.len ≤ length l.input)
