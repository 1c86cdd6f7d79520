-- What is read and what is left of it are within the input array.
use Rattle.std.proofs.Common.{◌≡◌, ◌≤◌, length}
use Rattle.demnorm.proofs.write_blocks.Given as goal

abbrev pub invariant-loop : goal.invariant-loop
invariant-loop l =
    (length l.input ≡ length l.fn.input) × (l.start ≤ l.filled.len) × (l.filled.len ≤ length l.input)
