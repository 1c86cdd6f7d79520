-- The place stays within the room, and each read that gives bytes moves it on; what stands behind the first place is what was read.
use Rattle.std.proofs.Common.{length, take, drop, ◌-◌, ◌≤◌, ◌≡◌}
use Rattle.std.specs.Io.KnownBytes.{Consumes}
use Rattle.input_pieces.proofs.fill.Given as goal

abbrev pub invariant-loop-len : goal.invariant-loop-len
invariant-loop-len g l =
    (length l.room ≡ length l.fn.room) × (l.len ≤ length l.room) × (l.fn.from ≤ l.len) × (take l.fn.from l.room ≡ take l.fn.from l.fn.room)
    × Consumes (g.R.Read.remaining l.initial.reader) (g.R.Read.remaining l.reader) (drop l.fn.from (take l.len l.room))

abbrev pub decreases-loop-len : goal.decreases-loop-len
decreases-loop-len g l = length l.room - l.len
