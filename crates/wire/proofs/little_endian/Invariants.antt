use Prim.Native.Nat.{◌+◌, ◌-◌}
use mathlib.Core.Path.{◌≡◌}
use lib.ListN.{take, drop}
use Rattle.format.specs.Bytes.{le_read}
use Rattle.wire.proofs.little_endian.Given as goal

abbrev pub invariant-loop-k : goal.invariant-loop-k
invariant-loop-k l = l.v ≡ le_read (take (l.width - l.k) (drop (l.at + l.k) l.s))
