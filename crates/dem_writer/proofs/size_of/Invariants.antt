use mathlib.Core.Path.{◌≡◌}
use Prim.Native.Nat.{◌+◌, ◌<◌, ◌^◌}
use lib.ListN.{length, drop}
use Rattle.dem_writer.specs.Bytes.{bytes_of}
use Rattle.dem_writer.proofs.size_of.Given as goal

abbrev pub invariant-loop-q : goal.invariant-loop-q
invariant-loop-q l =
    (length (bytes_of l.text l.q-items) < 2 ^ 64)
    × (l.size + length (bytes_of l.text (drop l.q-index l.q-items)) ≡ length (bytes_of l.text l.q-items))
