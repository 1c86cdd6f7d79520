use mathlib.Core.Path.{◌≡◌}
use Prim.Native.Nat.{◌+◌, ◌≤◌}
use lib.ListN.{length, drop}
use lib.Seq.{sets}
use Rattle.dem_writer.specs.Bytes.{bytes_of}
use Rattle.dem_writer.proofs.put_pieces.Given as goal

abbrev pub invariant-loop-q : goal.invariant-loop-q
invariant-loop-q l =
    (length (bytes_of l.text l.q-items) ≤ length l.room)
    × (l.at + length (bytes_of l.text (drop l.q-index l.q-items)) ≡ length (bytes_of l.text l.q-items))
    × (sets l.room l.at (bytes_of l.text (drop l.q-index l.q-items)) ≡ sets l.initial.room 0 (bytes_of l.text l.q-items))
