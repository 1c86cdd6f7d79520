use mathlib.Core.Path.{◌≡◌}
use Prim.Native.Nat.{◌+◌}
use lib.ListN.{length, take, drop}
use lib.Seq.{sets}
use Rattle.dem_writer.proofs.put_text.Given as goal

abbrev pub invariant-loop-k : goal.invariant-loop-k
invariant-loop-k l =
    let t = take l.len (drop l.start l.text) in
    (length l.room ≡ length l.initial.room) × (sets l.room (l.at + l.k) (drop l.k t) ≡ sets l.initial.room l.at t)
