use mathlib.Core.Path.{◌≡◌}
use Prim.Native.Nat.{◌-◌}
use lib.Seq.{sets}
use Rattle.report.specs.Lines.{decimal_text}
use Rattle.report.proofs.DigitLaws.{last_text}
use Rattle.report.proofs.put_number.Given as goal

-- The digits left, stored from the first place on, make the room that is asked for.
abbrev pub invariant-loop-k : goal.invariant-loop-k
invariant-loop-k l = sets l.room l.at (last_text (l.k - l.at) l.rest) ≡ sets l.initial.room l.at (decimal_text l.v)
