-- A refusal that code answers with is read back from its number, and none has the number 0.
-- Assumes nothing.
use mathlib.Core.Path.{◌≡◌, refl, ap}
use mathlib.Core.Logic.{◌≢◌}
use mathlib.Core.Bool.{cond}
use Prim.Native.Nat.{ℕ}
use native.Mathlib.Omega.{arith}
use lib.Dec.{eqb}
use Rattle.format.specs.Refusals.{number_of}
use Rattle.format.specs.declared.refusal.Refused.{Refused}
use Rattle.format.specs.declared.refusal.Refusal.{Refusal}
use Rattle.format.specs.declared.refusal.Refusal.TheVariants.{WrongTrack, CutBlock, LongBlock, WrongAngle, CutMessage, UnknownMessage, WrongString, ReservedBit, WrongNumber, WrongTime, AfterDisconnect, ShortRoom, Unreadable, WrongScene}

abbrev pub refusal_from : ℕ → Refusal
refusal_from n =
    cond (eqb n 1) WrongTrack (cond (eqb n 2) CutBlock (cond (eqb n 3) LongBlock (cond (eqb n 4) WrongAngle (cond (eqb n 5) CutMessage
    (cond (eqb n 6) UnknownMessage (cond (eqb n 7) WrongString (cond (eqb n 8) ReservedBit (cond (eqb n 9) WrongNumber (cond (eqb n 10) WrongTime
    (cond (eqb n 11) AfterDisconnect (cond (eqb n 12) ShortRoom (cond (eqb n 13) Unreadable WrongScene))))))))))))

pub refusal_back : (r : Refusal) → refusal_from (number_of r) ≡ r
refusal_back WrongTrack = refl
refusal_back CutBlock = refl
refusal_back LongBlock = refl
refusal_back WrongAngle = refl
refusal_back CutMessage = refl
refusal_back UnknownMessage = refl
refusal_back WrongString = refl
refusal_back ReservedBit = refl
refusal_back WrongNumber = refl
refusal_back WrongTime = refl
refusal_back AfterDisconnect = refl
refusal_back ShortRoom = refl
refusal_back Unreadable = refl
refusal_back WrongScene = refl

pub number_some : (r : Refusal) → number_of r ≢ 0
number_some WrongTrack e = omega (arith, e)
number_some CutBlock e = omega (arith, e)
number_some LongBlock e = omega (arith, e)
number_some WrongAngle e = omega (arith, e)
number_some CutMessage e = omega (arith, e)
number_some UnknownMessage e = omega (arith, e)
number_some WrongString e = omega (arith, e)
number_some ReservedBit e = omega (arith, e)
number_some WrongNumber e = omega (arith, e)
number_some WrongTime e = omega (arith, e)
number_some AfterDisconnect e = omega (arith, e)
number_some ShortRoom e = omega (arith, e)
number_some Unreadable e = omega (arith, e)
number_some WrongScene e = omega (arith, e)

-- With its place.
abbrev pub refused_from : ℕ → ℕ → Refused
refused_from n p = record { refusal = refusal_from n; place = p }

pub refused_back : (r : Refused) → refused_from (number_of r.refusal) r.place ≡ r
refused_back r = λ i. record { refusal = refusal_back r.refusal i; place = r.place }
