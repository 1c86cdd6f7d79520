-- The refusals that reading answers are 1 to 11.
-- Assumes nothing.
use mathlib.Core.Path.{◌≡◌, refl}
use mathlib.Core.List.{List, [], ◌∷◌}
use mathlib.Core.Bool.{Bool, true}
use Prim.Native.Nat.{ℕ, ◌≤◌}
use Rattle.format.specs.Refusal.{code, wrong_track, cut_block, long_block, wrong_angle, cut_message, unknown_message, wrong_string, reserved_bit, wrong_number}
use Rattle.format.specs.Refusal.{wrong_time, after_disconnect}
use Rattle.format.proofs.ResultLaws.{one_of, Answers, one-most}

abbrev reading_refusals : List ℕ
reading_refusals =
    code wrong_track ∷ code cut_block ∷ code long_block ∷ code wrong_angle ∷ code cut_message ∷ code unknown_message ∷ code wrong_string
    ∷ code reserved_bit ∷ code wrong_number ∷ code wrong_time ∷ code after_disconnect ∷ []

-- 0, or a number that reading answers.
abbrev pub listed : ℕ → Bool
listed n = one_of (0 ∷ reading_refusals) n

pub answers : Answers listed
answers = record { met = refl; cut = refl; string = refl }

abbrev pub reading_maximum : ℕ
reading_maximum = code after_disconnect

pub listed-most : (n : ℕ) → listed n ≡ true → n ≤ reading_maximum
listed-most n h = one-most reading_maximum (0 ∷ reading_refusals) n refl h
