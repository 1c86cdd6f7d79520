-- The normal track line as code writes it: the number's sign, and its digits by its size. And the range of a number that was read.
-- Assumes nothing.
use mathlib.Core.Path.{◌≡◌, refl, sym, ap, ◌∙◌, subst}
use mathlib.Core.List.{List, [], ◌∷◌}
use mathlib.Core.Bool.{Bool, true, false, cond}
use Prim.Native.Nat.{ℕ, ◌+◌, ◌-◌, ◌/◌, ◌%◌, ◌≤◌, ◌<◌}
use native.Mathlib.Omega.{arith}
use borrow.Author.Tests.{lt-ltb, le-ltb, ltb-true, ltb-false}
use lib.Dec.{ltb}
use lib.IntN.{ℤ, pos, negsuc, nat_abs}
use lib.ListN.{length, take, drop}
use lib.Signed.{lt_z}
use mir.Syntax.{w16}
use mir.Val.{to_z, of_z, SFits}
use mir.ValLaws.{to_z-of_z}
use Rattle.format.specs.Bytes.{Bytes, Result, found, refused, map_result}
use Rattle.format.specs.Digits.{line_feed, digit_zero}
use Rattle.dem.specs.Track.{TrackLine, minus_sign, read_track, track_number, digits_of, normal_track, digit_bytes, write_track}
use Rattle.format.proofs.ResultLaws.{clash}
use Rattle.dem.proofs.TrackLaws.{track-sound, track_range, digit-length}

-- ---- digits, by the number's size

pub one_digit : (v : ℕ) → v < 10 → digits_of v ≡ (v ∷ [])
unfolding digits_of
one_digit v h = rw (lt-ltb v 10 h)

pub two_digits : (v : ℕ) → 10 ≤ v → v < 100 → digits_of v ≡ (v / 10 ∷ v % 10 ∷ [])
unfolding digits_of
two_digits v l h = rw (le-ltb v 10 l, lt-ltb v 100 h)

pub three-digits : (v : ℕ) → 100 ≤ v → digits_of v ≡ (v / 100 ∷ v / 10 % 10 ∷ v % 10 ∷ [])
unfolding digits_of
three-digits v h = rw (le-ltb v 10 (omega arith), le-ltb v 100 h)

pub digits-most : (v : ℕ) → length (digits_of v) ≤ 3
unfolding digits_of
digits-most v = go (ltb v 10) (ltb v 100)
  where
    go : (x y : Bool) → length (cond x (v ∷ []) (cond y (v / 10 ∷ v % 10 ∷ []) (v / 100 ∷ v / 10 % 10 ∷ v % 10 ∷ []))) ≤ 3
    go true y = omega arith
    go false true = omega arith
    go false false = omega arith

-- As code has them: the last bytes of a line of three digits.
module _ (v : ℕ) (small : v < 1000) (n d e f : ℕ) (p : n ≡ length (digits_of v)) (q : d ≡ v / 100 + digit_zero)
    (r : e ≡ v / 10 % 10 + digit_zero) (t : f ≡ v % 10 + digit_zero) where
  pub digits_line : take (4 - (3 - n)) (drop (3 - n) (d ∷ e ∷ f ∷ line_feed ∷ [])) ≡ digit_bytes (digits_of v)
  digits_line = rw (p, q, r, t) (go (ltb v 10) refl (ltb v 100) refl)
    where
      go : (x : Bool) → ltb v 10 ≡ x → (y : Bool) → ltb v 100 ≡ y
          → take (4 - (3 - length (digits_of v)))
          (drop (3 - length (digits_of v)) ((v / 100 + digit_zero) ∷ (v / 10 % 10 + digit_zero) ∷ (v % 10 + digit_zero) ∷ line_feed ∷ []))
          ≡ digit_bytes (digits_of v)
      go true a y b =
          let l : v < 10 = ltb-true v 10 a in
          let m : v % 10 ≡ v = omega arith in
          rw (one_digit v l, m)
      go false a true b =
          let l : v < 100 = ltb-true v 100 b in
          let k : 10 ≤ v = ltb-false v 10 a in
          let m : v / 10 % 10 ≡ v / 10 = omega arith in
          rw (two_digits v k l, m)
      go false a false b = rw (three-digits v (ltb-false v 100 b))

-- ---- the line

-- A signed number that was handed on is the same.
pub same_magnitude : (z : ℤ) (v : ℕ) → SFits w16 z → v ≡ nat_abs (to_z w16 (of_z w16 z)) → v ≡ nat_abs z
same_magnitude z v f e = e ∙ ap nat_abs (to_z-of_z w16 z f)

-- With its sign, as code tests it, and the digits of the number without it.
abbrev Line : ℤ → ℤ → Bool → Type 0
Line z y b =
    (v : ℕ) → v ≡ nat_abs y → lt_z y (pos 0) ≡ b → write_track (normal_track z) ≡ cond b (minus_sign ∷ digit_bytes (digits_of v)) (digit_bytes (digits_of v))

pub line : (z : ℤ) (b : Bool) → SFits w16 z → Line z (to_z w16 (of_z w16 z)) b
unfolding write_track
line z b f = subst (λ (y : ℤ). Line z y b) (sym (to_z-of_z w16 z f)) (go z b)
  where
    go : (z : ℤ) (b : Bool) → Line z z b
    go (pos n) true v e t = let z : ⊥ = omega (arith, ltb-true n 0 t) in absurd z
    go (pos n) false v e t = ap (λ (m : ℕ). digit_bytes (digits_of m)) (sym e)
    go (negsuc n) true v e t = ap (λ (m : ℕ). minus_sign ∷ digit_bytes (digits_of m)) (sym e)
    go (negsuc n) false v e t = clash (cc)

pub line-size : (z : ℤ) (b : Bool) → SFits w16 z → (v n : ℕ) → v ≡ nat_abs (to_z w16 (of_z w16 z)) → n ≡ length (digits_of v) → lt_z (to_z w16 (of_z w16 z)) (pos 0) ≡ b
    → cond b (n + 1 + 1) (n + 1) ≡ length (write_track (normal_track z))
line-size z b f v n e m t = go b ∙ ap length (sym (line z b f v e t))
  where
    go : (b : Bool) → cond b (n + 1 + 1) (n + 1) ≡ length (cond b (minus_sign ∷ digit_bytes (digits_of v)) (digit_bytes (digits_of v)))
    go true = omega (arith, digit-length (digits_of v))
    go false = omega (arith, digit-length (digits_of v))

-- ---- a number that was read

pub number_range : (s : List ℕ) (number : ℤ) (next : ℕ) → Bytes s → found number (drop next s) ≡ map_result track_number (read_track s)
    → nat_abs number < 1000
number_range s number next h e = go (read_track s) refl e
  where
    go : (q : Result TrackLine) → read_track s ≡ q → found number (drop next s) ≡ map_result track_number q → nat_abs number < 1000
    go (found t rest) p e =
        let n : number ≡ track_number t = cc in
        rw n (track_range t (track-sound s t rest h p).good)
    go (refused n left) p e = clash (cc)
