-- The track line as code reads it: its sign, then digit by digit, with what each byte means for the number.
-- Assumes nothing.
use mathlib.Core.Path.{◌≡◌, refl, sym, ap, ◌∙◌}
use mathlib.Core.List.{List, [], ◌∷◌}
use Rattle.std.specs.Char.{is_ascii_digit}
use Rattle.std.specs.List.{starts_with}
use mathlib.Core.Bool.{Bool, true, false, cond, ◌&&◌}
use Prim.Native.Nat.{ℕ, zero, suc, ◌+◌, ◌-◌, ◌*◌, ◌^◌, ◌≤◌, ◌<◌}
use native.Mathlib.Numerals.{add-one}
use native.Mathlib.Omega.{arith}
use borrow.Author.Tests.{lt-ltb, le-ltb, ltb-true, leb-true, leb-false, eq-eqb, ne_eqb, eqb-true, eqb-false}
use lib.Dec.{leb, ltb, eqb, lit<}
use lib.IntN.{ℤ, pos, negsuc, neg_ℤ, ◌-ℤ◌}
use lib.ListN.{length, drop, get_or, drop_of_length-le}
use lib.Seq.{drop-cons, drop-length}
use mir.Syntax.{w16}
use mir.Val.{bool_byte, to_z, of_z, SFits}
use mir.ValLaws.{to_z_pos, to_z-of_z}
use Rattle.format.specs.Refusal.{code, wrong_track}
use Rattle.format.specs.Bytes.{Result, found, refused, map_result}
use Rattle.format.specs.Digits.{line_feed, digit_zero, decimal}
use Rattle.dem.specs.Track.{minus_sign, most_digits, is_digit, read_digits, line_of, read_track, track_number}
use Rattle.format.proofs.ResultLaws.{clash}
use Rattle.format.proofs.LayoutLaws.{and_true}
use Rattle.dem_framing.specs.Tracks.{digits_from}

-- ---- one byte

module _ (s : List ℕ) (at digits value : ℕ) where
  pub line_end : at < length s → (ltb 0 digits && eqb (get_or s at 0) line_feed) ≡ true → found value (drop (at + 1) s) ≡ digits_from s at digits value
  unfolding digits_from read_digits
  line_end h e = rw (add-one, drop-cons s at 0 h) (go (most_digits - digits))
    where
      go : (n : ℕ) → found value (drop (suc at) s)
          ≡ map_result (λ ds. decimal ds value) (read_digits (ltb 0 digits) n (get_or s at 0 ∷ drop (suc at) s))
      go zero = rw e
      go (suc n) = rw e

  pub line_cut : length s ≤ at → refused (code wrong_track) (drop (length s) s) ≡ digits_from s at digits value
  unfolding digits_from read_digits
  line_cut h = rw (drop-length, drop_of_length-le s {i = at} h) (go (most_digits - digits))
    where
      go : (n : ℕ) → refused (code wrong_track) [] ≡ map_result (λ ds. decimal ds value) (read_digits (ltb 0 digits) n [])
      go zero = refl
      go (suc n) = refl

  pub line_wrong : at < length s → (ltb 0 digits && eqb (get_or s at 0) line_feed) ≡ false → (ltb digits most_digits && is_digit (get_or s at 0)) ≡ false
      → refused (code wrong_track) (drop at s) ≡ digits_from s at digits value
  unfolding digits_from read_digits
  line_wrong h e f = rw (drop-cons s at 0 h) (go (most_digits - digits) refl)
    where
      go : (n : ℕ) → most_digits - digits ≡ n → refused (code wrong_track) (get_or s at 0 ∷ drop (suc at) s)
          ≡ map_result (λ ds. decimal ds value) (read_digits (ltb 0 digits) n (get_or s at 0 ∷ drop (suc at) s))
      go zero m = rw e
      go (suc n) m =
          let d : is_digit (get_or s at 0) ≡ false = ap (λ (b : Bool). b && is_digit (get_or s at 0)) (sym (lt-ltb digits most_digits (omega arith))) ∙ f in
          rw (e, d)

  pub line_digit : at < length s → (ltb 0 digits && eqb (get_or s at 0) line_feed) ≡ false → (ltb digits most_digits && is_digit (get_or s at 0)) ≡ true
      → digits_from s at digits value ≡ digits_from s (at + 1) (digits + 1) (value * 10 + (get_or s at 0 - digit_zero))
  unfolding digits_from read_digits
  line_digit h e f =
      let p = and_true (ltb digits most_digits) (is_digit (get_or s at 0)) f in
      let l : digits < most_digits = ltb-true digits most_digits p.0 in
      let m : most_digits - digits ≡ suc (most_digits - (digits + 1)) = omega arith in
      let more : ltb 0 (digits + 1) ≡ true = lt-ltb 0 (digits + 1) (omega arith) in
      rw (m, drop-cons s at 0 h, e, p.1, more, add-one at) (twice (get_or s at 0 - digit_zero) (read_digits true (most_digits - (digits + 1)) (drop (suc at) s)))
    where
      twice : (d : ℕ) (q : Result (List ℕ))
          → map_result (λ ds. decimal ds value) (map_result (λ ds. d ∷ ds) q) ≡ map_result (λ ds. decimal ds (value * 10 + d)) q
      twice d (found ds rest) = refl
      twice d (refused n left) = refl

pub ruleset lines = (line_end, line_cut, line_wrong, line_digit)

-- ---- the number

-- What a digit's test says.
pub another_digit : (digits b : ℕ) → (ltb digits most_digits && is_digit b) ≡ true → (digits < most_digits) × (digit_zero ≤ b) × (b < digit_zero + 10)
another_digit digits b e =
    let p = and_true (ltb digits most_digits) (is_digit b) e in
    let q = and_true (leb digit_zero b) (ltb b (digit_zero + 10)) p.1 in
    (ltb-true digits most_digits p.0, leb-true digit_zero b q.0, ltb-true b (digit_zero + 10) q.1)

pub value_grows : (digits value d : ℕ) → value < 10 ^ digits → d < 10 → value * 10 + d < 10 ^ (digits + 1)
value_grows digits value d h l = rw add-one (omega arith)

-- The test for one.
pub digit_test : (b : ℕ) → is_ascii_digit b ≡ is_digit b
digit_test b = ap (λ (x : Bool). leb digit_zero b && x) (go (leb b 57) refl)
  where
    go : (x : Bool) → leb b 57 ≡ x → x ≡ ltb b (digit_zero + 10)
    go true e = sym (lt-ltb b (digit_zero + 10) (omega (arith, leb-true b 57 e)))
    go false e = sym (le-ltb b (digit_zero + 10) (omega (arith, leb-false b 57 e)))

-- ---- the sign

minus_test : (s : List ℕ) → starts_with eqb s (minus_sign ∷ []) ≡ eqb (get_or s 0 0) minus_sign
minus_test [] = refl
minus_test (b ∷ s) = ap (λ (x : Bool). x && true) (go (eqb minus_sign b) refl) ∙ and_yes (eqb b minus_sign)
  where
    go : (x : Bool) → eqb minus_sign b ≡ x → x ≡ eqb b minus_sign
    go true e = sym (eq-eqb b minus_sign (sym (eqb-true minus_sign b e)))
    go false e = sym (ne_eqb b minus_sign (λ z. eqb-false minus_sign b e (sym z)))

    and_yes : (x : Bool) → (x && true) ≡ x
    and_yes true = refl
    and_yes false = refl

-- A number with its sign.
abbrev pub signed : Bool → ℕ → ℤ
signed negative v = cond negative (neg_ℤ (pos v)) (pos v)

signs : (negative : Bool) (q : Result (List ℕ))
    → map_result (signed negative) (map_result (λ ds. decimal ds 0) q) ≡ map_result track_number (map_result (line_of negative) q)
signs negative (found ds rest) = refl
signs negative (refused n left) = refl

track_signed : (s : List ℕ) (negative : Bool) → eqb (get_or s 0 0) minus_sign ≡ negative
    → map_result (signed negative) (digits_from s (cond negative 1 0) 0 0) ≡ map_result track_number (read_track s)
unfolding digits_from read_track read_digits
track_signed [] true e = clash (cc)
track_signed [] false e = refl
track_signed (b ∷ s) true e = rw e (signs true (read_digits false most_digits s))
track_signed (b ∷ s) false e = rw e (signs false (read_digits false most_digits (b ∷ s)))

-- As code tests for it, and begins behind it.
module _ (s : List ℕ) (negative : Bool) (start : ℕ) (e : negative ≡ starts_with eqb s (minus_sign ∷ []))
    (p : start ≡ bool_byte negative) where
  of_digits : (q : Result ℕ) → q ≡ digits_from s start 0 0 → map_result (signed negative) q ≡ map_result track_number (read_track s)
  of_digits q h =
      ap (map_result (signed negative)) (h ∙ ap (λ (n : ℕ). digits_from s n 0 0) (p ∙ go negative))
      ∙ track_signed s negative (sym (e ∙ minus_test s))
    where
      go : (b : Bool) → bool_byte b ≡ cond b 1 0
      go true = refl
      go false = refl

  pub track_found : (v : ℕ) (rest : List ℕ) → found v rest ≡ digits_from s start 0 0
      → found (signed negative v) rest ≡ map_result track_number (read_track s)
  track_found v rest h = of_digits (found v rest) h

  pub track_refused : (n : ℕ) (left : List ℕ) → refused n left ≡ digits_from s start 0 0
      → refused n left ≡ map_result track_number (read_track s)
  track_refused n left h = of_digits (refused n left) h

-- As code has it, for a number of at most three digits.
module _ (v : ℕ) (h : v < 1000) where
  pub plain-number : to_z w16 v ≡ pos v
  plain-number = to_z_pos w16 v (omega arith)

  minus : pos 0 -ℤ to_z w16 v ≡ neg_ℤ (pos v)
  minus = ap (λ (z : ℤ). pos 0 -ℤ z) plain-number ∙ go v
    where
      go : (n : ℕ) → pos 0 -ℤ pos n ≡ neg_ℤ (pos n)
      go zero = refl
      go (suc n) = rw (lt-ltb 0 (suc n) (omega arith)) (ap negsuc (omega arith))

  minus_fits : SFits w16 (pos 0 -ℤ to_z w16 v)
  minus_fits = rw minus (go v h)
    where
      go : (n : ℕ) → n < 1000 → SFits w16 (neg_ℤ (pos n))
      go zero h = record { sfits = lit< tt }
      go (suc n) h = record { sfits = omega arith }

  pub minus_number : to_z w16 (of_z w16 (pos 0 -ℤ to_z w16 v)) ≡ neg_ℤ (pos v)
  minus_number = to_z-of_z w16 (pos 0 -ℤ to_z w16 v) minus_fits ∙ minus
