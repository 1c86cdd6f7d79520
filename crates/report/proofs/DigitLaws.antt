-- Decimal digits: read back they are the number, the first is no needless zero, and there is one more for each division by 10.
-- Assumes nothing.
use mathlib.Core.Path.{◌≡◌, refl, sym, ap, ◌∙◌}
use mathlib.Core.List.{List, [], ◌∷◌, ◌++◌, map, map-append}
use mathlib.Core.Bool.{Bool, true, false}
use Prim.Native.Nat.{ℕ, zero, suc, ◌+◌, ◌*◌, ◌/◌, ◌%◌, ◌^◌, ◌≤◌, ◌<◌}
use native.Mathlib.Nat.{pow-suc, one-le-pow}
use native.Mathlib.Omega.{arith}
use borrow.Author.Tests.{lt-ltb, le-ltb, ltb-true, ltb-false}
use lib.Dec.{ltb, lit<}
use lib.ListN.{length, length-append}
use Rattle.format.specs.Digits.{digit_zero, decimal, Digits}
use Rattle.format.proofs.ResultLaws.{clash}
use Rattle.report.specs.Lines.{decimal_digits, most_digits, decimal_text, refusal_line}

digits_last : (f v : ℕ) → v < 10 → decimal_digits (suc f) v ≡ (v ∷ [])
unfolding decimal_digits
digits_last f v h = rw (lt-ltb v 10 h)

digits_more : (f v : ℕ) → 10 ≤ v → decimal_digits (suc f) v ≡ decimal_digits f (v / 10) ++ (v % 10 ∷ [])
unfolding decimal_digits
digits_more f v h = rw (le-ltb v 10 h)

-- A number of at most one digit more than f, by its size.
module _ (f v : ℕ) (P : List ℕ → Type 0) (last : v < 10 → P (v ∷ [])) (more : 10 ≤ v → P (decimal_digits f (v / 10) ++ (v % 10 ∷ []))) where
  by_size : P (decimal_digits (suc f) v)
  by_size = go (ltb v 10) refl
    where
      go : (b : Bool) → ltb v 10 ≡ b → P (decimal_digits (suc f) v)
      go true e = let h : v < 10 = ltb-true v 10 e in rw (digits_last f v h) (last h)
      go false e = let h : 10 ≤ v = ltb-false v 10 e in rw (digits_more f v h) (more h)

tenth-below : (f v : ℕ) → v < 10 ^ suc f → v / 10 < 10 ^ f
tenth-below f v h = omega arith

-- ---- what the digits say

decimal_snoc : (ds : List ℕ) (d a : ℕ) → decimal (ds ++ (d ∷ [])) a ≡ decimal ds a * 10 + d
decimal_snoc [] d a = refl
decimal_snoc (x ∷ ds) d a = decimal_snoc ds d (a * 10 + x)

-- Read back, the digits are the number.
pub digits_back : (f v : ℕ) → v < 10 ^ f → decimal (decimal_digits f v) 0 ≡ v
unfolding decimal_digits
digits_back zero v h = omega arith
digits_back (suc f) v h =
    by_size f v (λ ds. decimal ds 0 ≡ v) (λ l. omega arith)
    (λ l. decimal_snoc (decimal_digits f (v / 10)) (v % 10) 0 ∙ omega (arith, digits_back f (v / 10) (tenth-below f v h)))

snoc-digits : (ds : List ℕ) (d : ℕ) → Digits ds → d < 10 → Digits (ds ++ (d ∷ []))
snoc-digits [] d h l = (l, tt)
snoc-digits (x ∷ ds) d h l = (h.0, snoc-digits ds d h.1 l)

pub digits_ten : (f v : ℕ) → Digits (decimal_digits f v)
unfolding decimal_digits
digits_ten zero v = tt
digits_ten (suc f) v = by_size f v Digits (λ l. (l, tt)) (λ l. snoc-digits (decimal_digits f (v / 10)) (v % 10) (digits_ten f (v / 10)) (omega arith))

-- Only the number 0 has a zero in front.
pub no_zero_lem : (f v : ℕ) (ds : List ℕ) → v < 10 ^ f → decimal_digits f v ≡ (0 ∷ ds) → v ≡ 0
unfolding decimal_digits
no_zero_lem zero v ds h e = clash (cc)
no_zero_lem (suc f) v ds h e =
    by_size f v (λ us. us ≡ (0 ∷ ds) → v ≡ 0) (λ l q. cc)
    (λ l. go (decimal_digits f (v / 10)) (λ us. no_zero_lem f (v / 10) us (tenth-below f v h)) (digits_back f (v / 10) (tenth-below f v h)) l) e
  where
    go : (us : List ℕ) → ((ts : List ℕ) → us ≡ (0 ∷ ts) → v / 10 ≡ 0) → decimal us 0 ≡ v / 10 → 10 ≤ v → us ++ (v % 10 ∷ []) ≡ (0 ∷ ds) → v ≡ 0
    go [] ih b l e = let z : ⊥ = omega arith in absurd z
    go (x ∷ us) ih b l e =
        let x0 : x ≡ 0 = cc in
        let z : ⊥ = omega (arith, ih us (ap (λ (y : ℕ). y ∷ us) x0)) in
        absurd z

-- ---- how many there are

pub single : (f v : ℕ) → v < 10 → length (decimal_digits (suc f) v) ≡ 1
single f v h = ap length (digits_last f v h)

-- As many more as the number has tens.
pub digits_counted : (f k v : ℕ) → k < f → 10 ^ k ≤ v → v < 10 * 10 ^ k → length (decimal_digits f v) ≡ k + 1
digits_counted zero k v l p q = let z : ⊥ = omega arith in absurd z
digits_counted (suc f) zero v l p q = single f v (omega arith)
digits_counted (suc f) (suc k) v l p q =
    let e = pow-suc 10 k in
    let some : 1 ≤ 10 ^ k = one-le-pow k 10 (lit< tt) in
    ap length (digits_more f v (omega arith)) ∙ length-append (decimal_digits f (v / 10)) (v % 10 ∷ [])
    ∙ omega (arith, digits_counted f k (v / 10) (omega arith) (omega arith) (omega arith))

pub digits-most : (f v : ℕ) → length (decimal_digits f v) ≤ f
unfolding decimal_digits
digits-most zero v = omega arith
digits-most (suc f) v =
    by_size f v (λ ds. length ds ≤ suc f) (λ l. omega arith)
    (λ l. omega (arith, length-append (decimal_digits f (v / 10)) (v % 10 ∷ []), digits-most f (v / 10)))

-- ---- their bytes, from the last

-- The last k digits.
abbrev pub last_text : ℕ → ℕ → List ℕ
last_text zero v = []
last_text (suc k) v = last_text k (v / 10) ++ ((v % 10 + digit_zero) ∷ [])

pub last-length : (k v : ℕ) → length (last_text k v) ≡ k
last-length zero v = refl
last-length (suc k) v = length-append (last_text k (v / 10)) ((v % 10 + digit_zero) ∷ []) ∙ omega (arith, last-length k (v / 10))

abbrev digit_bytes : List ℕ → List ℕ
digit_bytes ds = map (λ d. d + digit_zero) ds

digits-text : (f v : ℕ) → digit_bytes (decimal_digits f v) ≡ last_text (length (decimal_digits f v)) v
unfolding decimal_digits
digits-text zero v = refl
digits-text (suc f) v =
    by_size f v (λ ds. digit_bytes ds ≡ last_text (length ds) v)
    (λ l. let e : v ≡ v % 10 = omega arith in ap (λ (d : ℕ). (d + digit_zero) ∷ []) e)
    (λ l. go (decimal_digits f (v / 10)) (digits-text f (v / 10)))
  where
    go : (us : List ℕ) → digit_bytes us ≡ last_text (length us) (v / 10) → digit_bytes (us ++ (v % 10 ∷ [])) ≡ last_text (length (us ++ (v % 10 ∷ []))) v
    go us e =
        let n : length (us ++ (v % 10 ∷ [])) ≡ suc (length us) = length-append us (v % 10 ∷ []) ∙ omega arith in
        map-append (λ d. d + digit_zero) us (v % 10 ∷ []) ∙ ap (λ (l : List ℕ). l ++ ((v % 10 + digit_zero) ∷ [])) e ∙ ap (λ (k : ℕ). last_text k v) (sym n)

pub text-last : (v n : ℕ) → n ≡ length (decimal_digits most_digits v) → decimal_text v ≡ last_text n v
unfolding decimal_text
text-last v n e = digits-text most_digits v ∙ ap (λ (k : ℕ). last_text k v) (sym e)

-- ---- an example: `refused 6 at 19`

pub refused_6-at_19 : refusal_line 6 19 ≡ (114 ∷ 101 ∷ 102 ∷ 117 ∷ 115 ∷ 101 ∷ 100 ∷ 32 ∷ 54 ∷ 32 ∷ 97 ∷ 116 ∷ 32 ∷ 49 ∷ 57 ∷ 10 ∷ [])
unfolding refusal_line decimal_text decimal_digits
refused_6-at_19 = refl
