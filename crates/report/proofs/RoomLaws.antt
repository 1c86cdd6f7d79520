-- A number stored from its last digit on, and texts one after the other: what is still to be stored makes the same room as all of it.
-- Assumes nothing.
use mathlib.Core.Path.{◌≡◌, refl, sym, ap, ◌∙◌}
use mathlib.Core.List.{List, [], ◌∷◌, ◌++◌}
use Prim.Native.Nat.{ℕ, zero, suc, ◌+◌, ◌-◌, ◌/◌, ◌%◌, ◌≤◌, ◌<◌}
use native.Mathlib.Nat.{sub-zero, zero-sub, suc-sub-suc}
use native.Mathlib.Omega.{arith}
use lib.ListN.{length, set, drop, replicate, length-append}
use lib.Seq.{sets, set_comm}
use Rattle.format.specs.Digits.{digit_zero}
use Rattle.format.proofs.ListLaws.{sets_append, sets_front}
use Rattle.report.specs.declared.Line.{Line}
use Rattle.report.specs.Lines.{line_room, padded}
use Rattle.report.proofs.DigitLaws.{last_text, last-length}

-- ---- a number, from its last digit

-- A store behind others may come first.
set_first : (xs s : List ℕ) (at i d : ℕ) → at + length xs ≤ i → sets (set s i d) at xs ≡ set (sets s at xs) i d
set_first [] s at i d h = refl
set_first (x ∷ xs) s at i d h =
    ap (λ (l : List ℕ). sets l (suc at) xs) (set_comm s i at d x (λ e. omega arith)) ∙ set_first xs (set s at x) (suc at) i d (omega arith)

one_down : (s : List ℕ) (at j v : ℕ) → sets (set s (at + j) (v % 10 + digit_zero)) at (last_text j (v / 10)) ≡ sets s at (last_text (suc j) v)
one_down s at j v =
    let n = last-length j (v / 10) in
    set_first (last_text j (v / 10)) s at (at + j) (v % 10 + digit_zero) (omega (arith, n))
    ∙ ap (λ (k : ℕ). set (sets s at (last_text j (v / 10))) (at + k) (v % 10 + digit_zero)) (sym n)
    ∙ sets_append s at (last_text j (v / 10)) ((v % 10 + digit_zero) ∷ [])

-- The digits from one place to another, of which the last is stored first.
pub number_down : (s : List ℕ) (at k v : ℕ) → at < k
    → sets (set s (k - 1) (v % 10 + digit_zero)) at (last_text (k - 1 - at) (v / 10)) ≡ sets s at (last_text (k - at) v)
number_down s at k v h =
    let e : k - 1 ≡ at + (k - 1 - at) = omega arith in
    let n : suc (k - 1 - at) ≡ k - at = omega arith in
    ap (λ (i : ℕ). sets (set s i (v % 10 + digit_zero)) at (last_text (k - 1 - at) (v / 10))) e
    ∙ one_down s at (k - 1 - at) v
    ∙ ap (λ (m : ℕ). sets s at (last_text m v)) n

pub number_none : (s : List ℕ) (at k v : ℕ) → k ≤ 0 → sets s at (last_text k v) ≡ s
number_none s at zero v h = refl
number_none s at (suc k) v h = let z : ⊥ = omega arith in absurd z

-- ---- one after the other, from the front

-- Such bytes stand at the front, and the next place is behind them.
pub record Stored (s t xs : List ℕ) (n : ℕ) : Type 0 where
  pub same : t ≡ sets s 0 xs
  pub next : n ≡ length xs

pub stored_none : (s : List ℕ) → Stored s s [] 0
stored_none s = record { same = refl; next = refl }

pub stored_more : {s t xs : List ℕ} {n : ℕ} → Stored s t xs n → (u ys : List ℕ) (m : ℕ) → u ≡ sets t n ys → m ≡ n + length ys
    → Stored s u (xs ++ ys) m
stored_more {s} {t} {xs} {n} d u ys m e f =
    record {
      same = e ∙ ap (λ (l : List ℕ). sets l n ys) d.same ∙ ap (λ (i : ℕ). sets (sets s 0 xs) i ys) (d.next ∙ omega arith)
          ∙ sets_append s 0 xs ys;
      next = omega (arith, d.next, length-append xs ys);
    }

drop_replicate : (k n a : ℕ) → drop k (replicate n a) ≡ replicate (n - k) a
drop_replicate zero n a = rw (sub-zero n)
drop_replicate (suc k) zero a = rw (zero-sub (suc k))
drop_replicate (suc k) (suc n) a = rw (suc-sub-suc n k) (drop_replicate k n a)

-- In a room of zeros: they, the zeros behind them and their length.
pub stored_all : {t xs : List ℕ} {n : ℕ} → Stored (replicate line_room 0) t xs n → n ≤ line_room → (line : Line) → line.text ≡ t → line.len ≡ n
    → line ≡ padded xs
stored_all {t} {xs} {n} d h line et en =
    let text : line.text ≡ (padded xs).text =
    et ∙ d.same ∙ sets_front (replicate line_room 0) xs (omega (arith, d.next))
    ∙ ap (λ (l : List ℕ). xs ++ l) (drop_replicate (length xs) line_room 0)
    in
    let len : line.len ≡ length xs = en ∙ d.next in
    λ i. record { text = text i; len = len i }
