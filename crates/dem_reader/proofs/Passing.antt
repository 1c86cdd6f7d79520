-- Messages of which only the place behind them is told.
-- Assumes nothing.
use mathlib.Core.Path.{◌≡◌, refl, sym, ap, ◌∙◌, subst}
use mathlib.Core.List.{List, ◌∷◌}
use mathlib.Core.Bool.{Bool, true, false, ◌||◌}
use Prim.Native.Nat.{ℕ}
use borrow.Author.Tests.{eqb-true}
use lib.Dec.{eqb}
use Rattle.format.specs.Bytes.{Result, found, refused, map_result}
use Rattle.format.specs.Layout.{Value, number, put, parse}
use Rattle.dem.specs.Scene.{Context}
use Rattle.dem.specs.Message.{kind_layout}
use Rattle.format.proofs.ResultLaws.{clash}
use Rattle.dem_parts.specs.Kinds.{kind_in}
use Rattle.dem_reader.specs.Passed.{is_passed, passed_in}

module _ (x : Context) (n : ℕ) (bs : List ℕ) where
  -- There is a message in front of the place that was told.
  pub record Passed (rest : List ℕ) : Type 0 where
    pub values : List Value
    pub read : found (number n ∷ values) rest ≡ kind_in x n bs

  pub passed-read : (rest : List ℕ) → found (tt {0}) rest ≡ passed_in x n bs → Passed rest
  unfolding passed_in kind_in
  passed-read rest = go (parse (kind_layout x n) bs) refl
    where
      go : (r : Result (List Value)) → parse (kind_layout x n) bs ≡ r
          → found (tt {0}) rest ≡ map_result (λ (us : List Value). tt {0}) (put (number n) r) → Passed rest
      go (found us behind) f p =
          let e : rest ≡ behind = cc in
          record { values = us; read = ap (found (number n ∷ us)) e ∙ sym (ap (put (number n)) f) }
      go (refused k left) f p = clash (cc)

  pub passed-refused : (k : ℕ) (left : List ℕ) → refused k left ≡ passed_in x n bs → refused k left ≡ kind_in x n bs
  unfolding passed_in kind_in
  passed-refused k left = go (parse (kind_layout x n) bs) refl
    where
      go : (r : Result (List Value)) → parse (kind_layout x n) bs ≡ r
          → refused k left ≡ map_result (λ (us : List Value). tt {0}) (put (number n) r)
          → refused k left ≡ put (number n) (parse (kind_layout x n) bs)
      go (found us behind) f p = clash (cc)
      go (refused m behind) f p =
          let a : k ≡ m = cc in
          let b : left ≡ behind = cc in
          (λ i. refused (a i) (b i)) ∙ sym (ap (put (number n)) f)

-- What holds where one of some numbers was met, and of one more, holds of one of them all.
pub one_of : (P : ℕ → Type 0) (n k : ℕ) (b : Bool) → (b ≡ true → P n) → P k → (b || eqb n k) ≡ true → P n
one_of P n k true q p h = q refl
one_of P n k false q p h = subst P (sym (eqb-true n k h)) p

-- Of a number that is passed.
pub each-passed : (P : ℕ → Type 0) → P 8 → P 9 → P 13 → P 18 → P 19 → P 23 → P 26 → (n : ℕ) → is_passed n ≡ true → P n
each-passed P p8 p9 p13 p18 p19 p23 p26 n =
    one_of P n 26 _ (one_of P n 23 _ (one_of P n 19 _ (one_of P n 18 _ (one_of P n 13 _ (one_of P n 9 _
    (λ h. subst P (sym (eqb-true n 8 h)) p8) p9) p13) p18) p19) p23) p26
