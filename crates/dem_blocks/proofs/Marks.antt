-- Marks as places: what an update and a time do to the marks, and a list that is made one element after the other.
-- Assumes nothing.
use mathlib.Core.Path.{◌≡◌, refl, sym, ap, ap₂, ◌∙◌, subst}
use mathlib.Core.Bool.{Bool, true, false}
use mathlib.Core.List.{List, [], ◌∷◌, ◌++◌, map}
use Prim.Native.Nat.{ℕ, zero, suc, ◌+◌, ◌≤◌, ◌<◌}
use native.Mathlib.Omega.{arith}
use mir.Val.{bool_byte}
use borrow.Author.Tests.{lt-ltb, le-ltb, ltb-true, ltb-false, eqb-true, eqb-false}
use lib.Dec.{ltb, eqb}
use lib.ListN.{length, take, get_or, set, replicate, length-map, length-set, get_or-map}
use lib.Seq.{take-suc, take-suc-set, get_or-set_same, get_or-set_other, set_out}
use Rattle.dem.specs.Limits.{entity_count}
use Rattle.format.specs.Bytes.{bit_of}
use Rattle.format.proofs.ListLaws.{map_set}
use Rattle.dem_blocks.specs.Marks.{marked}

-- ---- a list that holds, up to a place, what another one is mapped to

module _ {A B : Type 0} (f : A → B) (xs : List A) where
  abbrev pub Made : List B → ℕ → Type 0
  Made ys i = (i ≤ length xs) × (length ys ≡ length xs) × (take i ys ≡ take i (map f xs))

  pub made_more : (ys : List B) (i : ℕ) (d : A) → Made ys i → i < length xs → Made (set ys i (f (get_or xs i d))) (i + 1)
  made_more ys i d m l =
      let more : suc i ≡ i + 1 = omega arith in
      let new = set ys i (f (get_or xs i d)) in
      let taken : take (suc i) new ≡ take (suc i) (map f xs) =
      take-suc-set ys i _ (omega (arith, m.1)) ∙ ap₂ (λ (zs : List B) (z : B). zs ++ z ∷ []) m.2 (sym (get_or-map f xs i d))
      ∙ sym (take-suc (map f xs) i (f d) (omega (arith, length-map xs f))) in
      (omega arith, length-set ys i _ ∙ m.1, subst (λ (k : ℕ). take k new ≡ take k (map f xs)) more taken)

-- A mark as code turns it into a number.
pub bit_byte : (b : Bool) → bool_byte b ≡ bit_of b
bit_byte true = refl
bit_byte false = refl

-- ---- marks that are no further than a place

abbrev pub Within : List ℕ → ℕ → Type 0
Within marks n = (length marks ≡ entity_count) × ((i : ℕ) → get_or marks i 0 ≤ n)

pub within_more : (marks : List ℕ) (m n : ℕ) → Within marks m → m ≤ n → Within marks n
within_more marks m n w l = (w.0, λ i. omega (arith, w.1 i))

within_set : (marks : List ℕ) (i n m : ℕ) → Within marks m → n ≤ m → Within (set marks i n) m
within_set marks i n m w l = (length-set marks i n ∙ w.0, λ j. go j (eqb j i) refl)
  where
    go : (j : ℕ) (b : Bool) → eqb j i ≡ b → get_or (set marks i n) j 0 ≤ m
    go j false e = omega (arith, get_or-set_other marks i j n 0 (eqb-false j i e), w.1 j)
    go j true e = here (ltb i (length marks)) refl
      where
        here : (b : Bool) → ltb i (length marks) ≡ b → get_or (set marks i n) j 0 ≤ m
        here true q = omega (arith, ap (λ (k : ℕ). get_or (set marks i n) k 0) (eqb-true j i e), get_or-set_same marks i n 0 (ltb-true i (length marks) q))
        here false q = omega (arith, ap (λ (l : List ℕ). get_or l j 0) (set_out marks i n (ltb-false i (length marks) q)), w.1 j)

-- An update marks its entity, and no other.
pub marked_set : (since : ℕ) (marks : List ℕ) (i n : ℕ) → since < n → marked since (set marks i n) ≡ set (marked since marks) i true
marked_set since marks i n l = map_set (ltb since) marks i n ∙ ap (set (marked since marks) i) (lt-ltb since n l)

-- From a place on that no mark is behind, none is set.
pub marked_none : (marks : List ℕ) (n : ℕ) → Within marks n → marked n marks ≡ replicate entity_count false
marked_none marks n w = all marks w.1 ∙ ap (λ (k : ℕ). replicate k false) w.0
  where
    all : (l : List ℕ) → ((i : ℕ) → get_or l i 0 ≤ n) → marked n l ≡ replicate (length l) false
    all [] h = refl
    all (x ∷ xs) h = ap₂ ◌∷◌ (le-ltb n x (h 0)) (all xs (λ i. h (suc i)))

-- The marks and the last time's place are those of messages before a place, in a block that ends at another.
pub record Before (marks : List ℕ) (since at end : ℕ) : Type 0 where
  pub marks_within : Within marks at
  pub time_before : since < at
  pub marks_inside : Within marks end
  pub time_inside : since ≤ end

module _ (marks : List ℕ) (since at end : ℕ) (b : Before marks since at end) (to : ℕ) (l : at < to) where
  pub before_later : Before marks since to end
  before_later =
      record {
        marks_within = within_more marks at to b.marks_within (omega arith);
        time_before = omega (arith, b.time_before);
        marks_inside = b.marks_inside;
        time_inside = b.time_inside;
      }

  pub before-marked : (i n : ℕ) → n ≤ to → n ≤ end → Before (set marks i n) since to end
  before-marked i n m o =
      record {
        marks_within = within_set marks i n to before_later.marks_within m;
        time_before = omega (arith, b.time_before);
        marks_inside = within_set marks i n end b.marks_inside o;
        time_inside = b.time_inside;
      }

  pub before_timed : at ≤ end → Before marks at to end
  before_timed o = record { marks_within = before_later.marks_within; time_before = l; marks_inside = b.marks_inside; time_inside = o }

-- The marks as they were given.
pub marked_bits : (present : List Bool) → marked 0 (map bit_of present) ≡ present
marked_bits [] = refl
marked_bits (true ∷ ps) = ap₂ ◌∷◌ refl (marked_bits ps)
marked_bits (false ∷ ps) = ap₂ ◌∷◌ refl (marked_bits ps)

pub within_bits : (present : List Bool) (marks : List ℕ) → marks ≡ map bit_of present → length marks ≡ entity_count → Within marks 1
within_bits present marks e l = (l, λ i. subst (λ (x : List ℕ). get_or x i 0 ≤ 1) (sym e) (most present i))
  where
    most : (ps : List Bool) (i : ℕ) → get_or (map bit_of ps) i 0 ≤ 1
    most [] i = omega arith
    most (true ∷ ps) zero = omega arith
    most (false ∷ ps) zero = omega arith
    most (p ∷ ps) (suc i) = most ps i
