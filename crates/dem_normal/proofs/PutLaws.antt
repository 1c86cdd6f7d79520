-- Bytes put into room, one after the other: what is in front of the place reached stays.
-- Assumes nothing.
use mathlib.Core.Path.{◌≡◌, refl, sym, ap, ap₂, ◌∙◌, subst, subst₂}
use mathlib.Core.List.{List, [], ◌∷◌, ◌++◌, append_assoc, append-nil}
use mathlib.Core.Bool.{Bool, true, false, not, cond}
use Prim.Native.Nat.{ℕ, ◌+◌, ◌≤◌}
use native.Mathlib.Omega.{arith}
use lib.Dec.{eqb}
use lib.IntN.{ℤ}
use mir.Syntax.{Width}
use mir.Val.{to_z, of_z, SFits}
use lib.ListN.{length, take, drop, length-append}
use lib.Seq.{sets, sets-eq, length-sets, length-take-le, take_at}
use Rattle.format.specs.Bytes.{le_write, bit_of}
use Rattle.format.specs.Layout.{Value, number, as_number}
use Rattle.format.specs.Masked.{Slot, slot, sent_always, differs}
use Rattle.wire.proofs.SignedLaws.{bits_back}
use Rattle.dem_normal.specs.Put.{Put}
use Rattle.dem_normal.specs.Sent.{sent_bytes}

pub put_none : (l : List ℕ) (at : ℕ) → Put l l at at []
put_none l at = (sym (append-nil (take at l)), refl, omega arith)

pub put_then : (a b c : List ℕ) (p q r : ℕ) (xs ys : List ℕ) → Put a b p q xs → Put b c q r ys → Put a c p r (xs ++ ys)
put_then a b c p q r xs ys f g = (
  g.0 ∙ ap (λ (l : List ℕ). l ++ ys) f.0 ∙ append_assoc (take p a) xs ys,
  g.1 ∙ f.1,
  omega (arith, f.2, g.2, length-append xs ys),
)

-- The bytes are equal to others.
pub put_same : (a b : List ℕ) (p q : ℕ) (xs ys : List ℕ) → xs ≡ ys → Put a b p q xs → Put a b p q ys
put_same a b p q xs ys e f = rw (sym e) f

pub put_sets : (a b : List ℕ) (at : ℕ) (xs : List ℕ) → b ≡ sets a at xs → at + length xs ≤ length a → Put a b at (at + length xs) xs
put_sets a b at xs e h =
    let l : length (take at a ++ xs) ≡ at + length xs = length-append (take at a) xs ∙ ap (λ (n : ℕ). n + length xs) (length-take-le at a (omega arith)) in (
      ap (take (at + length xs)) (e ∙ sets-eq xs a at h) ∙ take_at (take at a ++ xs) (drop (at + length xs) a) (at + length xs) l,
      ap length e ∙ length-sets a at xs,
      refl,
    )

-- The same, with the place behind known by an equation.
pub put_to : (a b : List ℕ) (at to : ℕ) (xs : List ℕ) → b ≡ sets a at xs → to ≡ at + length xs → at + length xs ≤ length a → Put a b at to xs
put_to a b at to xs e f h = rw f (put_sets a b at xs e h)

-- Bytes stored behind the place are not part of what was put.
pub put-behind : (a b : List ℕ) (at : ℕ) (xs : List ℕ) → b ≡ sets a at xs → at + length xs ≤ length a → Put a b at at []
put-behind a b at xs e h = (
  ap (take at) (e ∙ sets-eq xs a at h ∙ append_assoc (take at a) xs (drop (at + length xs) a))
      ∙ take_at (take at a) (xs ++ drop (at + length xs) a) at (length-take-le at a (omega arith)) ∙ sym (append-nil (take at a)),
  ap length e ∙ length-sets a at xs,
  omega arith,
)

-- ---- one number, sent or not

module _ (a b : List ℕ) (p : ℕ) (xs : List ℕ) (sent : Bool) where
  pub put-sent : (q : ℕ) → sent ≡ true → Put a b p q xs → Put a b p q (cond sent xs [])
  put-sent q e f = rw e f

  pub put_unsent : sent ≡ false → Put a b p p [] → Put a b p p (cond sent xs [])
  put_unsent e f = rw e f

-- ---- slots in turn

pub record PutSlots (a c : List ℕ) (p r : ℕ) (ss : List Slot) (vs : List Value) : Type 0 where
  pub put : Put a c p r (sent_bytes ss vs)

pub slots_none : {a : List ℕ} {p : ℕ} → PutSlots a a p p [] []
slots_none {a} {p} = record { put = put_none a p }

-- One slot up to the place q, then others.
pub slot_then : {a c : List ℕ} {p r : ℕ} {s : Slot} {ss : List Slot} {v : Value} {vs : List Value} (b : List ℕ) (q : ℕ)
    → Put a b p q (cond (differs s v) (le_write s.width (as_number v)) []) → PutSlots b c q r ss vs → PutSlots a c p r (s ∷ ss) (v ∷ vs)
slot_then {a} {c} {p} {r} {s} {ss} {v} {vs} b q f g =
    record { put = put_then a b c p q r (cond (differs s v) (le_write s.width (as_number v)) []) (sent_bytes ss vs) f g.put }

-- One that was compared with its default, both by their bits.
pub changed_then : {a c : List ℕ} {p r k w n d m e : ℕ} {ss : List Slot} {vs : List Value} (b : List ℕ) (q : ℕ) → n ≡ m → d ≡ e
    → Put a b p q (cond (not (eqb n d)) (le_write w n) []) → PutSlots b c q r ss vs → PutSlots a c p r (slot k w e ∷ ss) (number m ∷ vs)
changed_then {a} {c} {p} {r} {k} {w} {n} {d} {m} {e} {ss} {vs} b q f g h t =
    slot_then b q (subst₂ (λ (n d : ℕ). Put a b p q (cond (not (eqb n d)) (le_write w n) [])) f g h) t

-- One that is sent always.
pub number_then : {a c : List ℕ} {p r k w n m : ℕ} {ss : List Slot} {vs : List Value} (b : List ℕ) (q : ℕ) → n ≡ m
    → Put a b p q (le_write w n) → PutSlots b c q r ss vs → PutSlots a c p r (sent_always k w ∷ ss) (number m ∷ vs)
number_then {a} {c} {p} {r} {k} {w} {n} {m} {ss} {vs} b q f h t = slot_then b q (subst (λ (n : ℕ). Put a b p q (le_write w n)) f h) t

-- Whether two signed numbers differ, each handed on.
pub differ-same : (w : Width) (z y : ℤ) → SFits w z → SFits w y
    → bit_of (not (eqb (of_z w (to_z w (of_z w z))) (of_z w (to_z w (of_z w y))))) ≡ bit_of (not (eqb (of_z w z) (of_z w y)))
differ-same w z y f g = ap₂ (λ (m n : ℕ). bit_of (not (eqb m n))) (bits_back w z f) (bits_back w y g)

sent_append : (ss ts : List Slot) (us vs : List Value) → length us ≡ length ss
    → sent_bytes (ss ++ ts) (us ++ vs) ≡ sent_bytes ss us ++ sent_bytes ts vs
sent_append [] ts [] vs h = refl
sent_append [] ts (u ∷ us) vs h = let z : ⊥ = omega arith in absurd z
sent_append (s ∷ ss) ts [] vs h = let z : ⊥ = omega arith in absurd z
sent_append (s ∷ ss) ts (u ∷ us) vs h =
    let one = cond (differs s u) (le_write s.width (as_number u)) [] in
    ap (λ (l : List ℕ). one ++ l) (sent_append ss ts us vs (omega arith)) ∙ sym (append_assoc one (sent_bytes ss us) (sent_bytes ts vs))

-- Slots up to the place q, then others.
pub slots_then : (ss ts : List Slot) (us vs : List Value) (a b c : List ℕ) (p q r : ℕ) → length us ≡ length ss → Put a b p q (sent_bytes ss us)
    → Put b c q r (sent_bytes ts vs) → Put a c p r (sent_bytes (ss ++ ts) (us ++ vs))
slots_then ss ts us vs a b c p q r h f g =
    put_same a c p r (sent_bytes ss us ++ sent_bytes ts vs) (sent_bytes (ss ++ ts) (us ++ vs)) (sym (sent_append ss ts us vs h))
    (put_then a b c p q r (sent_bytes ss us) (sent_bytes ts vs) f g)
