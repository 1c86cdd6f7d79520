-- The test of a layout, field by field: what was tested before, and the rest. Each law takes one field, a field that is sent or not, a
-- string, or a whole run of them, over any width.
-- Assumes nothing.
use mathlib.Core.Path.{◌≡◌, refl, sym, ap, ◌∙◌}
use mathlib.Core.List.{List, [], ◌∷◌, ◌++◌}
use mathlib.Core.Bool.{Bool, true, false, ◌&&◌, ◌||◌, and-true, and-false, and_assoc}
use Prim.Native.Nat.{ℕ, suc, ◌+◌, ◌*◌, ◌^◌, ◌<◌}
use native.Mathlib.Omega.{arith}
use borrow.Author.Tests.{lt-ltb, le-ltb, ltb-true, eqb-true, eqb-false, ne_eqb}
use lib.Dec.{ltb, eqb, lit<}
use Rattle.format.specs.Limits.{string_limit}
use Rattle.dem.specs.Limits.{entity_count}
use Rattle.format.specs.Refusal.{Refusal, code, wrong_number}
use Rattle.format.specs.Bytes.{unless, free, bit_of}
use Rattle.format.specs.Layout.{Value, number, text, Layout, field, split, string, allows, string_bytes}
use Rattle.format.specs.Masked.{Slot, Mask, optional, is_sent, slot_layout}
use Rattle.dem.specs.Message.{entity_rule}
use Rattle.format.proofs.LayoutLaws.{Allowed, allows→}
use Rattle.dem_allowed.specs.Tests.{slot_test}

-- ---- one field

pub met : (good : Bool) (r : Refusal) → 0 < code r → eqb (unless good r) 0 ≡ good
met true r h = refl
met false r h = ne_eqb (code r) 0 (λ z. omega arith)

pub field_step : (so : Bool) (w : ℕ) (rule : ℕ → ℕ) (k : ℕ → Layout) (v : ℕ) (vs : List Value) → v < 256 ^ w
    → (so && allows (field w rule k) (number v ∷ vs)) ≡ (so && eqb (rule v) 0 && allows (k v) vs)
unfolding allows
field_step so w rule k v vs h =
    ap (λ (b : Bool). so && (b && eqb (rule v) 0 && allows (k v) vs)) (lt-ltb v (256 ^ w) h)
    ∙ sym (and_assoc so (eqb (rule v) 0) (allows (k v) vs))

-- A rule that is a test.
pub ruled_step : (so : Bool) (w : ℕ) (good : ℕ → Bool) (r : Refusal) (k : ℕ → Layout) (v : ℕ) (vs : List Value) → v < 256 ^ w → 0 < code r
    → (so && allows (field w (λ v. unless (good v) r) k) (number v ∷ vs)) ≡ (so && good v && allows (k v) vs)
ruled_step so w good r k v vs h z =
    field_step so w (λ v. unless (good v) r) k v vs h ∙ ap (λ (b : Bool). so && b && allows (k v) vs) (met (good v) r z)

below_one : (v : ℕ) → ltb v 1 ≡ eqb v 0
below_one v = go (eqb v 0) refl
  where
    go : (b : Bool) → eqb v 0 ≡ b → ltb v 1 ≡ b
    go true e = lt-ltb v 1 (omega (arith, eqb-true v 0 e))
    go false e = let n : v ≡ 0 → ⊥ = eqb-false v 0 e in le-ltb v 1 (omega arith)

-- A field that is sent, or else 0.
pub sent_step : (so sent : Bool) (w : ℕ) (rule : ℕ → ℕ) (k : ℕ → Layout) (v : ℕ) (vs : List Value) → v < 256 ^ w
    → (so && allows (optional sent w rule k) (number v ∷ vs)) ≡ (so && (sent || eqb v 0) && eqb (rule v) 0 && allows (k v) vs)
unfolding allows
sent_step so true w rule k v vs h =
    field_step so w rule k v vs h ∙ ap (λ (b : Bool). b && eqb (rule v) 0 && allows (k v) vs) (sym (and-true so))
sent_step so false w rule k v vs h =
    ap (λ (b : Bool). so && (b && eqb (rule v) 0 && allows (k v) vs)) (below_one v)
    ∙ sym (and_assoc so (eqb v 0 && eqb (rule v) 0) (allows (k v) vs))
    ∙ ap (λ (b : Bool). b && allows (k v) vs) (sym (and_assoc so (eqb v 0) (eqb (rule v) 0)))

-- An entity in two bytes or in one.
pub entity_step : (so wide : Bool) (k : ℕ → Layout) (e : ℕ) (vs : List Value) → e < 256 ^ 2
    → (so && allows (field (suc (bit_of wide)) entity_rule k) (number e ∷ vs))
    ≡ (so && (wide || ltb e 256) && ltb e entity_count && allows (k e) vs)
unfolding allows
entity_step so wide k e vs h =
    ap (λ (b : Bool). so && (b && eqb (entity_rule e) 0 && allows (k e) vs)) (width wide)
    ∙ ap (λ (b : Bool). so && ((wide || ltb e 256) && b && allows (k e) vs)) (met (ltb e entity_count) wrong_number (lit< tt))
    ∙ sym (and_assoc so ((wide || ltb e 256) && ltb e entity_count) (allows (k e) vs))
    ∙ ap (λ (b : Bool). b && allows (k e) vs) (sym (and_assoc so (wide || ltb e 256) (ltb e entity_count)))
  where
    width : (b : Bool) → ltb e (256 ^ suc (bit_of b)) ≡ (b || ltb e 256)
    width true = lt-ltb e (256 ^ 2) h
    width false = refl

-- A channel and an entity in one number.
pub split_step : (so : Bool) (k : Layout) (l e : ℕ) (vs : List Value)
    → (so && allows (split 2 3 entity_rule k) (number l ∷ number e ∷ vs)) ≡ (so && (ltb l 8 && ltb e entity_count) && allows k vs)
unfolding allows
split_step so k l e vs =
    ap (λ (b : Bool). so && (b && allows k vs)) (go (ltb l 8) refl (ltb e entity_count) refl)
    ∙ sym (and_assoc so (ltb l 8 && ltb e entity_count) (allows k vs))
  where
    go : (a : Bool) → ltb l 8 ≡ a → (b : Bool) → ltb e entity_count ≡ b → (a && ltb (e * 8 + l) 65536 && eqb (unless b wrong_number) 0) ≡ (a && b)
    go false p b q = refl
    go true p false q = and-false (ltb (e * 8 + l) 65536)
    go true p true q =
        ap (λ (x : Bool). x && true) (lt-ltb (e * 8 + l) 65536 (omega (arith, ltb-true l 8 p, ltb-true e entity_count q)))

pub string_step : (so : Bool) (k : Layout) (t : List ℕ) (vs : List Value)
    → (so && allows (string free (λ t. k)) (text t ∷ vs)) ≡ (so && string_bytes string_limit t && allows k vs)
unfolding allows
string_step so k t vs =
    ap (λ (b : Bool). so && (b && allows k vs)) (and-true (string_bytes string_limit t))
    ∙ sym (and_assoc so (string_bytes string_limit t) (allows k vs))

-- ---- a run of fields

-- Numbers that fit in these many bytes each.
abbrev pub Wide : List ℕ → List Value → Type 0
Wide [] [] = Unit {0}
Wide [] (v ∷ vs) = ⊥
Wide (w ∷ ws) [] = ⊥
Wide (w ∷ ws) (text t ∷ vs) = ⊥
Wide (w ∷ ws) (number v ∷ vs) = (v < 256 ^ w) × Wide ws vs

abbrev pub run : List ℕ → Layout → Layout
run [] k = k
run (w ∷ ws) k = field w free (λ v. run ws k)

-- Without rules there is nothing to test.
pub run_step : (so : Bool) (ws : List ℕ) (k : Layout) (vs us : List Value) → Wide ws vs
    → (so && allows (run ws k) (vs ++ us)) ≡ (so && allows k us)
run_step so [] k [] us h = refl
run_step so [] k (v ∷ vs) us h = absurd h
run_step so (w ∷ ws) k [] us h = absurd h
run_step so (w ∷ ws) k (text t ∷ vs) us h = absurd h
run_step so (w ∷ ws) k (number v ∷ vs) us h =
    field_step so w free (λ v. run ws k) v (vs ++ us) h.0
    ∙ ap (λ (b : Bool). b && allows (run ws k) (vs ++ us)) (and-true so)
    ∙ run_step so ws k vs us h.1

-- ---- slots

abbrev pub widths : List Slot → List ℕ
widths [] = []
widths (s ∷ ss) = s.width ∷ widths ss

test_front : (so : Bool) (ss : List Slot) (mask : Mask) (vs : List Value) → Wide (widths ss) vs
    → slot_test so ss mask vs ≡ (so && slot_test true ss mask vs)
test_front so [] mask vs h = sym (and-true so)
test_front so (s ∷ ss) mask [] h = absurd h
test_front so (s ∷ ss) mask (text t ∷ vs) h = absurd h
test_front so (s ∷ ss) mask (number v ∷ vs) h =
    let one : Bool = is_sent s mask || eqb v 0 in
    test_front (so && one) ss mask vs h.1 ∙ and_assoc so one (slot_test true ss mask vs)
    ∙ ap (λ (b : Bool). so && b) (sym (test_front one ss mask vs h.1))

slots_go : (so : Bool) (ss : List Slot) (mask : Mask) (k : Layout) (vs us : List Value) → Wide (widths ss) vs
    → (so && allows (slot_layout ss mask k) (vs ++ us)) ≡ (slot_test so ss mask vs && allows k us)
slots_go so [] mask k [] us h = refl
slots_go so [] mask k (v ∷ vs) us h = absurd h
slots_go so (s ∷ ss) mask k [] us h = absurd h
slots_go so (s ∷ ss) mask k (text t ∷ vs) us h = absurd h
slots_go so (s ∷ ss) mask k (number v ∷ vs) us h =
    sent_step so (is_sent s mask) s.width free (λ v. slot_layout ss mask k) v (vs ++ us) h.0
    ∙ ap (λ (b : Bool). b && allows (slot_layout ss mask k) (vs ++ us)) (and-true (so && (is_sent s mask || eqb v 0)))
    ∙ slots_go (so && (is_sent s mask || eqb v 0)) ss mask k vs us h.1

pub slots_step : (so : Bool) (ss : List Slot) (mask : Mask) (k : Layout) (vs us : List Value) → Wide (widths ss) vs
    → (so && allows (slot_layout ss mask k) (vs ++ us)) ≡ (so && slot_test true ss mask vs && allows k us)
slots_step so ss mask k vs us h =
    slots_go so ss mask k vs us h ∙ ap (λ (b : Bool). b && allows k us) (test_front so ss mask vs h)

-- ---- what is never allowed

pub refuted : (l : Layout) (vs : List Value) → (Allowed l vs → ⊥) → false ≡ allows l vs
refuted l vs n = go (allows l vs) refl
  where
    go : (b : Bool) → allows l vs ≡ b → false ≡ b
    go false e = refl
    go true e = absurd (n (allows→ l vs e))
