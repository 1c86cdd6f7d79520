-- The bytes of an update in normal form: head, then the fields that differ.
-- Assumes nothing.
use mathlib.Core.Path.{◌≡◌, refl, sym, ap, ap₂, ◌∙◌}
use mathlib.Core.List.{List, [], ◌∷◌, ◌++◌, append_assoc, append-nil}
use mathlib.Core.Bool.{Bool, true, false, cond, not}
use Prim.Native.Nat.{ℕ, zero, suc, ◌/◌, ◌%◌}
use native.Mathlib.Omega.{arith}
use borrow.Author.Tests.{ne_eqb, le-leb}
use lib.Dec.{eqb, leb, lit<}
use Rattle.dem.specs.Kind
use Rattle.format.specs.Bytes.{le_write, is_set, bit, bit_of}
use Rattle.format.specs.Layout.{Value, number, Layout, done, print, first_value, first_number, as_number, tail}
use Rattle.format.specs.Masked.{Slot, Mask, is_sent, differs, slot_layout, send_slots}
use Rattle.dem.specs.Scene.{Context, Baseline, zero_baseline}
use Rattle.dem.specs.Message.{layout, kind_layout, high_bit, wide_bit, update_mask, update_slots, sent_mask, high_byte, update_number, send_update}
use Rattle.format.proofs.MaskedLaws.{Chosen, behind, agree-layout}
use Rattle.dem.proofs.UpdateLaws.{number_bit, high_bit_lem, number_agrees}
use Rattle.dem_scene.specs.Views.{baseline_numbers, record_values}
use Rattle.dem_scene.specs.declared.Baseline.{Baseline as Base}
use Rattle.dem_scene.specs.declared.Record.{Record}
use Rattle.dem_normal.specs.Put.{Put}
use Rattle.dem_normal.specs.Sent.{sent_bytes, record_fields, update_bits, head_bytes}
use Rattle.dem_normal.proofs.PutLaws.{put_same, put_then}

pub set_test : (n : ℕ) → not (eqb n 0) ≡ is_set n
set_test zero = refl
set_test (suc n) = ap not (ne_eqb (suc n) 0 (λ e. omega arith))

-- A field that is sent or not.
optional-bytes : (b : Bool) (w : ℕ) (v : Value) → le_write (cond b w 0) (as_number (cond b v (number 0))) ≡ cond b (le_write w (as_number v)) []
optional-bytes true w v = refl
optional-bytes false w v = refl

-- Slots sent by a mask that sends exactly what differs, and what is behind them.
pub slot-bytes : (ss : List Slot) (f : Mask) (k : Layout) (vs : List Value) → Chosen ss f vs
    → print (slot_layout ss f k) (send_slots ss f vs) ≡ sent_bytes ss vs ++ print k (behind ss vs)
unfolding print
slot-bytes [] f k vs c = refl
slot-bytes (s ∷ ss) f k vs c =
    ap₂ (λ (x y : List ℕ). x ++ y)
    (optional-bytes (is_sent s f) s.width (first_value vs) ∙ ap (λ (b : Bool). cond b (le_write s.width (first_number vs)) []) c.0)
    (slot-bytes ss f k (tail vs) c.1)
    ∙ sym (append_assoc (cond (differs s (first_value vs)) (le_write s.width (first_number vs)) []) (sent_bytes ss (tail vs)) (print k (behind (s ∷ ss) vs)))

-- ---- the head

high-bytes : (h : ℕ) (b : Bool) → le_write (cond b 1 0) h ≡ cond b (le_write 1 h) []
high-bytes h true = refl
high-bytes h false = refl

entity-bytes : (e : ℕ) (b : Bool) → le_write (suc (bit_of b)) e ≡ le_write 1 e ++ cond b (le_write 1 (e / 256)) []
entity-bytes e true = refl
entity-bytes e false = refl

module _ (n h e : ℕ) (vs : List Value) (bs : List ℕ) (large : leb Kind.update n ≡ true) (head : bit n high_bit ≡ is_set h)
    (wide : update_mask n h wide_bit ≡ leb 256 e) (fields : print (slot_layout (update_slots zero_baseline) (update_mask n h) done) vs ≡ bs) where
  high_bytes : List ℕ
  high_bytes = cond (is_set h) (le_write 1 h) []

  entity_bytes : List ℕ
  entity_bytes = le_write 1 e ++ cond (leb 256 e) (le_write 1 (e / 256)) []

  head_printed : (x : Context) → print (layout x) (number n ∷ number h ∷ number e ∷ vs) ≡ head_bytes n h e ++ bs
  unfolding layout kind_layout print high_bytes entity_bytes
  head_printed x =
      let eh = ap (λ (b : Bool). le_write (cond b 1 0) h) head ∙ high-bytes h (is_set h) in
      let ee = ap (λ (b : Bool). le_write (suc (bit_of b)) e) wide ∙ entity-bytes e (leb 256 e) in
      rw large (ap (λ (l : List ℕ). n % 256 ∷ l)
      ((λ i. eh i ++ (ee i ++ fields i)) ∙ sym (append_assoc high_bytes entity_bytes bs)))

-- ---- an update

module _ (b : Baseline) (e : ℕ) (bit5 : Bool) (fs : List Value) where
  mask : Mask
  mask = sent_mask b e bit5 fs

  chosen : Chosen (update_slots b) mask fs
  unfolding mask
  chosen = (refl, (refl, (refl, (refl, (refl, (refl, (refl, (refl, (refl, (refl, (refl, tt)))))))))))

  large : leb Kind.update (update_number mask) ≡ true
  large = le-leb Kind.update (update_number mask) (omega arith)

  wide : update_mask (update_number mask) (high_byte mask) wide_bit ≡ leb 256 e
  unfolding mask
  wide = high_bit_lem mask 6 (lit< tt)

  fields : print (slot_layout (update_slots b) (update_mask (update_number mask) (high_byte mask)) done) (send_slots (update_slots b) mask fs)
      ≡ sent_bytes (update_slots b) fs
  unfolding print
  fields =
      ap (λ (l : Layout). print l (send_slots (update_slots b) mask fs))
      (agree-layout (update_slots b) (update_mask (update_number mask) (high_byte mask)) mask done (number_agrees mask b))
      ∙ slot-bytes (update_slots b) mask done fs chosen ∙ append-nil (sent_bytes (update_slots b) fs)

  whole : (x : Context) → head_bytes (update_number mask) (high_byte mask) e ++ sent_bytes (update_slots b) fs
      ≡ print (layout x) (number (update_number mask) ∷ number (high_byte mask) ∷ number e ∷ send_slots (update_slots b) mask fs)
  whole x =
      sym (head_printed (update_number mask) (high_byte mask) e (send_slots (update_slots b) mask fs) (sent_bytes (update_slots b) fs)
      large (number_bit mask 0 (lit< tt)) wide fields x)

update-bytes : (x : Context) (b : Baseline) (e : ℕ) (bit5 : Bool) (fs : List Value)
    → head_bytes (update_number (sent_mask b e bit5 fs)) (high_byte (sent_mask b e bit5 fs)) e ++ sent_bytes (update_slots b) fs
    ≡ print (layout x) (send_update b (number e ∷ number (bit_of bit5) ∷ fs))
unfolding mask
update-bytes x b e true fs = whole b e true fs x
update-bytes x b e false fs = whole b e false fs x

-- ---- as code puts them

module _ (e : ℕ) (u : Record) (o : Base) (n h : ℕ) (eh : h ≡ high_byte (update_bits e u o)) (en : n ≡ update_number (update_bits e u o))
    (a b c : List ℕ) (i j k : ℕ) where
  pub update-put : Put a b i j (head_bytes n h e) → Put b c j k (sent_bytes (update_slots (baseline_numbers o)) (record_fields u))
      → (x : Context) → Put a c i k (print (layout x) (send_update (baseline_numbers o) (number e ∷ record_values u)))
  update-put f g x =
      let later = sent_bytes (update_slots (baseline_numbers o)) (record_fields u) in
      let same = ap₂ (λ (n h : ℕ). head_bytes n h e ++ later) en eh ∙ update-bytes x (baseline_numbers o) e u.bit5 (record_fields u) in
      put_same a c i k (head_bytes n h e ++ later) (print (layout x) (send_update (baseline_numbers o) (number e ∷ record_values u))) same
      (put_then a b c i j k (head_bytes n h e) later f g)
