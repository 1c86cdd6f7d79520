-- An update whose every field was loaded, sent or not: where the place behind it lies in the block, the block reads to it there, and it
-- fills in to the record.
-- Assumes nothing.
use mathlib.Core.Path.{◌≡◌, refl, sym, ap, ap₂, ◌∙◌}
use mathlib.Core.List.{List, [], ◌∷◌}
use mathlib.Core.Bool.{Bool, true, false, cond}
use Prim.Native.Nat.{ℕ, zero, suc, ◌+◌, ◌*◌, ◌/◌, ◌%◌, ◌^◌, ◌<◌, ◌≤◌}
use native.Mathlib.Omega.{arith}
use lib.ListN.{length, take, drop, get_or}
use lib.Seq.{take-take, length-take-le}
use Rattle.dem.specs.Kind
use Rattle.dem.specs.Limits.{entity_count}
use Rattle.format.specs.Bytes.{found, le_read, free, bit, bit_of, is_set}
use Rattle.format.specs.Layout.{Value, number, Layout, done, field, put, parse}
use Rattle.format.specs.Masked.{Slot, Mask, is_sent, slot_layout, fill_slots}
use Rattle.dem.specs.Scene.{zero_baseline}
use Rattle.dem.specs.Message.{entity_rule, high_bit, record_bit, wide_bit, high_rule, update_mask, update_slots, entity_layout, update_layout, fill_update}
use Rattle.dem.specs.Message.{send_update}
use Rattle.format.proofs.ByteLaws.{bit_div}
use Rattle.format.proofs.AtLaws.{parse-done, parse-good, one_at}
use Rattle.dem.proofs.UpdateLaws.{entity-good}
use Rattle.dem.proofs.UpdateLaws.{update_mask_lem}
use Rattle.dem_scene.specs.Views.{baseline_numbers, record_values}
use Rattle.dem_scene.specs.declared.Baseline.{Baseline}
use Rattle.dem_direct.specs.Spread.{field_or, behind, spread, passed, needless_in, filled_at}
use Rattle.dem_direct.specs.Heads.{high_at, mask_at, entity_width, head_at, needless_head, HeadLoaded, FieldsLoaded}
use Rattle.dem_direct.specs.declared.UpdateHead.{UpdateHead}
use Rattle.dem_direct.specs.declared.LoadedHead.{LoadedHead}
use Rattle.dem_direct.specs.declared.RecordAt.{RecordAt}
use Rattle.dem_direct.proofs.Fields.{sent}
use Rattle.dem_direct.proofs.NormalLaws.{update_kept}

-- Bytes in front of the end are the same in the bytes up to the end.
before_end : (w p end : ℕ) (d : List ℕ) → p + w ≤ end → take w (drop p (take end d)) ≡ take w (drop p d)
before_end w zero end d h = take-take w end d (omega arith)
before_end w (suc p) zero d h = let z : ⊥ = omega arith in absurd z
before_end w (suc p) (suc end) [] h = refl
before_end w (suc p) (suc end) (x ∷ d) h = before_end w p end d (omega arith)

-- ---- slots as sent

sent-read : (d : List ℕ) (at : ℕ) (b : Bool) (w : ℕ) → le_read (take (cond b w 0) (drop at d)) ≡ field_or d at b w 0
unfolding field_or
sent-read d at true w = refl
sent-read d at false w = refl

up : (at : ℕ) (b : Bool) (w : ℕ) → at ≤ behind at b w
unfolding behind
up at b w = omega arith

passed_up : (ss : List Slot) (mask : Mask) (at : ℕ) → at ≤ passed ss mask at
passed_up [] mask at = omega arith
passed_up (s ∷ ss) mask at =
    omega (arith, up at (is_sent s mask) s.width, passed_up ss mask (behind at (is_sent s mask) s.width))

-- Whatever the defaults.
pub slots_filled : (d : List ℕ) (ss : List Slot) (mask : Mask) (at : ℕ) → fill_slots ss mask (sent d ss mask at) ≡ spread d ss mask at
unfolding sent field_or
slots_filled d [] mask at = refl
slots_filled d (s ∷ ss) mask at =
    ap₂ (λ (v : Value) (vs : List Value). v ∷ vs) (go (is_sent s mask)) (slots_filled d ss mask (behind at (is_sent s mask) s.width))
  where
    go : (b : Bool) → cond b (number (field_or d at b s.width 0)) (number s.default) ≡ number (field_or d at b s.width s.default)
    go true = refl
    go false = refl

module _ (d : List ℕ) (end : ℕ) (inside : end ≤ length d) where
  -- A field in front of the end, of a width that may be 0.
  field_parsed : (b : Bool) (w : ℕ) (rule : ℕ → ℕ) (k : ℕ → Layout) (at : ℕ) → behind at b w ≤ end → rule (field_or d at b w 0) ≡ 0
      → parse (field (cond b w 0) rule k) (drop at (take end d))
      ≡ put (number (field_or d at b w 0)) (parse (k (field_or d at b w 0)) (drop (behind at b w) (take end d)))
  unfolding behind
  field_parsed b w rule k at h e =
      parse-good (cond b w 0) rule k at (take end d) (field_or d at b w 0) (rw (length-take-le end d inside) h)
      (ap le_read (before_end (cond b w 0) at end d h) ∙ sent-read d at b w) e

  pub slots_parsed : (ss : List Slot) (mask : Mask) (at : ℕ) → passed ss mask at ≤ end
      → parse (slot_layout ss mask done) (drop at (take end d)) ≡ found (sent d ss mask at) (drop (passed ss mask at) (take end d))
  unfolding sent
  slots_parsed [] mask at h = parse-done (drop at (take end d))
  slots_parsed (s ∷ ss) mask at h =
      let next = behind at (is_sent s mask) s.width in
      let v = field_or d at (is_sent s mask) s.width 0 in
      field_parsed (is_sent s mask) s.width free (λ v. slot_layout ss mask done) at (omega (arith, passed_up ss mask next)) refl
      ∙ ap (put (number v)) (slots_parsed ss mask next h)

-- ---- an update

high-good : (high n : ℕ) → high * 256 + n < 32768 → high_rule high ≡ 0
high-good high n h =
    let z : high / 2 ^ 7 % 2 ≡ 0 = omega arith in
    let e : bit high 7 ≡ false = bit_div high 7 ∙ ap is_set z in
    rw e

-- What the block holds at the place of an update's number: an update that ends where the fields did, and fills in to their record; and
-- where nothing was sent needlessly, it is its own normal form.
pub record LoadedUpdate (d : List ℕ) (end at : ℕ) (b : Baseline) (h : LoadedHead) (f : RecordAt) : Type 0 where
  pub high : ℕ
  pub sent : List Value
  pub parsed : parse (update_layout (get_or d at 0)) (drop (at + 1) (take end d))
      ≡ found (number high ∷ number h.index ∷ sent) (drop f.next (take end d))
  pub filled : fill_update (baseline_numbers b) (get_or d at 0) (number high ∷ number h.index ∷ sent)
      ≡ number Kind.update ∷ number h.index ∷ record_values f.record
  pub kept : needless_in d (update_slots (baseline_numbers b)) (bit h.head.mask) h.head.next false ≡ false → h.head.needless ≡ false
      → send_update (baseline_numbers b) (number h.index ∷ record_values f.record) ≡ number (get_or d at 0) ∷ number high ∷ number h.index ∷ sent

module _ (d : List ℕ) (end at n : ℕ) (b : Baseline) (inside : end ≤ length d) (small : n < 256) where
  slots : List Slot
  slots = update_slots (baseline_numbers b)

  high : ℕ
  high = high_at d at n

  mask : ℕ
  mask = mask_at d at n

  place : ℕ
  place = behind at (bit n high_bit) 1

  next : ℕ
  next = place + entity_width mask

  entity : ℕ
  entity = le_read (take (entity_width mask) (drop place d))

  same : bit mask ≡ update_mask n high
  unfolding mask high
  same = update_mask_lem (high_at d at n) n small

  fields : (m : Mask) → bit mask ≡ m → passed slots (bit mask) next ≤ end
      → parse (slot_layout (update_slots zero_baseline) m done) (drop next (take end d))
      ≡ found (sent d slots (bit mask) next) (drop (passed slots (bit mask) next) (take end d))
  unfolding slots
  fields m e h =
      ap (λ (m : Mask). parse (slot_layout (update_slots zero_baseline) m done) (drop next (take end d))) (sym e)
      ∙ slots_parsed d end inside (update_slots (baseline_numbers b)) (bit mask) next h

  head_parsed : mask < 32768 → entity < entity_count → passed slots (bit mask) next ≤ end
      → parse (update_layout n) (drop at (take end d))
      ≡ found (number high ∷ number entity ∷ sent d slots (bit mask) next) (drop (passed slots (bit mask) next) (take end d))
  unfolding mask high entity next place
  head_parsed low known h =
      let l : next ≤ end = omega (arith, passed_up slots (bit mask) next) in
      let w : entity_width mask ≡ suc (bit_of (update_mask n high wide_bit)) = ap (λ (m : Mask). suc (bit_of (m wide_bit))) same in
      field_parsed d end inside (bit n high_bit) 1 high_rule (entity_layout n) at (omega arith) (high-good high n low)
      ∙ ap (put (number high))
      (ap (λ (w : ℕ). parse (field w entity_rule (λ e. slot_layout (update_slots zero_baseline) (update_mask n high) done)) (drop place (take end d))) (sym w)
      ∙ parse-good (entity_width mask) entity_rule (λ e. slot_layout (update_slots zero_baseline) (update_mask n high) done) place (take end d) entity
      (rw (length-take-le end d inside) l) (ap le_read (before_end (entity_width mask) place end d l)) (entity-good entity known)
      ∙ ap (put (number entity)) (fields (update_mask n high) same h))

  head-filled : (e : ℕ) → fill_update (baseline_numbers b) n (number high ∷ number e ∷ sent d slots (bit mask) next)
      ≡ number Kind.update ∷ number e ∷ filled_at d (baseline_numbers b) mask next
  unfolding slots
  head-filled e =
      ap₂ (λ (v : ℕ) (vs : List Value). number Kind.update ∷ number e ∷ number v ∷ vs)
      (ap (λ (m : Mask). bit_of (m record_bit)) (sym same))
      (ap (λ (m : Mask). fill_slots slots m (sent d slots (bit mask) next)) (sym same) ∙ slots_filled d slots (bit mask) next)

  lacking : bit n high_bit ≡ false → high ≡ 0
  unfolding high field_or
  lacking q = ap (λ (x : Bool). field_or d at x 1 0) q

  narrow : next ≤ end → ((i : ℕ) → get_or d i 0 < 256) → bit mask wide_bit ≡ false → entity < 256
  unfolding entity next
  narrow l bytes q =
      let w : entity_width mask ≡ 1 = ap (λ (x : Bool). suc (bit_of x)) q in
      let e : le_read (take (entity_width mask) (drop place d)) ≡ le_read (take 1 (drop place d)) = ap (λ (w : ℕ). le_read (take w (drop place d))) w in
      omega (arith, e, w, l, one_at place d (omega arith), bytes place)

  head_kept : 128 ≤ n → mask < 32768 → passed slots (bit mask) next ≤ end → ((i : ℕ) → get_or d i 0 < 256) → needless_head mask entity ≡ false
      → needless_in d slots (bit mask) next false ≡ false
      → send_update (baseline_numbers b) (number entity ∷ filled_at d (baseline_numbers b) mask next)
      ≡ number n ∷ number high ∷ number entity ∷ sent d slots (bit mask) next
  unfolding slots mask high
  head_kept update low l bytes needed every =
      update_kept d (baseline_numbers b) n high entity next small update low needed lacking
      (narrow (omega (arith, passed_up slots (bit mask) next)) bytes) every

pub loaded-update : (d : List ℕ) (end at : ℕ) (b : Baseline) → end ≤ length d → ((i : ℕ) → get_or d i 0 < 256) → (h : LoadedHead) (f : RecordAt)
    → HeadLoaded d at h → FieldsLoaded d h.head b end f → LoadedUpdate d end at b h f
unfolding head_at slots mask entity next place high
loaded-update d end at b inside bytes h f l r =
    let n = get_or d at 0 in
    let small : n < 256 = bytes at in
    let v = high d end (at + 1) n b inside small in
    let m = mask d end (at + 1) n b inside small in
    let e = entity d end (at + 1) n b inside small in
    let x = next d end (at + 1) n b inside small in
    let ss = update_slots (baseline_numbers b) in
    let em : h.head.mask ≡ m = ap (λ (h : UpdateHead). h.mask) l.read in
    let ee : h.index ≡ e = l.index ∙ ap (λ (h : UpdateHead). h.entity.0) l.read in
    let ex : h.head.next ≡ x = ap (λ (h : UpdateHead). h.next) l.read in
    let ef : f.next ≡ passed ss (bit m) x = r.next ∙ ap₂ (λ (m x : ℕ). passed ss (bit m) x) em ex in
    let low : m < 32768 = rw em at l.low in
    let ends : passed ss (bit m) x ≤ end = rw ef at r.ends in
    record {
      high = v;
      sent = sent d ss (bit m) x;
      parsed =
          head_parsed d end (at + 1) n b inside small low (rw ee at l.known) ends
          ∙ ap₂ (λ (e x' : ℕ). found (number v ∷ number e ∷ sent d ss (bit m) x) (drop x' (take end d))) (sym ee) (sym ef);
      filled =
          head-filled d end (at + 1) n b inside small h.index
          ∙ ap (λ (vs : List Value). number Kind.update ∷ number h.index ∷ vs)
          (ap₂ (λ (m x : ℕ). filled_at d (baseline_numbers b) m x) (sym em) (sym ex) ∙ sym r.fields);
      kept =
          λ none needed.
          ap₂ (λ (e : ℕ) (vs : List Value). send_update (baseline_numbers b) (number e ∷ vs)) ee
          (r.fields ∙ ap₂ (λ (m x : ℕ). filled_at d (baseline_numbers b) m x) em ex)
          ∙ head_kept d end (at + 1) n b inside small l.large low ends bytes (sym (ap (λ (h : UpdateHead). h.needless) l.read) ∙ needed)
          (ap₂ (λ (m x : ℕ). needless_in d ss (bit m) x false) (sym em) (sym ex) ∙ none)
          ∙ ap (λ (e : ℕ). number n ∷ number v ∷ number e ∷ sent d ss (bit m) x) (sym ee);
    }
