-- An update's mask and entity, and its fields where it is loaded.
use Rattle.std.specs.Prelude.{◌≡◌, List, Bool, ◌&&◌, ◌||◌, ℕ, suc, ◌+◌, ◌*◌, ◌<◌, ◌≤◌, ltb, take, drop, get_or}
use Rattle.format.specs.Bytes.{le_read, bit, bit_of}
use Rattle.dem.specs.Limits.{entity_count}
use Rattle.dem.specs.Message.{high_bit, wide_bit, update_slots}
use Rattle.dem_scene.specs.Views.{baseline_numbers, record_values}
use Rattle.dem_scene.specs.declared.Baseline.{Baseline}
use Rattle.dem_direct.specs.Spread.{field_or, behind, passed, filled_at}
use Rattle.dem_direct.specs.declared.UpdateHead.{UpdateHead}
use Rattle.dem_direct.specs.declared.LoadedHead.{LoadedHead}
use Rattle.dem_direct.specs.declared.RecordAt.{RecordAt}

-- The byte of high mask bits, 0 where it is not sent.
abbrev pub high_at : List ℕ → ℕ → ℕ → ℕ
high_at d at low = field_or d at (bit low high_bit) 1 0

abbrev pub mask_at : List ℕ → ℕ → ℕ → ℕ
mask_at d at low = high_at d at low * 256 + low

-- How many bytes the entity has.
abbrev pub entity_width : ℕ → ℕ
entity_width mask = suc (bit_of (bit mask wide_bit))

-- Whether a mask, with the number in its low byte, is sent with a byte of high bits that is 0, or an entity in two bytes that has room
-- in one.
unfoldable pub needless_head : ℕ → ℕ → Bool
needless_head mask entity = bit mask high_bit && ltb mask 256 || bit mask wide_bit && ltb entity 256

unfoldable pub head_at : List ℕ → ℕ → ℕ → UpdateHead
head_at d at low =
    let w = entity_width (mask_at d at low) in
    let q = behind at (bit low high_bit) 1 in
    let entity = le_read (take w (drop q d)) in
    record { mask = mask_at d at low; entity = record { 0 = entity }; next = q + w; needless = needless_head (mask_at d at low) entity }

-- What is known of the head of an update that is loaded, at the place of the update's number.
pub record HeadLoaded (d : List ℕ) (at : ℕ) (h : LoadedHead) : Type 0 where
  pub large : 128 ≤ get_or d at 0
  pub read : h.head ≡ head_at d (at + 1) (get_or d at 0)
  pub near : h.head.next ≤ at + 4
  pub index : h.index ≡ h.head.entity.0
  pub known : h.index < entity_count
  pub low : h.head.mask < 32768

-- What is known of its fields, where they are loaded: the record filled from a baseline, and the place behind them, no further than `end`.
pub record FieldsLoaded (d : List ℕ) (h : UpdateHead) (b : Baseline) (end : ℕ) (r : RecordAt) : Type 0 where
  pub fields : record_values r.record ≡ filled_at d (baseline_numbers b) h.mask h.next
  pub next : r.next ≡ passed (update_slots (baseline_numbers b)) (bit h.mask) h.next
  pub ends : r.next ≤ end
