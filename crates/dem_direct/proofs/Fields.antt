-- A field by a bit of the mask, as code picks it.
-- Assumes nothing.
use mathlib.Core.Path.{◌≡◌, refl, sym, ap, ap₂, ◌∙◌}
use mathlib.Core.List.{List, [], ◌∷◌}
use mathlib.Core.Bool.{Bool, true, false, cond, ◌||◌, ◌&&◌}
use Prim.Native.Nat.{ℕ, zero, suc, ◌+◌, ◌*◌, ◌/◌, ◌%◌, ◌^◌, ◌<◌, ◌≤◌}
use native.Mathlib.Omega.{arith}
use borrow.Author.Tests.{lt-ltb, le-ltb, ne_eqb}
use lib.Dec.{eqb, ltb}
use lib.IntN.{ℤ}
use lib.ListN.{length, take, drop, get_or}
use lib.Signed.{mag}
use mir.Syntax.{Width}
use mir.Val.{of_z, to_z, hbits}
use mir.ValLaws.{to_z-of_z}
use Rattle.std.specs.Prelude.{Option, None, Some, IfNone}
use Rattle.format.specs.Bytes.{le_read, is_set, bit, bit_of}
use Rattle.format.specs.Layout.{Value, number}
use Rattle.format.specs.Masked.{Slot, Mask, is_sent}
use Rattle.dem.specs.Message.{high_bit, wide_bit}
use Rattle.format.proofs.ByteLaws.{bit_div}
use Rattle.format.proofs.BitLaws.{bit_test}
use Rattle.format.proofs.AtLaws.{one_at, two_at}
use Rattle.dem.proofs.UpdateLaws.{update_mask_lem}
use Rattle.dem_direct.specs.Spread.{field_or, behind, needless_or, needless_in}
use Rattle.dem_direct.specs.Heads.{high_at, mask_at, entity_width, head_at, needless_head}
use Rattle.dem_direct.specs.declared.UpdateHead.{UpdateHead}

-- A signed number that was handed on.
pub handed_on : (w : Width) (z : ℤ) → mag z < 2 ^ hbits w → to_z w (of_z w z) ≡ z
handed_on w z h = to_z-of_z w z (record { sfits = h })

pub set_one : (x : ℕ) → (x ≡ 0 → ⊥) → is_set x ≡ true
set_one zero h = absurd (h refl)
set_one (suc x) h = refl

-- The bit, by the test that code makes.
pub bit_set : (m k : ℕ) → (m / 2 ^ k % 2 ≡ 0 → ⊥) → bit m k ≡ true
bit_set m k h = bit_div m k ∙ set_one (m / 2 ^ k % 2) h

pub bit_clear : (m k : ℕ) → m / 2 ^ k % 2 ≡ 0 → bit m k ≡ false
bit_clear m k h = bit_div m k ∙ ap is_set h

-- A bit is 1 where it is set.
pub bit_number : (m k : ℕ) → m / 2 ^ k % 2 ≡ cond (bit m k) 1 0
bit_number m k = digit (m / 2 ^ k % 2) (omega arith) ∙ ap (λ (b : Bool). cond b 1 0) (sym (bit_div m k))
  where
    digit : (x : ℕ) → x < 2 → x ≡ cond (is_set x) 1 0
    digit zero h = refl
    digit (suc zero) h = refl
    digit (suc (suc x)) h = omega arith

-- The bit, by the test and by the number.
pub ruleset bits = (bit_number, bit_test)

-- ---- fields that are sent always

pub field_sent : (d : List ℕ) (at w other : ℕ) → field_or d at true w other ≡ le_read (take w (drop at d))
unfolding field_or
field_sent d at w other = refl

pub behind_sent : (at w : ℕ) → behind at true w ≡ at + w
unfolding behind
behind_sent at w = refl

pub byte_sent : (d : List ℕ) (i at other : ℕ) → i ≡ at → i < length d → get_or d i 0 ≡ field_or d at true 1 other
unfolding field_or
byte_sent d i at other e h = rw (← e) (sym (one_at i d h))

-- ---- fields that are passed over

-- Bits 10 to 13, by one test.
pub clear_10 : (m : ℕ) → m / 2 ^ 10 % 16 ≡ 0 → bit m 10 ≡ false
clear_10 m h = bit_clear m 10 (omega arith)

pub clear_11 : (m : ℕ) → m / 2 ^ 10 % 16 ≡ 0 → bit m 11 ≡ false
clear_11 m h = bit_clear m 11 (omega arith)

pub clear_12 : (m : ℕ) → m / 2 ^ 10 % 16 ≡ 0 → bit m 12 ≡ false
clear_12 m h = bit_clear m 12 (omega arith)

pub clear_13 : (m : ℕ) → m / 2 ^ 10 % 16 ≡ 0 → bit m 13 ≡ false
clear_13 m h = bit_clear m 13 (omega arith)

pub field_other : (d : List ℕ) (at w other : ℕ) → field_or d at false w other ≡ other
unfolding field_or
field_other d at w other = refl

pub behind_none : (at w : ℕ) → behind at false w ≡ at
unfolding behind
behind_none at w = omega arith

pub needless_none : (before : Bool) (d : List ℕ) (at w other : ℕ) → needless_or before d at false w other ≡ before
unfolding needless_or
needless_none before d at w other = refl

-- Where only the frame can be sent.
pub ruleset frame_alone = (clear_10, clear_11, clear_12, clear_13, field_other, behind_none, needless_none)

-- What was sent needlessly stays so.
pub needless_kept : (d : List ℕ) (at : ℕ) (sent : Bool) (w other : ℕ) → needless_or true d at sent w other ≡ true
unfolding needless_or
needless_kept d at true w other = refl
needless_kept d at false w other = refl

-- ---- the head

-- An entity's number is its low byte, and a high one where it is sent.
entity-read : (d : List ℕ) (q : ℕ) (sent : Bool) (hi lo : ℕ) → q + 2 ≤ length d → hi ≡ field_or d (q + 1) sent 1 0 → lo ≡ get_or d q 0
    → hi * 256 + lo ≡ le_read (take (suc (bit_of sent)) (drop q d))
unfolding field_or
entity-read d q true hi lo h e f = omega (arith, two_at q d h, one_at (q + 1) d (omega arith))
entity-read d q false hi lo h e f = omega (arith, one_at q d (omega arith))

entity-behind : (q : ℕ) (sent : Bool) → behind (q + 1) sent 1 ≡ q + suc (bit_of sent)
unfolding behind
entity-behind q true = omega arith
entity-behind q false = omega arith

-- A byte sent needlessly is one that is sent and is 0, and so what it is the high byte of is below 256.
byte_needless : (before : Bool) (d : List ℕ) (at : ℕ) (sent : Bool) (v x : ℕ) → v ≡ field_or d at sent 1 0 → (sent ≡ true → eqb v 0 ≡ ltb x 256)
    → needless_or before d at sent 1 0 ≡ (before || sent && ltb x 256)
unfolding field_or needless_or
byte_needless before d at true v x e h = ap (λ (y : ℕ). before || eqb y 0) (sym e) ∙ ap (λ (y : Bool). before || y) (h refl)
byte_needless true d at false v x e h = refl
byte_needless false d at false v x e h = refl

below : (v l : ℕ) → l < 256 → eqb v 0 ≡ ltb (v * 256 + l) 256
below zero l h = sym (lt-ltb (0 * 256 + l) 256 (omega arith))
below (suc v) l h = ne_eqb (suc v) 0 (λ z. omega arith) ∙ sym (le-ltb (suc v * 256 + l) 256 (omega arith))

module _ (d : List ℕ) (at low h q m lo hi next : ℕ) (hn n : Bool) where
  pub head_made : q + 2 ≤ length d → low < 256 → lo < 256 → h ≡ high_at d at low → q ≡ behind at (bit low high_bit) 1 → m ≡ h * 256 + low → lo ≡ get_or d q 0
      → hi ≡ field_or d (q + 1) (bit m wide_bit) 1 0 → next ≡ behind (q + 1) (bit m wide_bit) 1
      → hn ≡ needless_or false d at (bit low high_bit) 1 0 → n ≡ needless_or hn d (q + 1) (bit m wide_bit) 1 0
      → ◌≡◌ {A = UpdateHead} (record { mask = m; entity = record { 0 = hi * 256 + lo }; next = next; needless = n }) (head_at d at low)
  unfolding head_at needless_head
  head_made l sl slo eh eq em elo ehi en ehn ef =
      let mask : m ≡ mask_at d at low = em ∙ ap (λ (x : ℕ). x * 256 + low) eh in
      let entity : hi * 256 + lo ≡ le_read (take (entity_width (mask_at d at low)) (drop (behind at (bit low high_bit) 1) d)) =
      entity-read d q (bit m wide_bit) hi lo l ehi elo
      ∙ ap₂ (λ (q m : ℕ). le_read (take (entity_width m) (drop q d))) eq mask in
      let place = en ∙ entity-behind q (bit m wide_bit) ∙ ap₂ (λ (q m : ℕ). q + entity_width m) eq mask in
      let zero_bit : bit low high_bit ≡ bit m high_bit = sym (ap (λ (x : ℕ). bit x high_bit) em ∙ ap (λ (f : ℕ → Bool). f high_bit) (update_mask_lem h low sl)) in
      let first : hn ≡ (bit m high_bit && ltb m 256) =
      ehn ∙ byte_needless false d at (bit low high_bit) h m eh (λ z. below h low sl ∙ ap (λ (x : ℕ). ltb x 256) (sym em)) ∙ ap (λ (b : Bool). b && ltb m 256) zero_bit in
      let flag : n ≡ needless_head m (hi * 256 + lo) =
      ef ∙ byte_needless hn d (q + 1) (bit m wide_bit) hi (hi * 256 + lo) ehi (λ z. below hi lo slo)
      ∙ ap (λ (b : Bool). b || bit m wide_bit && ltb (hi * 256 + lo) 256) first in
      λ i. record { mask = mask i; entity = record { 0 = entity i }; next = place i; needless = (flag ∙ ap₂ needless_head mask entity) i }

-- ---- where reading is left at a field sent needlessly

pub if_none : {A : Type 0} (r : Option A) (b : Bool) → b ≡ true → IfNone r (b ≡ true)
if_none None b e = e
if_none (Some x) b e = tt

-- One such field, and it is so of all.
pub needless_stays : (d : List ℕ) (ss : List Slot) (mask : Mask) (at : ℕ) → needless_in d ss mask at true ≡ true
unfolding needless_or
needless_stays d [] mask at = refl
needless_stays d (s ∷ ss) mask at =
    ap (needless_in d ss mask (behind at (is_sent s mask) s.width)) (stays s.always (is_sent s mask) s.width s.default) ∙ needless_stays d ss mask (behind at (is_sent s mask) s.width)
  where
    stays : (a b : Bool) (w o : ℕ) → cond a true (needless_or true d at b w o) ≡ true
    stays true b w o = refl
    stays false true w o = refl
    stays false false w o = refl

-- Slots as sent: 0 for one that is not.
unfoldable pub sent : List ℕ → List Slot → Mask → ℕ → List Value
sent d [] mask at = []
sent d (s ∷ ss) mask at = number (field_or d at (is_sent s mask) s.width 0) ∷ sent d ss mask (behind at (is_sent s mask) s.width)
