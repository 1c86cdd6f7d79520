-- A message of which no field is sent needlessly is its own normal form.
-- Assumes nothing.
use mathlib.Core.Path.{◌≡◌, refl, sym, ap, ap₂, ◌∙◌, subst}
use mathlib.Core.List.{List, [], ◌∷◌, ◌++◌}
use mathlib.Core.Bool.{Bool, true, false, cond, not, ◌||◌, ◌&&◌}
use Prim.Native.Nat.{ℕ, zero, suc, ◌+◌, ◌*◌, ◌/◌, ◌%◌, ◌^◌, ◌<◌, ◌≤◌}
use native.Mathlib.Nat.{pow-suc}
use native.Mathlib.Omega.{arith}
use borrow.Author.Tests.{eq-eqb, ltb-false, le-leb, lt-leb, not-false}
use lib.Dec.{eqb, leb, ltb}
use lib.ListN.{take, drop}
use Rattle.dem.specs.Kind
use Rattle.format.specs.Bytes.{le_read, is_set, bit, bit_of, from_bits}
use Rattle.format.specs.Layout.{Value, number}
use Rattle.format.specs.Masked.{Slot, Mask, is_sent, differs, send_slots}
use Rattle.dem.specs.Scene.{Baseline}
use Rattle.dem.specs.Message.{high_bit, wide_bit, record_bit, ground_bit, water_bit, update_mask, update_slots, sent_mask, high_byte, update_number, send_update}
use Rattle.dem.specs.Message.{client_slots, client_mask, send_client}
use Rattle.format.proofs.ResultLaws.{clash}
use Rattle.format.proofs.ByteLaws.{set-bit}
use Rattle.format.proofs.LayoutLaws.{both_false}
use Rattle.format.proofs.MaskedLaws.{Agree, Chosen}
use Rattle.dem.proofs.UpdateLaws.{update_mask_lem}
use Rattle.dem_direct.specs.Spread.{field_or, behind, needless_or, spread, needless_in, filled_at, supplies_slots, client_fields, client_in}
use Rattle.dem_direct.specs.Heads.{needless_head}
use Rattle.dem_direct.proofs.Fields.{set_one, bit_set, bit_clear, needless_stays, sent}

-- ---- slots

module _ (d : List ℕ) (mask : Mask) where
  pub before_clear : (ss : List Slot) (at : ℕ) (before : Bool) → needless_in d ss mask at before ≡ false → before ≡ false
  before_clear ss at true e = clash (cc (needless_stays d ss mask at))
  before_clear ss at false e = refl

  -- One slot that is not sent needlessly is sent exactly if it differs.
  slot_chosen : (s : Slot) (at : ℕ) (before : Bool)
      → cond s.always before (needless_or before d at (is_sent s mask) s.width s.default) ≡ false
      → is_sent s mask ≡ differs s (number (field_or d at (is_sent s mask) s.width s.default))
  unfolding needless_or field_or
  slot_chosen s at before e = go s.always (mask s.bit) e
    where
      go : (a b : Bool) → cond a before (needless_or before d at (a || b) s.width s.default) ≡ false
          → (a || b) ≡ (a || not (eqb (field_or d at (a || b) s.width s.default) s.default))
      go true b e = refl
      go false true e = sym (ap not (both_false before (eqb (le_read (take s.width (drop at d))) s.default) e).1)
      go false false e = sym (ap not (eq-eqb s.default s.default refl))

  pub chosen : (ss : List Slot) (at : ℕ) (before : Bool) → needless_in d ss mask at before ≡ false → Chosen ss mask (spread d ss mask at)
  chosen [] at before e = tt
  chosen (s ∷ ss) at before e =
      let next = behind at (is_sent s mask) s.width in
      let flag = cond s.always before (needless_or before d at (is_sent s mask) s.width s.default) in
      (slot_chosen s at before (before_clear ss next flag e), chosen ss next flag e)

  -- Slots sent again behind the same bits, and behind them others that have no default but 0, are as they were sent.
  pub sent_again : (ss ts : List Slot) (f : Mask) (at : ℕ) → Agree ss mask f → ((at : ℕ) → spread d ts mask at ≡ sent d ts mask at)
      → send_slots ss f (spread d (ss ++ ts) mask at) ≡ sent d (ss ++ ts) mask at
  unfolding sent field_or
  sent_again [] ts f at g h = h at
  sent_again (s ∷ ss) ts f at g h =
      ap₂ (λ (x : Value) (l : List Value). x ∷ l)
      (ap (λ (b : Bool). cond (s.always || b) (number (field_or d at (is_sent s mask) s.width s.default)) (number 0)) (sym g.0) ∙ go (is_sent s mask))
      (sent_again ss ts f (behind at (is_sent s mask) s.width) g.1 h)
    where
      go : (b : Bool) → cond b (number (field_or d at b s.width s.default)) (number 0) ≡ number (field_or d at b s.width 0)
      go true = refl
      go false = refl

-- ---- a mask of its bits

-- The same bits 0 to n - 1.
abbrev pub Same : ℕ → Mask → Mask → Type 0
Same zero f g = Unit {0}
Same (suc n) f g = (f 0 ≡ g 0) × Same n (λ k. f (suc k)) (λ k. g (suc k))

low_bit : (m : ℕ) → m < 2 → bit_of (is_set m) ≡ m
low_bit zero h = refl
low_bit (suc m) h = omega arith

pub from-same : (n : ℕ) (f : Mask) (m : ℕ) → m < 2 ^ n → Same n f (bit m) → from_bits n f ≡ m
unfolding bit
from-same zero f m h e = omega arith
from-same (suc n) f m h e =
    let later : from_bits n (λ k. f (suc k)) ≡ m / 2 = from-same n (λ k. f (suc k)) (m / 2) (omega (arith, rw pow-suc at h)) e.1 in
    let first : bit_of (f 0) ≡ m % 2 = ap bit_of e.0 ∙ low_bit (m % 2) (omega arith) in
    omega (arith, later, first)

-- ---- an update

module _ (d : List ℕ) (b : Baseline) (n high e at : ℕ) (small : n < 256) (update : 128 ≤ n) (low : high * 256 + n < 32768)
    (needed : needless_head (high * 256 + n) e ≡ false) (lacking : bit n high_bit ≡ false → high ≡ 0)
    (narrow : bit (high * 256 + n) wide_bit ≡ false → e < 256)
    (every : needless_in d (update_slots b) (bit (high * 256 + n)) at false ≡ false) where
  abbrev mask : ℕ
  mask = high * 256 + n

  abbrev fields : List Value
  fields = spread d (update_slots b) (bit mask) at

  -- The mask of the normal form.
  normal : Mask
  normal = sent_mask b e (is_set (bit_of (bit mask record_bit))) fields

  split : bit mask ≡ update_mask n high
  split = update_mask_lem high n small

  agree : Agree (update_slots b) (bit mask) normal
  unfolding normal
  agree = chosen d (bit mask) (update_slots b) at false every

  -- The same of the mask's two bytes.
  bytes_agree : Agree (update_slots b) (update_mask n high) normal
  bytes_agree = subst (λ (m : Mask). Agree (update_slots b) m normal) split agree

  above : (b : Bool) (x : ℕ) → (b && ltb x 256) ≡ false → b ≡ true → 256 ≤ x
  above true x h q = ltb-false x 256 h
  above false x h q = clash (cc)

  heads : ((bit mask high_bit && ltb mask 256) ≡ false) × ((bit mask wide_bit && ltb e 256) ≡ false)
  unfolding needless_head
  heads = both_false (bit mask high_bit && ltb mask 256) (bit mask wide_bit && ltb e 256) needed

  wide : leb 256 e ≡ bit high 6
  wide = go (bit mask wide_bit) refl ∙ ap (λ (m : Mask). m wide_bit) split
    where
      go : (x : Bool) → bit mask wide_bit ≡ x → leb 256 e ≡ bit mask wide_bit
      go true q = le-leb 256 e (above (bit mask wide_bit) e heads.1 q) ∙ sym q
      go false q = lt-leb 256 e (narrow q) ∙ sym q

  some : is_set high ≡ bit n high_bit
  some = go (bit n high_bit) refl
    where
      go : (x : Bool) → bit n high_bit ≡ x → is_set high ≡ x
      go true q =
          let l : 256 ≤ mask = above (bit mask high_bit) mask heads.0 (ap (λ (m : Mask). m high_bit) split ∙ q) in
          set_one high (λ z. omega arith)
      go false q = ap is_set (lacking q)

  high_kept : high_byte normal ≡ high
  unfolding normal
  high_kept =
      let a = bytes_agree in
      let a2 = a.1.1 in
      let a4 = a2.1.1 in
      let a6 = a4.1.1 in
      let top : bit high 7 ≡ false = bit_clear high 7 (omega arith) in
      from-same 8 (λ k. normal (8 + k)) high (omega arith)
      (sym a6.0, (sym a6.1.1.1.1.0, (sym a.0, (sym a2.0, (sym a2.1.0, (sym a4.0, (wide, (sym top, tt))))))))

  number_kept : update_number normal ≡ n
  unfolding normal
  number_kept =
      let a = bytes_agree in
      let a5 = a.1.1.1.1.1 in
      let a7 = a5.1.1 in
      let five : is_set (bit_of (bit mask record_bit)) ≡ bit n 5 = set-bit (bit mask record_bit) ∙ ap (λ (m : Mask). m record_bit) split in
      let top : bit n 7 ≡ true = bit_set n 7 (λ z. omega arith) in
      from-same 8 (λ k. cond (eqb k high_bit) (is_set (high_byte normal)) (cond (eqb k 7) true (normal k))) n small
      (ap is_set high_kept ∙ some, (sym a5.0, (sym a7.0, (sym a7.1.1.0, (sym a7.1.0, (five, (sym a.1.0, (sym top, tt))))))))

  pub update_kept : send_update b (number e ∷ filled_at d b (high * 256 + n) at)
      ≡ number n ∷ number high ∷ number e ∷ sent d (update_slots b) (bit (high * 256 + n)) at
  unfolding normal sent
  update_kept =
      let again = sent_again d (bit mask) (update_slots b) [] normal at agree (λ at. refl) in
      λ i. number (number_kept i) ∷ number (high_kept i) ∷ number e ∷ again i

-- ---- clientdata

module _ (d : List ℕ) (mask at : ℕ) (low : mask < 32768) (eight : bit mask 8 ≡ false)
    (every : needless_in d client_fields (bit mask) at (not (bit mask 9)) ≡ false) where
  client_normal : Mask
  client_normal = client_mask (is_set (bit_of (bit mask ground_bit))) (is_set (bit_of (bit mask water_bit))) (spread d client_fields (bit mask) at)

  items : bit mask 9 ≡ true
  items = not-false (bit mask 9) (before_clear d (bit mask) client_fields at (not (bit mask 9)) every)

  client_agree : Agree client_slots (bit mask) client_normal
  unfolding client_normal
  client_agree =
      let c = chosen d (bit mask) client_fields at (not (bit mask 9)) every in
      let c2 = c.1.1 in
      let c4 = c2.1.1 in
      let c6 = c4.1.1 in
      let c9 = c6.1.1.1 in
      (c.0, (c.1.0, (c2.0, (c2.1.0, (c4.0, (c4.1.0, (c6.0, (c6.1.0, (items, (c9.0, (c9.1.0, (c9.1.1.0, tt))))))))))))

  mask_kept : from_bits 16 client_normal ≡ mask
  unfolding client_normal
  mask_kept =
      let a = client_agree in
      let a2 = a.1.1 in
      let a4 = a2.1.1 in
      let a6 = a4.1.1 in
      let a9 = a6.1.1.1 in
      let top : bit mask 15 ≡ false = bit_clear mask 15 (omega arith) in
      from-same 16 client_normal mask (omega arith) (
        sym a.0,
        (
          sym a.1.0,
          (
            sym a2.0,
            (
              sym a4.0,
              (
                sym a6.0,
                (
                  sym a2.1.0,
                  (
                    sym a4.1.0,
                    (
                      sym a6.1.0,
                      (
                        sym eight,
                        (
                          sym items,
                          (set-bit (bit mask ground_bit), (set-bit (bit mask water_bit), (sym a9.0, (sym a9.1.0, (sym a9.1.1.0, (sym top, tt)))))),
                        ),
                      ),
                    ),
                  ),
                ),
              ),
            ),
          ),
        ),
      )

  pub client_kept : send_client (client_in d mask at) ≡ number Kind.clientdata ∷ number mask ∷ sent d client_fields (bit mask) at
  unfolding client_normal sent
  client_kept =
      let again = sent_again d (bit mask) client_slots supplies_slots client_normal at client_agree (λ at. refl) in
      λ i. number Kind.clientdata ∷ number (mask_kept i) ∷ again i
