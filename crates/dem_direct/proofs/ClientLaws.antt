-- Clientdata whose every field was loaded, sent or not: where all of it lies in the bytes, they read to it there, and it fills in to the
-- client's fields.
-- Assumes nothing.
use mathlib.Core.Path.{◌≡◌, sym, ap, ◌∙◌, subst}
use mathlib.Core.List.{List, ◌∷◌}
use mathlib.Core.Bool.{false, not}
use Prim.Native.Nat.{ℕ, ◌+◌, ◌/◌, ◌%◌, ◌^◌, ◌<◌, ◌≤◌}
use native.Mathlib.Nat.{le_refl}
use native.Mathlib.Omega.{arith}
use lib.ListN.{length, take, drop}
use lib.Seq.{take_all}
use Rattle.dem.specs.Kind
use Rattle.format.specs.Bytes.{found, map_result, le_read, bit, bit_of, is_set}
use Rattle.format.specs.Layout.{Value, number, done, parse, put, tail}
use Rattle.format.specs.Masked.{slot_layout}
use Rattle.dem.specs.Scene.{Context}
use Rattle.dem.specs.Message.{client_rule, ground_bit, water_bit, kind_layout, fill_client, send_client}
use Rattle.format.proofs.ByteLaws.{bit_div}
use Rattle.format.proofs.AtLaws.{parse-good}
use Rattle.dem_parts.specs.Kinds.{kind_in}
use Rattle.dem_direct.specs.Spread.{passed, needless_in, client_fields, client_in, client_at}
use Rattle.dem_direct.proofs.Fields.{sent}
use Rattle.dem_direct.proofs.NormalLaws.{client_kept}
use Rattle.dem_direct.proofs.LoadLaws.{slots_filled, slots_parsed}

pub client-good : (m : ℕ) → bit m 8 ≡ false → m < 32768 → client_rule m ≡ 0
client-good m e h =
    let z : m / 2 ^ 15 % 2 ≡ 0 = omega arith in
    let f : bit m 15 ≡ false = bit_div m 15 ∙ ap is_set z in
    rw (e, f)

module _ (s : List ℕ) (at mask : ℕ) (whole : at + 2 ≤ length s) (read : le_read (take 2 (drop at s)) ≡ mask) (good : client_rule mask ≡ 0)
    (inside : passed client_fields (bit mask) (at + 2) ≤ length s) where
  -- The fields as sent.
  abbrev fields : List Value
  fields = sent s client_fields (bit mask) (at + 2)

  fields_parsed : parse (slot_layout client_fields (bit mask) done) (drop (at + 2) s) ≡ found fields (drop (passed client_fields (bit mask) (at + 2)) s)
  fields_parsed =
      subst (λ (l : List ℕ). parse (slot_layout client_fields (bit mask) done) (drop (at + 2) l) ≡ found fields (drop (passed client_fields (bit mask) (at + 2)) l))
      (take_all (length s) s (le_refl (length s))) (slots_parsed s (length s) (le_refl (length s)) client_fields (bit mask) (at + 2) inside)

  pub client_parsed : (x : Context)
      → found (number Kind.clientdata ∷ number mask ∷ fields) (drop (passed client_fields (bit mask) (at + 2)) s) ≡ kind_in x Kind.clientdata (drop at s)
  unfolding kind_in kind_layout
  client_parsed x =
      sym (ap (put (number Kind.clientdata))
      (parse-good 2 client_rule (λ m. slot_layout client_fields (bit m) done) at s mask whole read good ∙ ap (put (number mask)) fields_parsed))

  pub client-filled : fill_client (number mask ∷ fields) ≡ number Kind.clientdata ∷ client_in s mask (at + 2)
  unfolding sent
  client-filled =
      ap (λ (vs : List Value). number Kind.clientdata ∷ number (bit_of (bit mask ground_bit)) ∷ number (bit_of (bit mask water_bit)) ∷ vs) (slots_filled s client_fields (bit mask) (at + 2))

  module _ (vs : List Value) (next : ℕ) (ev : vs ≡ client_in s mask (at + 2)) (en : next ≡ passed client_fields (bit mask) (at + 2)) (x : Context) where
    pub client-found : found (number Kind.clientdata ∷ vs) (drop next s) ≡ client_at s at x
    client-found =
        (λ i. found (number Kind.clientdata ∷ ev i) (drop (en i) s))
        ∙ ap (λ (ws : List Value). found ws (drop (passed client_fields (bit mask) (at + 2)) s)) (sym client-filled)
        ∙ ap (map_result (λ ws. fill_client (tail ws))) (client_parsed x)

    -- Where nothing was sent needlessly, and bit 9 is set, which code tests and the normal form always sets, it is its own normal form.
    pub client_again : mask < 32768 → bit mask 8 ≡ false → needless_in s client_fields (bit mask) (at + 2) (not (bit mask 9)) ≡ false
        → found (send_client vs) (drop next s) ≡ kind_in x Kind.clientdata (drop at s)
    client_again low eight every =
        (λ i. found (send_client (ev i)) (drop (en i) s))
        ∙ ap (λ (ws : List Value). found ws (drop (passed client_fields (bit mask) (at + 2)) s)) (client_kept s mask (at + 2) low eight every)
        ∙ client_parsed x
