-- The bytes of clientdata in normal form: number and mask, the fields that differ, then supplies.
-- Assumes nothing.
use mathlib.Core.Path.{◌≡◌, refl, sym, ap, ◌∙◌}
use mathlib.Core.List.{List, ◌∷◌, ◌++◌}
use mathlib.Core.Bool.{Bool, true, false}
use Prim.Native.Nat.{ℕ}
use Rattle.dem.specs.Kind
use Rattle.format.specs.Bytes.{le_write, bit, bit_of, from_bits}
use Rattle.format.specs.Layout.{Value, number, Layout, done, print}
use Rattle.format.specs.Masked.{Mask, send_slots}
use Rattle.dem.specs.Scene.{Context}
use Rattle.dem.specs.Message.{layout, kind_layout, row, client_slots, client_tail, client_mask, send_client}
use Rattle.format.proofs.ByteLaws.{bit_from}
use Rattle.format.proofs.MaskedLaws.{Chosen, Agree, behind, agree-below, agree-layout}
use Rattle.dem_types.specs.declared.Supplies.{Supplies}
use Rattle.dem_types.specs.Values.{supplies_values}
use Rattle.dem_scene.specs.Views.{client_values}
use Rattle.dem_scene.specs.declared.Client.{Client}
use Rattle.dem_normal.specs.Put.{Put}
use Rattle.dem_normal.specs.Sent.{sent_bytes}
use Rattle.dem_normal.specs.Client.{client_fields, supplies_bytes}
use Rattle.dem_normal.proofs.PutLaws.{put_same, put_then}
use Rattle.dem_normal.proofs.UpdateBytes.{slot-bytes}

module _ (ground water : Bool) (fs : List Value) where
  mask : Mask
  mask = client_mask ground water fs

  chosen : Chosen client_slots mask fs
  unfolding mask
  chosen = (refl, (refl, (refl, (refl, (refl, (refl, (refl, (refl, (refl, (refl, (refl, (refl, tt))))))))))))

  agrees : Agree client_slots (bit (from_bits 16 mask)) mask
  agrees = agree-below 16 client_slots (bit (from_bits 16 mask)) mask refl (λ k l. bit_from 16 mask k l)

  whole : (x : Context)
      → le_write 1 15 ++ (le_write 2 (from_bits 16 mask) ++ (sent_bytes client_slots fs ++ print (row x client_tail done) (behind client_slots fs)))
      ≡ print (layout x) (number Kind.clientdata ∷ number (from_bits 16 mask) ∷ send_slots client_slots mask fs)
  unfolding layout kind_layout print
  whole x =
      let k = row x client_tail done in
      ap (λ (l : List ℕ). le_write 1 15 ++ (le_write 2 (from_bits 16 mask) ++ l))
      (sym (ap (λ (l : Layout). print l (send_slots client_slots mask fs)) (agree-layout client_slots (bit (from_bits 16 mask)) mask k agrees)
      ∙ slot-bytes client_slots mask k fs chosen))

client-bytes : (x : Context) (ground water : Bool) (fs : List Value)
    → le_write 1 15 ++ (le_write 2 (from_bits 16 (client_mask ground water fs))
    ++ (sent_bytes client_slots fs ++ print (row x client_tail done) (behind client_slots fs)))
    ≡ print (layout x) (send_client (number (bit_of ground) ∷ number (bit_of water) ∷ fs))
unfolding mask
client-bytes x true true fs = whole true true fs x
client-bytes x true false fs = whole true false fs x
client-bytes x false true fs = whole false true fs x
client-bytes x false false fs = whole false false fs x

supplies_printed : (x : Context) (s : Supplies) → supplies_bytes s ≡ print (row x client_tail done) (supplies_values s)
unfolding print
supplies_printed x s = refl

module _ (u : Client) (n : ℕ) (en : n ≡ from_bits 16 (client_mask u.ground u.water (client_fields u))) where
  abbrev states : List ℕ
  states = sent_bytes client_slots (client_fields u) ++ supplies_bytes u.supplies

  same_bytes : (x : Context) → le_write 1 15 ++ (le_write 2 n ++ states) ≡ print (layout x) (send_client (client_values u))
  same_bytes x =
      let fs = client_fields u in
      ap (λ (n : ℕ). le_write 1 15 ++ (le_write 2 n ++ states)) en
      ∙ ap (λ (l : List ℕ). le_write 1 15 ++ (le_write 2 (from_bits 16 (client_mask u.ground u.water fs))
      ++ (sent_bytes client_slots fs ++ l)))
      (supplies_printed x u.supplies)
      ∙ client-bytes x u.ground u.water fs

  pub client-put : (a b c d : List ℕ) (i j k l : ℕ) → Put a b i j (le_write 1 15) → Put b c j k (le_write 2 n) → Put c d k l states
      → (x : Context) → Put a d i l (print (layout x) (send_client (client_values u)))
  client-put a b c d i j k l f g h x =
      put_same a d i l (le_write 1 15 ++ (le_write 2 n ++ states)) (print (layout x) (send_client (client_values u))) (same_bytes x)
      (put_then a b d i j l (le_write 1 15) (le_write 2 n ++ states) f (put_then b c d j k l (le_write 2 n) states g h))
