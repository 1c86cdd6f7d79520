-- The bytes of a sound in normal form: number and mask, the fields that differ, then its place.
-- Assumes nothing.
use mathlib.Core.Path.{◌≡◌, refl, sym, ap, ◌∙◌}
use mathlib.Core.List.{List, ◌∷◌, ◌++◌}
use Prim.Native.Nat.{ℕ}
use Rattle.dem.specs.Kind
use Rattle.format.specs.Bytes.{le_write, bit, from_bits}
use Rattle.format.specs.Layout.{Value, number, Layout, done, print, tail}
use Rattle.format.specs.Masked.{Mask, normal_mask, send_slots}
use Rattle.dem.specs.Scene.{Context}
use Rattle.dem.specs.Message.{layout, kind_layout, row, sound_slots, sound_tail, fill_sound, send_sound}
use Rattle.format.proofs.ByteLaws.{bit_from}
use Rattle.format.proofs.MaskedLaws.{Chosen, Agree, behind, agree-below, agree-layout}
use Rattle.dem_types.specs.declared.Sound.{Sound}
use Rattle.dem_types.specs.Values.{sound_values}
use Rattle.dem_scene.specs.Views.{filled_sound_values}
use Rattle.dem_scene.specs.declared.FilledSound.{FilledSound}
use Rattle.dem_normal.specs.Put.{Put}
use Rattle.dem_normal.specs.Sent.{sent_bytes}
use Rattle.dem_normal.specs.Normal.{place_bytes}
use Rattle.dem_normal.proofs.PutLaws.{put_same, put_then}
use Rattle.dem_normal.proofs.UpdateBytes.{slot-bytes}

module _ (s : FilledSound) where
  abbrev fields : List Value
  fields = filled_sound_values s

  mask : Mask
  mask = normal_mask sound_slots fields

  chosen : Chosen sound_slots mask fields
  unfolding mask
  chosen = (refl, (refl, tt))

  agrees : Agree sound_slots (bit (from_bits 8 mask)) mask
  agrees = agree-below 8 sound_slots (bit (from_bits 8 mask)) mask refl (λ k l. bit_from 8 mask k l)

  place_printed : (x : Context) → place_bytes s ≡ print (row x sound_tail done) (behind sound_slots fields)
  unfolding print
  place_printed x = refl

  whole : (x : Context) → le_write 1 6 ++ (le_write 1 (from_bits 8 mask) ++ (sent_bytes sound_slots fields ++ place_bytes s))
      ≡ print (layout x) (send_sound fields)
  unfolding layout kind_layout print mask
  whole x =
      let k = row x sound_tail done in
      ap (λ (l : List ℕ). le_write 1 6 ++ (le_write 1 (from_bits 8 mask) ++ l))
      (ap (λ (l : List ℕ). sent_bytes sound_slots fields ++ l) (place_printed x)
      ∙ sym (ap (λ (l : Layout). print l (send_slots sound_slots mask fields)) (agree-layout sound_slots (bit (from_bits 8 mask)) mask k agrees)
      ∙ slot-bytes sound_slots mask k fields chosen))

  pub sound-put : (n : ℕ) → n ≡ from_bits 8 (normal_mask sound_slots fields) → (a b c d e : List ℕ) (i j k l m : ℕ) → Put a b i j (le_write 1 6)
      → Put b c j k (le_write 1 n) → Put c d k l (sent_bytes sound_slots fields) → Put d e l m (place_bytes s)
      → (x : Context) → Put a e i m (print (layout x) (send_sound fields))
  unfolding mask
  sound-put n en a b c d e i j k l m f g h o x =
      let later = sent_bytes sound_slots fields ++ place_bytes s in
      put_same a e i m (le_write 1 6 ++ (le_write 1 n ++ later)) (print (layout x) (send_sound fields))
      (ap (λ (n : ℕ). le_write 1 6 ++ (le_write 1 n ++ later)) en ∙ whole x)
      (put_then a b e i j m (le_write 1 6) (le_write 1 n ++ later) f
      (put_then b c e j k m (le_write 1 n) later g (put_then c d e k l m (sent_bytes sound_slots fields) (place_bytes s) h o)))

-- A sound's bytes, from its fields filled in.
pub sound-sent : (x : Context) (v : Sound) (f : FilledSound) → number Kind.sound ∷ filled_sound_values f ≡ fill_sound (sound_values v)
    → print (layout x) (send_sound (filled_sound_values f)) ≡ print (layout x) (send_sound (tail (fill_sound (sound_values v))))
sound-sent x v f = ap (λ (vs : List Value). print (layout x) (send_sound (tail vs)))
