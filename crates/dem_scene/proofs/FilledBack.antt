-- A message filled in is read back from its values and, where it has strings, from the place where it ends; and one without a mask is
-- filled in as it was sent.
-- Assumes nothing.
use mathlib.Core.Path.{◌≡◌, refl, sym, ap, ◌∙◌}
use mathlib.Core.Logic.{◌≢◌}
use mathlib.Core.List.{List, [], ◌∷◌, nil≢cons}
use mathlib.Core.Bool.{Bool, true, false, cond, ◌||◌}
use Prim.Native.Nat.{ℕ, ◌≤◌}
use lib.Dec.{eqb}
use lib.ListN.{length, drop}
use denote.Enum.Declared.{variants}
use denote.Enum.Laws.{Fields, spellss, owed}
use Rattle.dem.specs.Kind
use Rattle.format.specs.Layout.{Value, number, numbers, first_number, tail}
use Rattle.dem.specs.Scene.{Scene as Described, Context, baseline_at}
use Rattle.dem.specs.Message.{is_update, fill_update, fill_sound, fill_client, fill}
use Rattle.format.proofs.ResultLaws.{clash}
use Rattle.wire.proofs.FieldLaws.{Held, from, from_front}
use Rattle.dem_types.specs.Places.{values_to}
use Rattle.dem_types.proofs.InPlace.{placed_values}
use Rattle.dem_types.proofs.Structs.{entity}
use Rattle.dem_types.proofs.Back.{message_from, Read, message_back}
use Rattle.dem_scene.specs.declared.Filled.{Filled}
use Rattle.dem_scene.specs.declared.Filled.TheVariants as F
use Rattle.dem_scene.specs.Views.{is_masked, plain_values, filled_by}
use Rattle.dem_scene.specs.contracts.Filled as FilledType
use Rattle.dem_scene.proofs.Filled.TheLaws as FilledLaws
use Rattle.dem_scene.proofs.Back.{latest, client, heard}

-- ---- as it was sent

module _ (us vs : List Value) where
  -- A message with a mask has another number of that kind.
  masked_other : (n : ℕ) (xs : List Value) → is_masked n ≡ true → (masked : Bool) → is_masked (first_number us) ≡ masked
      → cond masked [] us ≡ number n ∷ xs → us ≡ vs
  masked_other n xs k true p e = absurd (nil≢cons e)
  masked_other n xs k false p e = clash (cc)

  unfilled : (a b c masked : Bool) (xs ys zs : List Value) → vs ≢ [] → is_masked (first_number us) ≡ masked
      → cond masked [] us ≡ cond a (number Kind.update ∷ xs) (cond b (number Kind.sound ∷ ys) (cond c (number Kind.clientdata ∷ zs) vs)) → us ≡ vs
  unfilled true b c masked xs ys zs some p e = masked_other Kind.update xs refl masked p e
  unfilled false true c masked xs ys zs some p e = masked_other Kind.sound ys refl masked p e
  unfilled false false true masked xs ys zs some p e = masked_other Kind.clientdata zs refl masked p e
  unfilled false false false true xs ys zs some p e = absurd (some (sym e))
  unfilled false false false false xs ys zs some p e = e

  -- What is filled in without a mask has the values that were sent.
  pub plain-sent : (s : Described) → vs ≢ [] → plain_values us ≡ fill s vs → us ≡ vs
  unfolding fill
  plain-sent s some e =
      let n = first_number vs in
      unfilled (is_update n) (eqb n Kind.sound) (eqb n Kind.clientdata) (is_masked (first_number us))
      (tail (fill_update (baseline_at s (first_number (tail (tail vs)))) n (tail vs))) (tail (fill_sound (tail vs))) (tail (fill_client (tail vs)))
      some refl e

pub fill-some : (s : Described) (vs : List Value) → vs ≢ [] → fill s vs ≢ []
fill-some s vs some e = some (sym (plain-sent [] vs s some (sym e)))

-- ---- back from the values

abbrev pub filled_from : ℕ → List Value → Filled
filled_from end vs =
    let n = first_number vs in
    let ns = numbers (tail vs) in
    cond (is_update n) (F.Update (from entity ns) (from latest (drop 1 ns)))
    (cond (eqb n Kind.sound) (F.Sound (from heard ns)) (cond (eqb n Kind.clientdata) (F.Clientdata (from client ns)) (F.Plain (message_from end vs))))

-- None of three.
none_of : {A : Type 0} (a b c : Bool) (w x y z : A) → (a || b || c) ≡ false → cond a w (cond b x (cond c y z)) ≡ z
none_of true b c w x y z h = clash (cc)
none_of false true c w x y z h = clash (cc)
none_of false false true w x y z h = clash (cc)
none_of false false false w x y z h = refl

module _ (end : ℕ) (vs : List Value) (some : plain_values vs ≢ []) where
  unmasked : is_masked (first_number vs) ≡ false
  unmasked = go (is_masked (first_number vs)) some
    where
      go : (b : Bool) → cond b [] vs ≢ [] → b ≡ false
      go true h = absurd (h refl)
      go false h = refl

  plain_from : filled_from end (plain_values vs) ≡ F.Plain (message_from end vs)
  plain_from =
      let n = first_number vs in
      ap (λ (b : Bool). filled_from end (cond b [] vs)) unmasked
      ∙ none_of (is_update n) (eqb n Kind.sound) (eqb n Kind.clientdata) _ _ _ _ unmasked

-- The fields of its own variant.
abbrev Fit : Filled → Type 0
Fit f = Fields (variants FilledType.the_type) (spellss (FilledType.the_type).parts FilledLaws.the_laws) ((FilledType.the_type).to f)

module _ (x : Context) (s : List ℕ) (end : ℕ) (within : end ≤ length s) where
  -- What holds of a message that was filled in: without a mask it is one that was read.
  abbrev pub ReadPlain : Filled → Type 0
  ReadPlain (F.Plain m) = Read x s end within m
  ReadPlain (F.Sound d) = Unit {0}
  ReadPlain (F.Clientdata c) = Unit {0}
  ReadPlain (F.Update e r) = Unit {0}

  back : (f : Filled) → Fit f → ReadPlain f → filled_by (values_to s end) f ≢ [] → filled_from end (filled_by (values_to s end) f) ≡ f
  back (F.Plain m) h p some =
      plain_from end (values_to s end m) some ∙ ap (λ (vs : List Value). F.Plain (message_from end vs)) (placed_values s end m p.at)
      ∙ ap F.Plain (message_back x s end within m p)
  back (F.Sound d) h p some = ap F.Sound (from_front heard d _ h.0 [])
  back (F.Clientdata c) h p some = ap F.Clientdata (from_front client c _ h.0 [])
  back (F.Update e r) h p some = ap (F.Update e) (from_front latest r _ h.1.0 [])

  pub filled_back : (f : Filled) → Held FilledType.the_row f → ReadPlain f → filled_by (values_to s end) f ≢ []
      → filled_from end (filled_by (values_to s end) f) ≡ f
  filled_back f h = back f (owed FilledType.the_type FilledLaws.the_laws f h.0 h.1)

  pub filled_fixed : (f g : Filled) → Held FilledType.the_row f → Held FilledType.the_row g → ReadPlain f → ReadPlain g
      → filled_by (values_to s end) f ≢ [] → filled_by (values_to s end) f ≡ filled_by (values_to s end) g → f ≡ g
  filled_fixed f g h k p q some e =
      sym (filled_back f h p some) ∙ ap (filled_from end) e ∙ filled_back g k q (λ z. some (e ∙ z))
