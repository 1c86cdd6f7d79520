-- A message by its place in the list of messages. One that is no update has the number of its place, so a law of numbers is a law of messages;
-- and a message that is no value of a variant is at another place.
-- Assumes nothing.
use mathlib.Core.Path.{◌≡◌, refl, sym, ap, ◌∙◌, subst}
use mathlib.Core.Logic.{◌≢◌, ◌⊎◌, inl, inr}
use mathlib.Core.List.{List, [], ◌∷◌}
use mathlib.Core.Bool.{Bool, true, false, not}
use Prim.Native.Nat.{ℕ, zero, suc, ◌+◌, ◌/◌}
use native.Mathlib.Omega.{arith}
use borrow.Author.Tests.{ne_eqb, eqb-true, eqb-false}
use lib.Dec.{T, eqb}
use types.Run.{OneOf, miss}
use mir.Val.{has_key}
use denote.Struct.Field.{Field}
use denote.Struct.Values.{Values}
use denote.Enum.Enum.{tag}
use denote.Enum.Declared.{rowss, Choice, intoss, tag_of}
use Rattle.format.specs.Layout.{Value, number, tail}
use Rattle.dem.specs.Message.{is_update}
use Rattle.wire.specs.declared.Text.{Text}
use Rattle.dem_types.specs.declared.Update.{Update}
use Rattle.dem_types.specs.declared.Message.{Message}
use Rattle.dem_types.specs.declared.Message.TheVariants as M
use Rattle.dem_types.specs.Values.{values_by}
use Rattle.dem_types.specs.contracts.Message as Messages

abbrev pub place_of : Message → ℕ
place_of m = tag_of Messages.the_type m

-- An update's place, the last.
abbrev pub update_place : ℕ
update_place = 33

-- The number of the messages at a place. None has the number 21; an update has one of its own.
abbrev pub number_at : ℕ → ℕ
number_at k = k + 1 + k / 20

-- A message that is no update, by its number, which is none of another place.
pub record ByNumber (t : Text → List ℕ) (m : Message) : Type 0 where
  pub n : ℕ
  pub us : List Value
  pub is : values_by t m ≡ number n ∷ us
  pub low : is_update n ≡ false
  pub other : (k : ℕ) → place_of m ≢ k → eqb n (number_at k) ≡ false

kept : (t : Text → List ℕ) (m : Message) → values_by t m ≡ number (number_at (place_of m)) ∷ tail (values_by t m)
    → is_update (number_at (place_of m)) ≡ false → ByNumber t m
kept t m e l =
    record {
      n = number_at (place_of m);
      us = tail (values_by t m);
      is = e;
      low = l;
      other = λ k q. ne_eqb (number_at (place_of m)) (number_at k) (λ s. q (omega (arith, s)));
    }

pub told : (t : Text → List ℕ) (m : Message) → ((u : Update) × (m ≡ M.Update u)) ⊎ ByNumber t m
told t M.Nop = inr (kept t _ refl refl)
told t M.Disconnect = inr (kept t _ refl refl)
told t (M.Stat _ _) = inr (kept t _ refl refl)
told t (M.Version _) = inr (kept t _ refl refl)
told t (M.View _) = inr (kept t _ refl refl)
told t (M.Sound _) = inr (kept t _ refl refl)
told t (M.Time _) = inr (kept t _ refl refl)
told t (M.Print _) = inr (kept t _ refl refl)
told t (M.Stufftext _) = inr (kept t _ refl refl)
told t (M.SetAngles _ _ _) = inr (kept t _ refl refl)
told t (M.Serverinfo _) = inr (kept t _ refl refl)
told t (M.Style _ _) = inr (kept t _ refl refl)
told t (M.Name _ _) = inr (kept t _ refl refl)
told t (M.Frags _ _) = inr (kept t _ refl refl)
told t (M.Clientdata _) = inr (kept t _ refl refl)
told t (M.Stopsound _ _) = inr (kept t _ refl refl)
told t (M.Colours _ _) = inr (kept t _ refl refl)
told t (M.Particle _) = inr (kept t _ refl refl)
told t (M.Damage _ _ _) = inr (kept t _ refl refl)
told t (M.Static _ _) = inr (kept t _ refl refl)
told t (M.Baseline _ _ _) = inr (kept t _ refl refl)
told t (M.Temporary _) = inr (kept t _ refl refl)
told t (M.Pause _) = inr (kept t _ refl refl)
told t (M.Signon _) = inr (kept t _ refl refl)
told t (M.Centerprint _) = inr (kept t _ refl refl)
told t M.Killed = inr (kept t _ refl refl)
told t M.Secret = inr (kept t _ refl refl)
told t (M.StaticSound _ _ _ _) = inr (kept t _ refl refl)
told t M.Intermission = inr (kept t _ refl refl)
told t (M.Finale _) = inr (kept t _ refl refl)
told t (M.Track _ _) = inr (kept t _ refl refl)
told t M.Sellscreen = inr (kept t _ refl refl)
told t (M.Cutscene _) = inr (kept t _ refl refl)
told t (M.Update u) = inl (u, refl)

pub by_number : (t : Text → List ℕ) (m : Message) → place_of m ≢ update_place → ByNumber t m
by_number t m h = elim (told t m) [ inl u ↦ absurd (h (ap place_of u.1)) | inr k ↦ k ]

-- ---- where a message is not

-- One that a match took among these places is at no other.
pub not_among : (ks : List ℕ) (m : Message) → OneOf ks (place_of m) → (k : ℕ) → T (not (has_key ks k)) → place_of m ≢ k
not_among ks m h k q e = miss ks k q (subst (OneOf ks) e h)

-- The fields of an enum's k-th variant, and a value of it.
abbrev FieldsAt : List (List Field) → ℕ → Type 0
FieldsAt [] k = ⊥
FieldsAt (Fs ∷ Fss) zero = Values Fs
FieldsAt (Fs ∷ Fss) (suc k) = FieldsAt Fss k

abbrev chosen : (Fss : List (List Field)) (k : ℕ) → FieldsAt Fss k → Choice Fss
chosen [] k x = absurd x
chosen (Fs ∷ Fss) zero x = inl x
chosen (Fs ∷ Fss) (suc k) x = inr (chosen Fss k x)

tells : (Fss : List (List Field)) (c : Choice Fss)
    → (x : FieldsAt Fss (tag (rowss Fss) (intoss Fss c))) × (c ≡ chosen Fss (tag (rowss Fss) (intoss Fss c)) x)
tells [] c = absurd c
tells (Fs ∷ Fss) (inl x) = (x, refl)
tells (Fs ∷ Fss) (inr c) = let r = tells Fss c in (r.0, ap inr r.1)

abbrev pub Fields : ℕ → Type 0
Fields k = FieldsAt Messages.the_parts k

abbrev pub message_at : (k : ℕ) → Fields k → Message
message_at k x = Messages.the_make (chosen Messages.the_parts k x)

-- A message is one of the variant at a place, or at another place.
abbrev pub Variant : ℕ → Message → Type 0
Variant k m = ((x : Fields k) × (m ≡ message_at k x)) ⊎ (place_of m ≢ k)

pub variant : (k : ℕ) (m : Message) → Variant k m
variant k m = go (eqb (place_of m) k) refl
  where
    go : (b : Bool) → eqb (place_of m) k ≡ b → Variant k m
    go true e =
        let r = tells Messages.the_parts (Messages.as_values m) in
        inl (subst (λ (j : ℕ). (x : Fields j) × (m ≡ message_at j x)) (eqb-true (place_of m) k e)
        (r.0, sym (Messages.the_eta m) ∙ ap Messages.the_make r.1))
    go false e = inr (eqb-false (place_of m) k e)

pub not_at : (k : ℕ) (m : Message) → ((x : Fields k) → m ≡ message_at k x → ⊥) → place_of m ≢ k
not_at k m h = elim (variant k m) [ inl x ↦ absurd (h x.0 x.1) | inr q ↦ q ]
