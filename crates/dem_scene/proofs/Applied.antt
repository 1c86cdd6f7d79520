-- The rest of the scene after a message: what a call promises, and the messages that leave the rest as it was.
-- Assumes nothing.
use mathlib.Core.Path.{◌≡◌, sym, ap, ◌∙◌}
use mathlib.Core.List.{List, [], ◌∷◌}
use mathlib.Core.Bool.{false, not}
use mathlib.Core.Logic.{◌⊎◌, inl, inr}
use Prim.Native.Nat.{ℕ}
use lib.Dec.{T, eqb}
use types.Run.{OneOf}
use mir.Val.{has_key}
use Rattle.format.specs.Layout.{Value, number, tail}
use Rattle.dem.specs.Scene.{Scene}
use Rattle.dem.specs.Message.{is_update, apply, fill}
use Rattle.dem.proofs.MessageLaws.{fill-update, fill-number}
use Rattle.wire.specs.declared.Text.{Text}
use Rattle.dem_types.proofs.ByNumber.{place_of, number_at, ByNumber, told, not_among}
use Rattle.dem_types.specs.declared.Update.{Update}
use Rattle.dem_types.specs.declared.Message.{Message}
use Rattle.dem_types.specs.declared.Message.TheVariants as M
use Rattle.dem_types.specs.Values.{values_by, update_values}
use Rattle.dem_scene.specs.Views.{Numbered, Tables, no_tables, scene_with, with_tables}
use Rattle.dem_scene.specs.declared.Rest.{Rest}

module _ (x : Rest) (t : Tables) (chars : Text → List ℕ) where
  -- The rest of the scene after a message, by the definitions.
  abbrev pub after : Message → Scene
  after m = with_tables no_tables (apply (scene_with t x) (fill (scene_with t x) (values_by chars m)))

  -- A message that a pattern matched.
  pub after_match : (m k : Message) → m ≡ k → after k ≡ after m
  after_match m k q = ap after (sym q)

  -- What a call does to the whole scene, it does to the rest.
  pub after_call : (r : Rest) (m k : Message) (vs : List Value) → m ≡ k → scene_with t r ≡ apply (scene_with t x) vs
      → vs ≡ fill (scene_with t x) (values_by chars k) → scene_with no_tables r ≡ after m
  unfolding scene_with
  after_call r m k vs q h f = ap (with_tables no_tables) (h ∙ ap (apply (scene_with t x)) f) ∙ after_match m k q

-- ---- messages that change no part of the rest, by their place in the list of messages

abbrev pub quiet : List ℕ
quiet = 0 ∷ 3 ∷ 5 ∷ 7 ∷ 8 ∷ 9 ∷ 11 ∷ 12 ∷ 15 ∷ 17 ∷ 18 ∷ 20 ∷ 21 ∷ 23 ∷ 24 ∷ 27 ∷ 28 ∷ 29 ∷ 30 ∷ 31 ∷ 32 ∷ 33 ∷ []

pub quiet-after : (x : Rest) (m : Message) → OneOf quiet (place_of m) → (t : Tables) (chars : Text → List ℕ) → Numbered m
    → scene_with no_tables x ≡ after x t chars m
unfolding scene_with apply
quiet-after x m h t chars numbered = go (told chars m)
  where
    s : Scene
    s = scene_with t x

    by : (n : ℕ) (us : List Value) → is_update n ≡ false → ((k : ℕ) → T (not (has_key quiet k)) → eqb n (number_at k) ≡ false)
        → scene_with no_tables x ≡ with_tables no_tables (apply s (fill s (number n ∷ us)))
    by n us low w =
        let keeps = (fill-number s n us low).1 in
        rw (keeps, w 1 tt, w 2 tt, w 4 tt, w 6 tt, w 10 tt, w 13 tt, w 14 tt, w 16 tt, w 19 tt, w 22 tt, w 25 tt, w 26 tt)

    go : ((u : Update) × (m ≡ M.Update u)) ⊎ ByNumber chars m → scene_with no_tables x ≡ after x t chars m
    go (inl (u, q)) =
        ap (λ (v : List Value). with_tables no_tables (apply s v)) (sym (fill-update s u.number (tail (update_values u)) (numbered u q)))
        ∙ after_match x t chars m (M.Update u) q
    go (inr k) =
        by k.n k.us k.low (λ j r. k.other j (not_among quiet m h j r))
        ∙ ap (λ (vs : List Value). with_tables no_tables (apply s (fill s vs))) (sym k.is)
