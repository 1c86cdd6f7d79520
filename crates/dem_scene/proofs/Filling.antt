-- A field that code picks, as a value: unsigned, or signed of any width. And a message that is filled in.
-- Assumes nothing.
use mathlib.Core.Path.{◌≡◌, refl, ap, sym, ◌∙◌}
use mathlib.Core.List.{List}
use mathlib.Core.Bool.{Bool, true, false, cond}
use Prim.Native.Nat.{ℕ, ◌^◌, ◌<◌}
use lib.IntN.{ℤ}
use lib.Signed.{mag}
use mir.Syntax.{Width}
use mir.Val.{of_z, to_z, hbits}
use Rattle.format.specs.Layout.{number, tail}
use Rattle.dem.specs.Scene.{Scene, baseline_at}
use Rattle.dem.specs.Message.{fill, fill_update, is_update}
use Rattle.dem.proofs.MessageLaws.{fill-update}
use Rattle.wire.specs.declared.Text.{Text}
use Rattle.wire.proofs.SignedLaws.{same_bits}
use Rattle.dem_types.specs.declared.Message.{Message}
use Rattle.dem_types.specs.declared.Update.{Update}
use Rattle.dem_types.specs.Values.{values_by, update_values}

pub picked : (b : Bool) (r x y : ℕ) → r ≡ cond b x y → number r ≡ cond b (number x) (number y)
picked b r x y e = ap number e ∙ through b
  where
    through : (s : Bool) → number (cond s x y) ≡ cond s (number x) (number y)
    through true = refl
    through false = refl

-- A signed field that code picks, by its bits.
module _ (w : Width) (b : Bool) (r x y : ℤ) (fr : mag r < 2 ^ hbits w) (fx : mag x < 2 ^ hbits w) (fy : mag y < 2 ^ hbits w) where
  through : (s : Bool) → of_z w (cond s (to_z w (of_z w x)) (to_z w (of_z w y))) ≡ cond s (of_z w x) (of_z w y)
  through true = same_bits w x _ (record { sfits = fx }) refl
  through false = same_bits w y _ (record { sfits = fy }) refl

  pub signed_picked : r ≡ cond b (to_z w (of_z w x)) (to_z w (of_z w y))
      → number (of_z w (to_z w (of_z w r))) ≡ cond b (number (of_z w x)) (number (of_z w y))
  signed_picked e = picked b _ _ _ (same_bits w r _ (record { sfits = fr }) (ap (of_z w) e ∙ through b))

-- ---- any message

module _ (s : Scene) (t : Text → List ℕ) where
  -- A message that a pattern matched.
  pub fill_match : (m k : Message) → m ≡ k → fill s (values_by t k) ≡ fill s (values_by t m)
  fill_match m k q = ap (λ (n : Message). fill s (values_by t n)) (sym q)

  -- An update, from the baseline that the scene has for its entity.
  pub fill_from : (u : Update) (b : List ℕ) → is_update u.number ≡ true → baseline_at s u.entity.0 ≡ b
      → fill_update b u.number (tail (update_values u)) ≡ fill s (update_values u)
  fill_from u b n e =
      ap (λ (c : List ℕ). fill_update c u.number (tail (update_values u))) (sym e)
      ∙ sym (fill-update s u.number (tail (update_values u)) n)
