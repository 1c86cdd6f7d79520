-- A message that has values up to a place has its strings in place, and the values that it has anywhere.
-- Assumes nothing.
use mathlib.Core.Path.{◌≡◌, refl, ap}
use mathlib.Core.Logic.{◌≢◌}
use mathlib.Core.List.{List, []}
use mathlib.Core.Bool.{Bool, true, false, cond}
use Prim.Native.Nat.{ℕ}
use Rattle.dem_types.specs.declared.Message.{Message}
use Rattle.dem_types.specs.Values.{values_of}
use Rattle.dem_types.specs.Places.{in_place, values_to}

module _ (s : List ℕ) (end : ℕ) (m : Message) where
  pub in_place_lem : values_to s end m ≢ [] → in_place end m ≡ true
  in_place_lem = go (in_place end m)
    where
      go : (b : Bool) → cond b (values_of s m) [] ≢ [] → b ≡ true
      go true n = refl
      go false n = absurd (n refl)

  pub placed_values : in_place end m ≡ true → values_to s end m ≡ values_of s m
  placed_values e = ap (λ (b : Bool). cond b (values_of s m) []) e

  pub some_values : values_to s end m ≢ [] → values_to s end m ≡ values_of s m
  some_values n = placed_values (in_place_lem n)
