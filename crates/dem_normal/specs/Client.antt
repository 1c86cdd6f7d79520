-- Clientdata by parts: motion, items and arms, which a mask brings, then supplies.
use Rattle.std.specs.Prelude.{List, ◌∷◌, ◌++◌, ℕ}
use Rattle.std.specs.Int.{cast_unsigned, w16}
use Rattle.format.specs.Bytes.{le_write}
use Rattle.format.specs.Layout.{Value}
use Rattle.dem_types.specs.declared.Supplies.{Supplies}
use Rattle.dem_types.specs.Values.{motion_values, arms_values, supplies_values, long}
use Rattle.dem_scene.specs.declared.Client.{Client}

abbrev pub client_fields : Client → List Value
client_fields u = motion_values u.motion ++ (long u.items ∷ (arms_values u.arms ++ supplies_values u.supplies))

-- Health, ammo, four counts, weapon.
abbrev pub supplies_bytes : Supplies → List ℕ
supplies_bytes s =
    le_write 2 (cast_unsigned w16 s.health) ++ (le_write 1 s.ammo ++ (le_write 1 s.count0 ++ (le_write 1 s.count1
    ++ (le_write 1 s.count2 ++ (le_write 1 s.count3 ++ le_write 1 s.weapon)))))
