-- The bytes of fields in normal form: each field that differs from its default, one behind the other.
use Rattle.std.specs.Prelude.{List, [], ◌∷◌, ◌++◌, cond, ℕ, ◌/◌, leb, take, drop}
use Rattle.format.specs.Bytes.{le_write, is_set}
use Rattle.format.specs.Layout.{Value, number, numbers, first_value, first_number, tail}
use Rattle.format.specs.Masked.{Slot, Mask, differs}
use Rattle.dem.specs.Message.{update_slots, sent_mask}
use Rattle.dem_types.specs.declared.Look.{Look}
use Rattle.dem_types.specs.declared.Pose.{Pose}
use Rattle.dem_types.specs.Values.{look_values, pose_values}
use Rattle.dem_scene.specs.Views.{baseline_numbers}
use Rattle.dem_scene.specs.declared.Baseline.{Baseline}
use Rattle.dem_scene.specs.declared.Record.{Record}

abbrev pub sent_bytes : List Slot → List Value → List ℕ
sent_bytes [] vs = []
sent_bytes (s ∷ ss) vs = cond (differs s (first_value vs)) (le_write s.width (first_number vs)) [] ++ sent_bytes ss (tail vs)

-- ---- an update: a look, effects and a pose

abbrev pub record_fields : Record → List Value
record_fields r = look_values r.look ++ (number r.effects ∷ pose_values r.pose)

-- The slots of a baseline's look, and of its pose.
abbrev pub look_slots : Look → List Slot
look_slots l = take 4 (update_slots (numbers (look_values l)))

abbrev pub pose_slots : Pose → List Slot
pose_slots p = drop 5 (update_slots (0 ∷ 0 ∷ 0 ∷ 0 ∷ numbers (pose_values p)))

-- The mask of an update in normal form.
abbrev pub update_bits : ℕ → Record → Baseline → Mask
update_bits e r b = sent_mask (baseline_numbers b) e r.bit5 (record_fields r)

-- An update's number, its high byte if needed, and the entity, in two bytes if needed.
abbrev pub head_bytes : ℕ → ℕ → ℕ → List ℕ
head_bytes n high e =
    le_write 1 n ++ (cond (is_set high) (le_write 1 high) [] ++ (le_write 1 e ++ cond (leb 256 e) (le_write 1 (e / 256)) []))
