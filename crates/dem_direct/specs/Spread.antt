-- Fields that a mask brings, each with its default at once: their values, and the place behind them.
use Rattle.std.specs.Prelude.{List, [], ◌∷◌, ◌++◌, Bool, cond, ◌||◌, ℕ, ◌+◌, eqb, take, drop}
use Rattle.dem.specs.Kind
use Rattle.format.specs.Bytes.{Result, map_result, le_read, bit, bit_of}
use Rattle.format.specs.Layout.{Value, number, numbers, tail}
use Rattle.format.specs.Masked.{Slot, Mask, sent_always, is_sent}
use Rattle.dem.specs.Scene.{Baseline, Context}
use Rattle.dem.specs.Message.{record_bit, update_slots, client_slots, ground_bit, water_bit, fill_client}
use Rattle.dem_parts.specs.Kinds.{kind_in}
use Rattle.dem_types.specs.declared.Look.{Look}
use Rattle.dem_types.specs.declared.Pose.{Pose}
use Rattle.dem_types.specs.Values.{look_values, pose_values}
use Rattle.dem_direct.specs.declared.LookOr.{LookOr}

-- The number of w bytes at a place, where it is sent, or else another.
unfoldable pub field_or : List ℕ → ℕ → Bool → ℕ → ℕ → ℕ
field_or d at sent w other = cond sent (le_read (take w (drop at d))) other

-- The place behind it.
unfoldable pub behind : ℕ → Bool → ℕ → ℕ
behind at sent w = at + cond sent w 0

-- Whether this field, or one before it, is sent needlessly: it is its default.
unfoldable pub needless_or : Bool → List ℕ → ℕ → Bool → ℕ → ℕ → Bool
needless_or before d at sent w other = cond sent (before || eqb (le_read (take w (drop at d))) other) before

-- The values of slots one behind the other, the place behind them, and whether one of them, or one before, is sent needlessly.
abbrev pub spread : List ℕ → List Slot → Mask → ℕ → List Value
spread d [] mask at = []
spread d (s ∷ ss) mask at =
    number (field_or d at (is_sent s mask) s.width s.default) ∷ spread d ss mask (behind at (is_sent s mask) s.width)

abbrev pub passed : List Slot → Mask → ℕ → ℕ
passed [] mask at = at
passed (s ∷ ss) mask at = passed ss mask (behind at (is_sent s mask) s.width)

abbrev pub needless_in : List ℕ → List Slot → Mask → ℕ → Bool → Bool
needless_in d [] mask at before = before
needless_in d (s ∷ ss) mask at before =
    needless_in d ss mask (behind at (is_sent s mask) s.width)
    (cond s.always before (needless_or before d at (is_sent s mask) s.width s.default))

-- The slots of an update that a look with effects and a pose are, with their defaults.
abbrev pub look_slots : Look → List Slot
look_slots l = take 5 (update_slots (numbers (look_values l)))

abbrev pub pose_slots : Pose → List Slot
pose_slots p = drop 5 (update_slots (0 ∷ 0 ∷ 0 ∷ 0 ∷ numbers (pose_values p)))

abbrev pub look_of : LookOr → List Value
look_of r = number r.model ∷ number r.frame ∷ number r.colormap ∷ number r.skin ∷ number r.effects ∷ []

-- The values of a record: bit 5, then the fields.
abbrev pub filled_at : List ℕ → Baseline → ℕ → ℕ → List Value
filled_at d b mask at = number (bit_of (bit mask record_bit)) ∷ spread d (update_slots b) (bit mask) at

-- ---- clientdata

-- Behind the fields of the mask: health, ammo, four counts, weapon, sent always.
abbrev pub supplies_slots : List Slot
supplies_slots =
    sent_always 0 2 ∷ sent_always 0 1 ∷ sent_always 0 1 ∷ sent_always 0 1 ∷ sent_always 0 1 ∷ sent_always 0 1 ∷ sent_always 0 1 ∷ []

abbrev pub client_fields : List Slot
client_fields = client_slots ++ supplies_slots

-- The values of clientdata: ground, water, then the fields.
abbrev pub client_in : List ℕ → ℕ → ℕ → List Value
client_in d mask at = number (bit_of (bit mask ground_bit)) ∷ number (bit_of (bit mask water_bit)) ∷ spread d client_fields (bit mask) at

-- What is read as sent is handed on filled in.
abbrev pub client_at : List ℕ → ℕ → Context → Result (List Value)
client_at s at x = map_result (λ vs. fill_client (tail vs)) (kind_in x Kind.clientdata (drop at s))
