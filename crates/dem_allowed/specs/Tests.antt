-- Whether a message as sent is what some bytes read to, kind by kind, as short tests of its fields.
use Rattle.std.specs.Prelude.{List, [], ◌∷◌, Bool, true, false, not, ◌&&◌, ◌||◌, ℕ, ◌+◌, ◌*◌, take, drop, leb, ltb, eqb}
use Rattle.std.proofs.Common.{of_z}
use Rattle.std.specs.Int.{w32}
use Rattle.dem.specs.Kind
use Rattle.format.specs.Limits.{string_limit}
use Rattle.dem.specs.Limits.{entity_count, player_count, stat_count, style_count, static_limit, name_limit, temporary_type_count, protocol}
use Rattle.format.specs.Bytes.{bit}
use Rattle.format.specs.Layout.{Value, number, done, string_bytes, allows}
use Rattle.format.specs.Masked.{Slot, Mask, is_sent, is_number, any_set}
use Rattle.format.specs.Floats.{is_time, not_before}
use Rattle.dem.specs.Scene.{zero_baseline}
use Rattle.dem.specs.Message.{sound_slots, client_slots, update_slots, high_bit, wide_bit, names, is_line, explosion2_type}
use Rattle.wire.specs.declared.Text.{Text}
use Rattle.strings.specs.Names.{names_in}
use Rattle.dem_types.specs.Values.{motion_values, arms_values, look_values, pose_values}
use Rattle.dem_types.specs.declared.Entity.{Entity}
use Rattle.dem_types.specs.declared.Sound.{Sound}
use Rattle.dem_types.specs.declared.Temporary.{Temporary}
use Rattle.dem_types.specs.declared.Temporary.TheVariants.{Point, Line, Explosion2}
use Rattle.dem_types.specs.declared.Serverinfo.{Serverinfo}
use Rattle.dem_types.specs.declared.Motion.{Motion}
use Rattle.dem_types.specs.declared.Arms.{Arms}
use Rattle.dem_types.specs.declared.Clientdata.{Clientdata}
use Rattle.dem_types.specs.declared.Look.{Look}
use Rattle.dem_types.specs.declared.Pose.{Pose}
use Rattle.dem_types.specs.declared.Update.{Update}
use Rattle.dem_types.specs.declared.Message.{Message}
use Rattle.dem_types.specs.declared.Message.TheVariants as M
use Rattle.dem_parts.specs.Kinds.{context_of}
use Rattle.dem_parts.specs.declared.Context.{Context}
use Rattle.wire.specs.Reads.{placed}

-- ---- fields behind a mask: each that it does not bring is 0

abbrev pub slot_test : Bool → List Slot → Mask → List Value → Bool
slot_test so [] mask vs = so
slot_test so (s ∷ ss) mask [] = false
slot_test so (s ∷ ss) mask (v ∷ vs) = slot_test (so && (is_sent s mask || is_number v 0)) ss mask vs

-- n of these slots, from the one at place a on.
abbrev pub part_test : List Slot → ℕ → ℕ → Mask → List Value → Bool
part_test ss a n mask vs = slot_test true (take n (drop a ss)) mask vs

unfoldable pub motion_test : Mask → Motion → Bool
motion_test mask m = part_test client_slots 0 8 mask (motion_values m)

unfoldable pub arms_test : Mask → Arms → Bool
arms_test mask a = part_test client_slots 9 3 mask (arms_values a)

unfoldable pub look_test : Mask → Look → Bool
look_test mask l = part_test (update_slots zero_baseline) 0 4 mask (look_values l)

unfoldable pub pose_test : Mask → Pose → Bool
pose_test mask p = part_test (update_slots zero_baseline) 5 6 mask (pose_values p)

-- ---- kinds

abbrev pub text_test : List ℕ → Text → Bool
text_test t p = string_bytes string_limit (placed t p)

unfoldable pub lists_test : List ℕ → Text → Bool
lists_test t p = allows (names name_limit (names name_limit done)) (names_in [] (placed t p))

-- A channel has three bits.
abbrev pub source_test : ℕ → Entity → Bool
source_test channel e = ltb channel 8 && ltb e.0 entity_count

unfoldable pub sound_test : Sound → Bool
sound_test s =
    ltb s.mask 4 && part_test sound_slots 0 2 (bit s.mask) (number s.volume ∷ number s.attenuation ∷ [])
    && source_test s.channel s.entity

unfoldable pub time_test : Context → ℕ → Bool
time_test x v = is_time v && not_before (context_of x).time v

unfoldable pub serverinfo_test : List ℕ → Serverinfo → Bool
serverinfo_test t s =
    eqb (of_z w32 s.protocol) protocol && (leb 1 s.limit && leb s.limit player_count) && text_test t s.map
    && lists_test t s.names

unfoldable pub client_test : Clientdata → Bool
client_test c = not (any_set (8 ∷ 15 ∷ []) (bit c.mask)) && motion_test (bit c.mask) c.motion && arms_test (bit c.mask) c.arms

unfoldable pub temporary_test : Temporary → Bool
temporary_test (Point k v) = ltb k temporary_type_count && not (is_line k || eqb k explosion2_type)
temporary_test (Line k e v w) = is_line k && ltb e.0 entity_count
temporary_test (Explosion2 v first count) = true

-- The high mask byte is sent or 0, and bit 15 is clear; an entity of one byte is below 256.
unfoldable pub sent_test : Mask → Update → Bool
sent_test mask u =
    (mask high_bit || eqb u.high 0) && not (mask 15) && (mask wide_bit || ltb u.entity.0 256) && ltb u.entity.0 entity_count
    && look_test mask u.look && part_test (update_slots zero_baseline) 4 1 mask (number u.effects ∷ []) && pose_test mask u.pose

unfoldable pub update_test : Update → Bool
update_test u = leb Kind.update u.number && sent_test (bit (u.high * 256 + u.number)) u

-- ---- every message

unfoldable pub message_test : List ℕ → Context → Message → Bool
message_test t x M.Nop = true
message_test t x M.Disconnect = true
message_test t x (M.Stat i v) = ltb i stat_count
message_test t x (M.Version v) = eqb (of_z w32 v) protocol
message_test t x (M.View e) = ltb e.0 entity_count
message_test t x (M.Sound s) = sound_test s
message_test t x (M.Time v) = time_test x v
message_test t x (M.Print p) = text_test t p
message_test t x (M.Stufftext p) = text_test t p
message_test t x (M.SetAngles a b c) = true
message_test t x (M.Serverinfo s) = serverinfo_test t s
message_test t x (M.Style i p) = ltb i style_count && text_test t p
message_test t x (M.Name p n) = ltb p.0 x.limit && text_test t n
message_test t x (M.Frags p v) = ltb p.0 x.limit
message_test t x (M.Clientdata c) = client_test c
message_test t x (M.Stopsound c e) = source_test c e
message_test t x (M.Colours p v) = ltb p.0 x.limit
message_test t x (M.Particle p) = true
message_test t x (M.Damage a b v) = true
message_test t x (M.Static l p) = ltb x.statics static_limit
message_test t x (M.Baseline e l p) = ltb e.0 entity_count
message_test t x (M.Temporary k) = temporary_test k
message_test t x (M.Pause v) = true
message_test t x (M.Signon v) = true
message_test t x (M.Centerprint p) = text_test t p
message_test t x M.Killed = true
message_test t x M.Secret = true
message_test t x (M.StaticSound v a b c) = true
message_test t x M.Intermission = true
message_test t x (M.Finale p) = text_test t p
message_test t x (M.Track a b) = true
message_test t x M.Sellscreen = true
message_test t x (M.Cutscene p) = text_test t p
message_test t x (M.Update u) = update_test u
