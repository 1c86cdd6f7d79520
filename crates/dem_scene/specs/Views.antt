-- The scene that code holds, as the definitions' one: signed numbers by their bits, entities and clientdata in wire order.
use Rattle.std.specs.Prelude.{◌≡◌, List, [], ◌∷◌, ◌++◌, map, Bool, true, false, cond, ◌||◌, ℕ, eqb, replicate}
use Rattle.std.proofs.Common.{of_z}
use Rattle.std.specs.Int.{w16, w32}
use Rattle.format.specs.Bytes.{bit_of}
use Rattle.dem.specs.Kind
use Rattle.dem.specs.Limits.{entity_count}
use Rattle.format.specs.Layout.{Value, number, numbers, first_number}
use Rattle.dem.specs.Scene.{PlayerLine as Line, Scene as Described, baseline_at}
use Rattle.dem.specs.Message.{is_update}
use Rattle.dem_types.specs.declared.Message.{Message}
use Rattle.dem_types.specs.declared.Message.TheVariants as M
use Rattle.dem_types.specs.declared.Update.{Update}
use Rattle.dem_types.specs.Values.{look_values, pose_values, motion_values, arms_values, supplies_values, vector_values, time_of, long}
use Rattle.dem_scene.specs.declared.Baseline.{Baseline}
use Rattle.dem_scene.specs.declared.Record.{Record}
use Rattle.dem_scene.specs.declared.Client.{Client}
use Rattle.dem_scene.specs.declared.Filled.{Filled}
use Rattle.dem_scene.specs.declared.Filled.TheVariants as F
use Rattle.dem_scene.specs.declared.FilledSound.{FilledSound}
use Rattle.dem_scene.specs.declared.PlayerLine.{PlayerLine}
use Rattle.dem_scene.specs.declared.Rest.{Rest}
use Rattle.dem_scene.specs.declared.Scene.{Scene}

abbrev pub baseline_values : Baseline → List Value
baseline_values b = look_values b.look ++ pose_values b.pose

abbrev pub record_values : Record → List Value
record_values r = number (bit_of r.bit5) ∷ (look_values r.look ++ (number r.effects ∷ pose_values r.pose))

abbrev pub client_values : Client → List Value
client_values c =
    number (bit_of c.ground) ∷ number (bit_of c.water)
    ∷ (motion_values c.motion ++ (long c.items ∷ (arms_values c.arms ++ supplies_values c.supplies)))

abbrev pub filled_sound_values : FilledSound → List Value
filled_sound_values s =
    number s.volume ∷ number s.attenuation ∷ number s.channel ∷ number s.entity.0 ∷ number s.sound
    ∷ vector_values s.origin

-- The kinds that are sent with a mask.
abbrev pub is_masked : ℕ → Bool
is_masked n = is_update n || eqb n Kind.sound || eqb n Kind.clientdata

-- A message without a mask is its own filled-in form. One with a mask is none as it is, and has no values.
abbrev pub plain_values : List Value → List Value
plain_values vs = cond (is_masked (first_number vs)) [] vs

-- A message filled in, where messages as sent have the values that v says.
abbrev pub filled_by : (Message → List Value) → Filled → List Value
filled_by v (F.Plain m) = plain_values (v m)
filled_by v (F.Sound s) = number Kind.sound ∷ filled_sound_values s
filled_by v (F.Clientdata c) = number Kind.clientdata ∷ client_values c
filled_by v (F.Update e r) = number Kind.update ∷ number e.0 ∷ record_values r

abbrev pub baseline_numbers : Baseline → List ℕ
baseline_numbers b = numbers (baseline_values b)

abbrev pub record_numbers : Record → List ℕ
record_numbers r = numbers (record_values r)

abbrev pub line_of : PlayerLine → Line
line_of p = record { frags = of_z w16 p.frags; colours = p.colours }

-- The tables of entities as the definitions see them, with the number of marks.
pub record Tables : Type 0 where
  pub baselines : List (List ℕ)
  pub records : List (List ℕ)
  pub present : List Bool
  pub present_count : ℕ

abbrev pub no_tables : Tables
no_tables = record { baselines = []; records = []; present = []; present_count = 0 }

-- With no mark set.
abbrev pub unmarked : Tables → Tables
unmarked t = record { baselines = t.baselines; records = t.records; present = replicate entity_count false; present_count = 0 }

abbrev pub tables_of : Scene → Tables
tables_of s =
    record {
      baselines = map baseline_numbers s.baselines;
      records = map record_numbers s.records;
      present = s.present;
      present_count = s.present_count;
    }

-- The scene of these tables and this rest.
unfoldable pub scene_with : Tables → Rest → Described
scene_with t x =
    record {
      baselines = t.baselines;
      records = t.records;
      present = t.present;
      present_count = t.present_count;
      stats = map (of_z w32) x.stats;
      client = numbers (client_values x.client);
      view = x.view.0;
      pause = x.pause;
      statics = x.statics;
      limit = x.limit;
      time = time_of x.time;
      ended = x.ended;
      players = map line_of x.players;
    }

abbrev pub scene_of : Scene → Described
scene_of s = scene_with (tables_of s) s.rest

-- A scene with other tables.
abbrev pub with_tables : Tables → Described → Described
with_tables t s =
    record {
      baselines = t.baselines;
      records = t.records;
      present = t.present;
      present_count = t.present_count;
      stats = s.stats;
      client = s.client;
      view = s.view;
      pause = s.pause;
      statics = s.statics;
      limit = s.limit;
      time = s.time;
      ended = s.ended;
      players = s.players;
    }

abbrev pub with_stats : List ℕ → Described → Described
with_stats stats s =
    record {
      baselines = s.baselines;
      records = s.records;
      present = s.present;
      present_count = s.present_count;
      stats = stats;
      client = s.client;
      view = s.view;
      pause = s.pause;
      statics = s.statics;
      limit = s.limit;
      time = s.time;
      ended = s.ended;
      players = s.players;
    }

-- What holds of each message that was read: if it is an update, its number says so.
abbrev pub Numbered : Message → Type 0
Numbered m = (u : Update) → m ≡ M.Update u → is_update u.number ≡ true

-- This is the baseline that the scene has for the message's entity, if it is an update.
abbrev pub BaselineOf : Described → Message → Baseline → Type 0
BaselineOf s m b = (u : Update) → m ≡ M.Update u → baseline_at s u.entity.0 ≡ baseline_numbers b
