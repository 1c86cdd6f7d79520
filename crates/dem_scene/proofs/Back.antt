-- A scene is read back from what the definitions see of it, and so is a message filled in. So two scenes that code can hold and that the
-- definitions see as the same are the same.
-- Assumes nothing.
use mathlib.Core.Path.{◌≡◌, refl, sym, ap, ◌∙◌}
use mathlib.Core.List.{List, [], ◌∷◌, map}
use mathlib.Core.Option as Math
use Rattle.std.specs.Prelude.{Option, Some, None}
use Prim.Native.Nat.{ℕ}
use mir.Syntax.{w16, w32}
use mir.Val.{Val, of_z, to_z}
use mir.ValLaws.{to_z-of_z}
use denote.Laws.{Is}
use denote.RattleType.{RattleType}
use denote.Shadow.{shadow}
use denote.Array.{Array, each}
use denote.Builtin.{i32}
use Rattle.dem.specs.Limits.{entity_count, player_count, stat_count}
use Rattle.format.specs.Layout.{numbers}
use Rattle.dem.specs.Scene.{PlayerLine as Line, Scene as Described}
use Rattle.wire.proofs.FieldLaws.{Held, Fixed, fixed_by, AsNumbers, truth, struct, from, from_front, Each, list_undone}
use Rattle.dem_types.specs.Values.{time_of}
use Rattle.dem_types.proofs.Structs.{byte, long, entity, vector, look, pose, motion, arms, supplies}
use Rattle.dem_scene.specs.declared.PlayerLine.{PlayerLine}
use Rattle.dem_scene.specs.declared.Rest.{Rest}
use Rattle.dem_scene.specs.declared.Scene.{Scene}
use Rattle.dem_scene.specs.Views.{baseline_numbers, record_numbers, client_values, filled_sound_values, line_of, Tables, tables_of, scene_of, scene_with}
use Rattle.dem_scene.specs.contracts.Baseline as BaselineType
use Rattle.dem_scene.specs.contracts.Record as RecordType
use Rattle.dem_scene.specs.contracts.Client as ClientType
use Rattle.dem_scene.specs.contracts.FilledSound as FilledSoundType
use Rattle.dem_scene.specs.contracts.PlayerLine as PlayerLineType
use Rattle.dem_scene.specs.contracts.Rest as RestType
use Rattle.dem_scene.specs.contracts.Scene as SceneType

abbrev pub baseline : AsNumbers BaselineType.the_field
baseline = struct BaselineType.struct (λ v. tt) BaselineType.the_propositions (look, (pose, tt))

abbrev pub latest : AsNumbers RecordType.the_field
latest = struct RecordType.struct (λ v. tt) RecordType.the_propositions (truth, (look, (byte, (pose, tt))))

abbrev pub client : AsNumbers ClientType.the_field
client = struct ClientType.struct (λ v. tt) ClientType.the_propositions (truth, (truth, (motion, (long, (arms, (supplies, tt))))))

abbrev pub heard : AsNumbers FilledSoundType.the_field
heard = struct FilledSoundType.struct (λ v. tt) FilledSoundType.the_propositions (byte, (byte, (byte, (entity, (byte, (vector, tt))))))

pub baseline_fixed : Fixed BaselineType.the_row baseline_numbers
baseline_fixed = fixed_by BaselineType.the_row baseline_numbers (from baseline) (λ b h. from_front baseline b h.0 h.1 [])

pub record_fixed : Fixed RecordType.the_row record_numbers
record_fixed = fixed_by RecordType.the_row record_numbers (from latest) (λ r h. from_front latest r h.0 h.1 [])

pub client_fixed : Fixed ClientType.the_row (λ c. numbers (client_values c))
client_fixed = fixed_by ClientType.the_row (λ c. numbers (client_values c)) (from client) (λ c h. from_front client c h.0 h.1 [])

pub sound_fixed : Fixed FilledSoundType.the_row (λ d. numbers (filled_sound_values d))
sound_fixed = fixed_by FilledSoundType.the_row (λ d. numbers (filled_sound_values d)) (from heard) (λ d h. from_front heard d h.0 h.1 [])

-- ---- scenes

abbrev line_from : Line → PlayerLine
line_from l = record { frags = to_z w16 l.frags; colours = l.colours }

line_back : (l : PlayerLine) (vs : List Val) → Is PlayerLineType.the_row l vs → line_from (line_of l) ≡ l
line_back l vs h = λ i. record { frags = to_z-of_z w16 l.frags (record { sfits = h.1.1.0.1 }) i; colours = l.colours }

pub line_fixed : Fixed PlayerLineType.the_row line_of
line_fixed = fixed_by PlayerLineType.the_row line_of line_from (λ l h. line_back l h.0 h.1)

-- Lines that are lent.
pub lines_fixed : (xs ys : List PlayerLine) → Each (Held PlayerLineType.the_row) xs → Each (Held PlayerLineType.the_row) ys
    → map line_of xs ≡ map line_of ys → xs ≡ ys
lines_fixed xs ys p q e =
    let back = list_undone PlayerLineType.the_field line_of line_from line_back in
    sym (back xs p) ∙ ap (map line_from) e ∙ back ys q

-- An array stands at its own row, and holds its elements' own values.
module _ (R : RattleType) {X : Type 0} (view : R.Denot → X) (undo : X → R.Denot)
    (undone : (x : R.Denot) (vs : List Val) → Is R x vs → undo (view x) ≡ x) where
  items_held : (xs : List R.Denot) (us : List Val) → shadow (each R.Denot R.own_val xs us) → map undo (map view xs) ≡ xs
  items_held [] us h = refl
  items_held (x ∷ xs) [] h = absurd h
  items_held (x ∷ xs) (u ∷ us) h = λ i. undone x (u ∷ []) h.0 i ∷ items_held xs us h.1 i

  items_undone : (n : ℕ) (xs : List R.Denot) (vs : List Val) → Is (Array R n) xs vs → map undo (map view xs) ≡ xs
  items_undone n xs vs h = items_held xs h.0 h.1.1

abbrev time_from : Math.Option ℕ → Option ℕ
time_from Math.none = None
time_from (Math.some bits) = Some bits

time_back : (t : Option ℕ) → time_from (time_of t) ≡ t
time_back None = refl
time_back (Some bits) = refl

abbrev rest_from : Described → Rest
rest_from s =
    record {
      stats = map (to_z w32) s.stats;
      client = from client s.client;
      view = from entity (s.view ∷ []);
      pause = s.pause;
      statics = s.statics;
      limit = s.limit;
      time = time_from s.time;
      ended = s.ended;
      players = map line_from s.players;
    }

abbrev pub scene_from : Described → Scene
scene_from s =
    record {
      baselines = map (from baseline) s.baselines;
      records = map (from latest) s.records;
      present = s.present;
      present_count = s.present_count;
      rest = rest_from s;
    }

rest_back : (t : Tables) (x : Rest) (vs : List Val) → Is RestType.the_row x vs → rest_from (scene_with t x) ≡ x
unfolding scene_with
rest_back t x vs h =
    let f = h.1.1 in
    let stats = items_undone i32 (of_z w32) (to_z w32) (λ z us q. to_z-of_z w32 z (record { sfits = q.1 })) stat_count x.stats _ f.0 in
    let own = from_front client x.client _ f.1.0 [] in
    let players = items_undone PlayerLineType.the_row line_of line_from line_back player_count x.players _ f.1.1.1.1.1.1.1.1.0 in
    λ i. record {
      stats = stats i;
      client = own i;
      view = x.view;
      pause = x.pause;
      statics = x.statics;
      limit = x.limit;
      time = time_back x.time i;
      ended = x.ended;
      players = players i;
    }

scene_back : (s : Scene) → Held SceneType.the_row s → scene_from (scene_of s) ≡ s
unfolding scene_with
scene_back s h =
    let f = h.1.1.1 in
    let baselines = items_undone BaselineType.the_row baseline_numbers (from baseline) (λ b vs g. from_front baseline b vs g []) entity_count
    s.baselines _ f.0 in
    let records = items_undone RecordType.the_row record_numbers (from latest) (λ r vs g. from_front latest r vs g []) entity_count
    s.records _ f.1.0 in
    let rest = rest_back (tables_of s) s.rest _ f.1.1.1.1.0 in
    λ i. record { baselines = baselines i; records = records i; present = s.present; present_count = s.present_count; rest = rest i }

pub scene_fixed : Fixed SceneType.the_row scene_of
scene_fixed = fixed_by SceneType.the_row scene_of scene_from scene_back
