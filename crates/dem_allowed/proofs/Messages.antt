-- The tests of messages say what their layouts allow: of each kind the fields in turn, each fitting its width by its type.
-- Assumes nothing.
use mathlib.Core.Path.{◌≡◌, refl, sym, ap, ap₂, ◌∙◌}
use mathlib.Core.List.{List, [], ◌∷◌, ◌++◌, append-nil}
use mathlib.Core.Bool.{Bool, true, false, cond, not, ◌&&◌, ◌||◌, and-true, and-false, or-false}
use Prim.Native.Nat.{ℕ, ◌+◌, ◌*◌, ◌<◌, ◌^◌, zero-le}
use native.Mathlib.Omega.{arith}
use borrow.Author.Tests.{leb-false}
use lib.Dec.{leb, ltb, eqb, lit<}
use lib.ListN.{take, drop}
use mir.Val.{Val, of_z}
use mir.Syntax.{w8, w16, w32}
use denote.Laws.{Is}
use denote.Struct.Declared.{row as row_of}
use denote.Enum.Declared.{row as enum_of}
use denote.Enum.Laws.{owed}
use Rattle.std.proofs.lemmas.Bool.Decides.{nat_tests}
use Rattle.dem.specs.Kind
use Rattle.format.specs.Limits.{string_limit}
use Rattle.dem.specs.Limits.{entity_count, player_count, stat_count, style_count, static_limit, name_limit, temporary_type_count, protocol}
use Rattle.format.specs.Refusal.{reserved_bit, wrong_number, wrong_time}
use Rattle.format.specs.Bytes.{unless, free, bit}
use Rattle.format.specs.Layout.{Value, number, text, Layout, done, field, split, string, tail, allows, string_bytes}
use Rattle.format.specs.Masked.{Mask, slot_layout, any_set}
use Rattle.format.specs.Floats.{is_time, not_before}
use Rattle.dem.specs.Scene.{Context as Numbers, zero_baseline}
use Rattle.dem.specs.Message.{row, sound_slots, sound_tail, client_slots, client_tail, update_slots, update_mask, update_layout, number_rule, is_update}
use Rattle.dem.specs.Message.{equals, between, high_rule, entity_layout, names, kind_layout, layout, entity_rule}
use Rattle.dem.specs.Message.{TemporaryKind, point, line, explosion2, temporary_fields, is_line, explosion2_type, temporary_kind}
use Rattle.dem.proofs.MessageLaws.{number-update, kind-update}
use Rattle.dem.proofs.ShapeLaws.{update_numbered}
use Rattle.dem.proofs.SoundLaws.{from_four}
use Rattle.dem.proofs.UpdateLaws.{update_mask_lem}
use Rattle.dem_types.specs.Values.{short, long, char, values_by, vector_values, look_values, pose_values, sound_values, temporary_values, serverinfo_values}
use Rattle.dem_types.specs.Values.{motion_values, arms_values, supplies_values, client_values, update_values}
use Rattle.dem_types.specs.declared.Vector.{Vector}
use Rattle.dem_types.specs.declared.Entity.{Entity}
use Rattle.dem_types.specs.declared.Sound.{Sound}
use Rattle.dem_types.specs.declared.Serverinfo.{Serverinfo}
use Rattle.dem_types.specs.declared.Clientdata.{Clientdata}
use Rattle.dem_types.specs.declared.Update.{Update}
use Rattle.dem_types.specs.declared.Look.{Look}
use Rattle.dem_types.specs.declared.Pose.{Pose}
use Rattle.dem_types.specs.declared.Temporary.{Temporary}
use Rattle.dem_types.specs.declared.Temporary.TheVariants.{Point, Line, Explosion2}
use Rattle.dem_types.specs.declared.Message.{Message}
use Rattle.dem_types.specs.declared.Message.TheVariants as M
use Rattle.dem_types.proofs.Back.{Fit}
use Rattle.dem_types.specs.contracts.Look as LookType
use Rattle.dem_types.specs.contracts.Pose as PoseType
use Rattle.dem_types.specs.contracts.Temporary as TemporaryType
use Rattle.dem_types.proofs.Temporary.TheLaws as TemporaryLaws
use Rattle.dem_types.specs.contracts.Sound as SoundType
use Rattle.dem_types.specs.contracts.Serverinfo as ServerinfoType
use Rattle.dem_types.specs.contracts.Clientdata as ClientdataType
use Rattle.dem_types.specs.contracts.Update as UpdateType
use Rattle.strings.specs.Names.{names_in}
use Rattle.dem_parts.specs.Kinds.{context_of}
use Rattle.dem_parts.specs.declared.Context.{Context}
use Rattle.format.proofs.EachLaws.{in-run}
use Rattle.wire.specs.Reads.{placed}
use Rattle.dem_allowed.specs.Tests.{slot_test, motion_test, arms_test, look_test, pose_test, lists_test, source_test, sound_test, time_test}
use Rattle.dem_allowed.specs.Tests.{serverinfo_test, client_test, temporary_test, sent_test, update_test, message_test}
use Rattle.dem_allowed.proofs.Steps.{met, field_step, ruled_step, sent_step, entity_step, split_step, string_step, Wide}
use Rattle.dem_allowed.proofs.Steps.{run, run_step, slots_step, refuted}
use Rattle.dem_allowed.proofs.Fits.{signed, vector_wide, look_wide, pose_wide, motion_wide, arms_wide, supplies_wide}
use Rattle.dem_allowed.proofs.Fits.{both_wide, particle_wide}

-- ---- behind the number

known : (c : Numbers) (n : ℕ) (vs : List Value) → n < 256 → number_rule c n ≡ 0 → allows (kind_layout c n) vs ≡ allows (layout c) (number n ∷ vs)
unfolding layout
known c n vs h e =
    sym (field_step true 1 (number_rule c) (λ n. kind_layout c n) n vs h ∙ ap (λ (r : ℕ). eqb r 0 && allows (kind_layout c n) vs) e)

-- A test of the fields is a test of the message.
behind : (c : Numbers) (n : ℕ) (vs : List Value) (test : Bool) → n < 256 → number_rule c n ≡ 0 → allows (kind_layout c n) vs ≡ test
    → test ≡ allows (layout c) (number n ∷ vs)
behind c n vs test h e p = sym p ∙ known c n vs h e

-- Fields without rules.
free-fields : (ws : List ℕ) (vs : List Value) → Wide ws vs → allows (run ws done) vs ≡ true
unfolding allows
free-fields ws vs h = ap (allows (run ws done)) (sym (append-nil vs)) ∙ run_step true ws done vs [] h

-- A rule, then fields without one.
ruled-fields : (w : ℕ) (good : ℕ → Bool) (ws : List ℕ) (v : ℕ) (vs : List Value) → v < 256 ^ w → Wide ws vs
    → allows (field w (λ v. unless (good v) wrong_number) (λ v. run ws done)) (number v ∷ vs) ≡ good v
ruled-fields w good ws v vs h f =
    ruled_step true w good wrong_number (λ v. run ws done) v vs h (lit< tt)
    ∙ ap (λ (b : Bool). good v && b) (free-fields ws vs f) ∙ and-true (good v)

string-field : (t : List ℕ) → allows (string free (λ t. done)) (text t ∷ []) ≡ string_bytes string_limit t
unfolding allows
string-field t = string_step true done t [] ∙ and-true (string_bytes string_limit t)

-- A rule, then a string.
ruled-string : (good : ℕ → Bool) (v : ℕ) (t : List ℕ) → v < 256
    → allows (field 1 (λ v. unless (good v) wrong_number) (λ v. string free (λ t. done))) (number v ∷ text t ∷ [])
    ≡ (good v && string_bytes string_limit t)
ruled-string good v t h =
    ruled_step true 1 good wrong_number (λ v. string free (λ t. done)) v (text t ∷ []) h (lit< tt)
    ∙ ap (λ (b : Bool). good v && b) (string-field t)

source-field : (c : ℕ) (e : Entity) → allows (split 2 3 entity_rule done) (number c ∷ number e.0 ∷ []) ≡ source_test c e
unfolding allows
source-field c e = split_step true done c e.0 [] ∙ and-true (source_test c e)

-- ---- the kinds with a layout of their own

not_from : (m v : ℕ) → ltb v m ≡ not (leb m v)
not_from m v = grind (arith, nat_tests)

-- Bits 2 to 7 of a byte are clear below 4.
small_mask : (m : ℕ) → m < 256 → not (any_set (2 ∷ 3 ∷ 4 ∷ 5 ∷ 6 ∷ 7 ∷ []) (bit m)) ≡ ltb m 4
small_mask m h = ap not (sym (from_four m h)) ∙ sym (not_from 4 m)

sound_law : (c : Numbers) (s : Sound) (vs : List Val) → Is (row_of SoundType.the_type) s vs
    → allows (kind_layout c Kind.sound) (sound_values s) ≡ sound_test s
unfolding kind_layout sound_test
sound_law c s vs p =
    let f = p.1.1 in
    let m = s.mask in
    let rest : List Value = number s.channel ∷ number s.entity.0 ∷ number s.sound ∷ vector_values s.origin in
    let slots : List Value = number s.volume ∷ number s.attenuation ∷ [] in
    let sent : Bool = ltb m 4 && slot_test true sound_slots (bit m) slots in
    ruled_step true 1 (λ m. not (any_set (2 ∷ 3 ∷ 4 ∷ 5 ∷ 6 ∷ 7 ∷ []) (bit m))) reserved_bit
    (λ m. slot_layout sound_slots (bit m) (row c sound_tail done)) m
    (slots ++ rest) f.0.1 (lit< tt)
    ∙ ap (λ (b : Bool). b && allows (slot_layout sound_slots (bit m) (row c sound_tail done)) (slots ++ rest)) (small_mask m f.0.1)
    ∙ slots_step (ltb m 4) sound_slots (bit m) (row c sound_tail done) slots rest (f.1.0.1, (f.1.1.0.1, tt))
    ∙ split_step sent (run (1 ∷ 2 ∷ 2 ∷ 2 ∷ []) done) s.channel s.entity.0 (number s.sound ∷ vector_values s.origin)
    ∙ ap (λ (b : Bool). sent && source_test s.channel s.entity && b)
    (free-fields (1 ∷ 2 ∷ 2 ∷ 2 ∷ []) (number s.sound ∷ vector_values s.origin)
    (f.1.1.1.1.1.0.1, vector_wide s.origin _ f.1.1.1.1.1.1.0))
    ∙ and-true (sent && source_test s.channel s.entity)

time_law : (x : Context) (v : ℕ) → v < 256 ^ 4 → allows (kind_layout (context_of x) Kind.time) (number v ∷ []) ≡ time_test x v
unfolding kind_layout time_test allows
time_law x v h =
    ruled_step true 4 (λ v. is_time v && not_before (context_of x).time v) wrong_time (λ v. done) v [] h (lit< tt) ∙ and-true _

-- Protocol, limit, game and map, then a layout.
info-fields : (k : Layout) (z limit game : ℕ) (map : List ℕ) (us : List Value) → z < 256 ^ 4 → limit < 256 → game < 256
    → allows (field 4 (equals protocol) (λ v. field 1 (between 1 player_count) (λ v. field 1 free (λ v. string free (λ t. k)))))
    (number z ∷ number limit ∷ number game ∷ text map ∷ us)
    ≡ (eqb z protocol && (leb 1 limit && leb limit player_count) && string_bytes string_limit map && allows k us)
info-fields k z limit game map us hz hl hg =
    let version : Bool = eqb z protocol in
    let limited : Bool = version && (leb 1 limit && leb limit player_count) in
    ruled_step true 4 (λ v. eqb v protocol) wrong_number (λ v. field 1 (between 1 player_count) (λ v. field 1 free (λ v. string free (λ t. k)))) z
    (number limit ∷ number game ∷ text map ∷ us) hz (lit< tt)
    ∙ ruled_step version 1 (λ v. leb 1 v && leb v player_count) wrong_number (λ v. field 1 free (λ v. string free (λ t. k))) limit
    (number game ∷ text map ∷ us) hl (lit< tt)
    ∙ run_step limited (1 ∷ []) (string free (λ t. k)) (number game ∷ []) (text map ∷ us) (hg, tt)
    ∙ string_step limited k map us

serverinfo_law : (c : Numbers) (t : List ℕ) (s : Serverinfo) (vs : List Val) → Is (row_of ServerinfoType.the_type) s vs
    → allows (kind_layout c Kind.serverinfo) (serverinfo_values (placed t) s) ≡ serverinfo_test t s
unfolding kind_layout serverinfo_test lists_test
serverinfo_law c t s vs p =
    let f = p.1.1 in
    info-fields (names name_limit (names name_limit done)) (of_z w32 s.protocol) s.limit s.game (placed t s.map)
    (names_in [] (placed t s.names)) (signed w32 s.protocol f.0.1) f.1.0.1 f.1.1.0.1

client_law : (c : Numbers) (d : Clientdata) (vs : List Val) → Is (row_of ClientdataType.the_type) d vs
    → allows (kind_layout c Kind.clientdata) (client_values d) ≡ client_test d
unfolding kind_layout client_test motion_test arms_test
client_law c d vs p =
    let f = p.1.1 in
    let m = d.mask in
    let clear : Bool = not (any_set (8 ∷ 15 ∷ []) (bit m)) in
    let moved : Bool = clear && slot_test true (take 8 (drop 0 client_slots)) (bit m) (motion_values d.motion) in
    let armed : Bool = moved && slot_test true (take 3 (drop 9 client_slots)) (bit m) (arms_values d.arms) in
    let last : Layout = run (2 ∷ 1 ∷ 1 ∷ 1 ∷ 1 ∷ 1 ∷ 1 ∷ []) done in
    let arms : Layout = slot_layout (take 3 (drop 9 client_slots)) (bit m) last in
    let behind-items : List Value = arms_values d.arms ++ supplies_values d.supplies in
    ruled_step true 2 (λ m. not (any_set (8 ∷ 15 ∷ []) (bit m))) reserved_bit (λ m. slot_layout client_slots (bit m) (row c client_tail done)) m
    (motion_values d.motion ++ (long d.items ∷ behind-items)) f.0.1 (lit< tt)
    ∙ slots_step clear (take 8 (drop 0 client_slots)) (bit m) (run (4 ∷ []) arms) (motion_values d.motion) (long d.items ∷ behind-items)
    (motion_wide d.motion _ f.1.0)
    ∙ run_step moved (4 ∷ []) arms (long d.items ∷ []) behind-items (signed w32 d.items f.1.1.0.1, tt)
    ∙ slots_step moved (take 3 (drop 9 client_slots)) (bit m) last (arms_values d.arms) (supplies_values d.supplies)
    (arms_wide d.arms _ f.1.1.1.0)
    ∙ ap (λ (b : Bool). armed && b)
    (free-fields (2 ∷ 1 ∷ 1 ∷ 1 ∷ 1 ∷ 1 ∷ 1 ∷ []) (supplies_values d.supplies) (supplies_wide d.supplies _ f.1.1.1.1.0))
    ∙ and-true armed

-- ---- temporary entities

line_known : (k : ℕ) → k < 256 → is_line k ≡ true → ltb k temporary_type_count ≡ true
line_known k h p =
    sym (ap (λ (b : Bool). not b || ltb k temporary_type_count) p)
    ∙ in-run (λ k. not (is_line k) || ltb k temporary_type_count) 0 256 k refl zero-le h

module _ (c : Numbers) (v : Vector) (f : Wide (2 ∷ 2 ∷ 2 ∷ []) (vector_values v)) where
  fields : TemporaryKind → Layout
  fields t = row c (temporary_fields t) done

  typed : (k : ℕ) (vs : List Value) → k < 256
      → allows (kind_layout c Kind.temporary) (number k ∷ vs) ≡ (ltb k temporary_type_count && allows (fields (temporary_kind k)) vs)
  unfolding kind_layout fields
  typed k vs h = ruled_step true 1 (λ k. ltb k temporary_type_count) wrong_number (λ k. fields (temporary_kind k)) k vs h (lit< tt)

  point_law : (k : ℕ) → k < 256
      → allows (kind_layout c Kind.temporary) (number k ∷ vector_values v) ≡ (ltb k temporary_type_count && not (is_line k || eqb k explosion2_type))
  unfolding fields
  point_law k h = typed k (vector_values v) h ∙ ap (λ (b : Bool). ltb k temporary_type_count && b) (go (is_line k) (eqb k explosion2_type))
    where
      go : (l e : Bool) → allows (fields (cond l line (cond e explosion2 point))) (vector_values v) ≡ not (l || e)
      go true e = sym (refuted (fields line) (vector_values v) (λ a. a.2.2.2))
      go false true = sym (refuted (fields explosion2) (vector_values v) (λ a. a.2.2.2))
      go false false = free-fields (2 ∷ 2 ∷ 2 ∷ []) (vector_values v) f

  line_law : (k e : ℕ) (w : Vector) → k < 256 → e < 256 ^ 2 → Wide (2 ∷ 2 ∷ 2 ∷ []) (vector_values w)
      → allows (kind_layout c Kind.temporary) (number k ∷ number e ∷ (vector_values v ++ vector_values w)) ≡ (is_line k && ltb e entity_count)
  unfolding fields
  line_law k e w h he g = typed k vs h ∙ go (is_line k) refl
    where
      vs : List Value
      vs = number e ∷ (vector_values v ++ vector_values w)

      none : (b : Bool) → allows (fields (cond b explosion2 point)) vs ≡ false
      none true = sym (refuted (fields explosion2) vs (λ a. a.2.2.2.2.2))
      none false = sym (refuted (fields point) vs (λ a. a.2.2.2))

      go : (l : Bool) → is_line k ≡ l
          → (ltb k temporary_type_count && allows (fields (cond l line (cond (eqb k explosion2_type) explosion2 point))) vs) ≡ (l && ltb e entity_count)
      go true p =
          ap₂ (λ (a b : Bool). a && b) (line_known k h p)
          (ruled-fields 2 (λ v. ltb v entity_count) (2 ∷ 2 ∷ 2 ∷ 2 ∷ 2 ∷ 2 ∷ []) e (vector_values v ++ vector_values w) he
          (both_wide (2 ∷ 2 ∷ 2 ∷ []) (2 ∷ 2 ∷ 2 ∷ []) (vector_values v) (vector_values w) f g))
      go false p = ap (λ (b : Bool). ltb k temporary_type_count && b) (none (eqb k explosion2_type)) ∙ and-false (ltb k temporary_type_count)

  explosion2_law : (first count : ℕ) → first < 256 → count < 256
      → allows (kind_layout c Kind.temporary) (temporary_values (Explosion2 v first count)) ≡ true
  unfolding fields
  explosion2_law first count h g =
      typed explosion2_type (vector_values v ++ number first ∷ number count ∷ []) (lit< tt)
      ∙ free-fields (2 ∷ 2 ∷ 2 ∷ 1 ∷ 1 ∷ []) (vector_values v ++ number first ∷ number count ∷ [])
      (both_wide (2 ∷ 2 ∷ 2 ∷ []) (1 ∷ 1 ∷ []) (vector_values v) (number first ∷ number count ∷ []) f (h, (g, tt)))

temporary_law : (c : Numbers) (k : Temporary) (vs : List Val) → Is (enum_of TemporaryType.the_type) k vs
    → allows (kind_layout c Kind.temporary) (temporary_values k) ≡ temporary_test k
unfolding temporary_test
temporary_law c (Point k v) vs p =
    let f = owed TemporaryType.the_type TemporaryLaws.the_laws (Point k v) vs p in point_law c v (vector_wide v _ f.1.0) k f.0.1
temporary_law c (Line k e v w) vs p =
    let f = owed TemporaryType.the_type TemporaryLaws.the_laws (Line k e v w) vs p in
    line_law c v (vector_wide v _ f.1.1.0) k e.0 w f.0.1 f.1.0.1.1.0.1 (vector_wide w _ f.1.1.1.0)
temporary_law c (Explosion2 v first count) vs p =
    let f = owed TemporaryType.the_type TemporaryLaws.the_laws (Explosion2 v first count) vs p in
    explosion2_law c v (vector_wide v _ f.0) first count f.1.0.1 f.1.1.0.1

-- ---- statics

abbrev entity_widths : List ℕ
entity_widths = 1 ∷ 1 ∷ 1 ∷ 1 ∷ 2 ∷ 1 ∷ 2 ∷ 1 ∷ 2 ∷ 1 ∷ []

entity_wide : (l : Look) (p : Pose) (ls ps : List Val) → Is (row_of LookType.the_type) l ls → Is (row_of PoseType.the_type) p ps
    → Wide entity_widths (look_values l ++ pose_values p)
entity_wide l p ls ps f g =
    both_wide (1 ∷ 1 ∷ 1 ∷ 1 ∷ []) (2 ∷ 1 ∷ 2 ∷ 1 ∷ 2 ∷ 1 ∷ []) (look_values l) (pose_values p) (look_wide l ls f) (pose_wide p ps g)

-- The 129th static breaks the rule of the number.
static_law : (c : Numbers) (l : Look) (p : Pose) (ls ps : List Val) → Is (row_of LookType.the_type) l ls → Is (row_of PoseType.the_type) p ps
    → ltb c.statics static_limit ≡ allows (layout c) (number Kind.static ∷ (look_values l ++ pose_values p))
unfolding layout kind_layout
static_law c l p ls ps f g =
    let room : Bool = ltb c.statics static_limit in
    sym (field_step true 1 (number_rule c) (λ n. kind_layout c n) Kind.static (look_values l ++ pose_values p) (lit< tt)
    ∙ ap (λ (b : Bool). b && allows (run entity_widths done) (look_values l ++ pose_values p))
    (met (not (leb static_limit c.statics)) wrong_number (lit< tt) ∙ sym (not_from static_limit c.statics))
    ∙ ap (λ (b : Bool). room && b) (free-fields entity_widths (look_values l ++ pose_values p) (entity_wide l p ls ps f g)) ∙ and-true room)

-- ---- update

update-fields : (u : Update) (vs : List Val) → Is (row_of UpdateType.the_type) u vs
    → allows (update_layout u.number) (tail (update_values u)) ≡ sent_test (bit (u.high * 256 + u.number)) u
unfolding sent_test look_test pose_test allows
update-fields u vs p =
    let f = p.1.1 in
    let n = u.number in
    let h = u.high in
    let mask : Mask = update_mask n h in
    let high : Bool = bit n 0 || eqb h 0 in
    let clear : Bool = high && not (bit h 7) in
    let named : Bool = clear && (bit h 6 || ltb u.entity.0 256) && ltb u.entity.0 entity_count in
    let looks : Bool = named && slot_test true (take 4 (drop 0 (update_slots zero_baseline))) mask (look_values u.look) in
    let glows : Bool = looks && (bit h 5 || eqb u.effects 0) in
    let pose : Layout = slot_layout (take 6 (drop 5 (update_slots zero_baseline))) mask done in
    let effects : Layout = slot_layout (take 1 (drop 4 (update_slots zero_baseline))) mask pose in
    let shown : List Value = look_values u.look ++ (number u.effects ∷ pose_values u.pose) in
    sent_step true (bit n 0) 1 high_rule (λ high. entity_layout n high) h (number u.entity.0 ∷ shown) f.1.0.1
    ∙ ap (λ (b : Bool). high && b && allows (entity_layout n h) (number u.entity.0 ∷ shown))
    (met (not (any_set (7 ∷ []) (bit h))) reserved_bit (lit< tt) ∙ ap not (or-false (bit h 7)))
    ∙ entity_step clear (bit h 6) (λ e. slot_layout (update_slots zero_baseline) mask done) u.entity.0 shown f.1.1.0.1.1.0.1
    ∙ slots_step named (take 4 (drop 0 (update_slots zero_baseline))) mask effects (look_values u.look)
    (number u.effects ∷ pose_values u.pose)
    (look_wide u.look _ f.1.1.1.0)
    ∙ slots_step looks (take 1 (drop 4 (update_slots zero_baseline))) mask pose (number u.effects ∷ []) (pose_values u.pose)
    (f.1.1.1.1.0.1, tt)
    ∙ slots_step glows (take 6 (drop 5 (update_slots zero_baseline))) mask done (pose_values u.pose) []
    (pose_wide u.pose _ f.1.1.1.1.1.0)
    ∙ and-true (glows && slot_test true (take 6 (drop 5 (update_slots zero_baseline))) mask (pose_values u.pose))
    ∙ sym (ap (λ (mask : Mask). sent_test mask u) (update_mask_lem h n f.0.1))

update_law : (c : Numbers) (u : Update) (vs : List Val) → Is (row_of UpdateType.the_type) u vs → update_test u ≡ allows (layout c) (update_values u)
unfolding update_test layout kind_layout
update_law c u vs p = go (is_update u.number) refl
  where
    go : (b : Bool) → is_update u.number ≡ b → (b && sent_test (bit (u.high * 256 + u.number)) u) ≡ allows (layout c) (update_values u)
    go false e = refuted (layout c) (update_values u) (λ a. omega (arith, update_numbered c _ _ _ _ _ _ _ _ _ _ _ _ _ u.number a, leb-false Kind.update u.number e))
    go true e =
        behind c u.number (tail (update_values u)) (sent_test (bit (u.high * 256 + u.number)) u) p.1.1.0.1 (number-update c u.number e)
        (ap (λ (l : Layout). allows l (tail (update_values u))) (kind-update c u.number e) ∙ update-fields u vs p)

-- ---- every message

pub message_law : (t : List ℕ) (x : Context) (m : Message) → Fit m → message_test t x m ≡ allows (layout (context_of x)) (values_by (placed t) m)
unfolding message_test kind_layout
message_law t x M.Nop f = behind (context_of x) 1 _ _ (lit< tt) refl (free-fields [] [] tt)
message_law t x M.Disconnect f = behind (context_of x) Kind.disconnect _ _ (lit< tt) refl (free-fields [] [] tt)
message_law t x (M.Stat i v) f =
    behind (context_of x) Kind.stat _ _ (lit< tt) refl
    (ruled-fields 1 (λ v. ltb v stat_count) (4 ∷ []) i (long v ∷ []) f.0.1 (signed w32 v f.1.0.1, tt))
message_law t x (M.Version v) f =
    behind (context_of x) 4 _ _ (lit< tt) refl (ruled-fields 4 (λ v. eqb v protocol) [] (of_z w32 v) [] (signed w32 v f.0.1) tt)
message_law t x (M.View e) f =
    behind (context_of x) Kind.view _ _ (lit< tt) refl (ruled-fields 2 (λ v. ltb v entity_count) [] e.0 [] f.0.1.1.0.1 tt)
message_law t x (M.Sound s) f = behind (context_of x) Kind.sound _ _ (lit< tt) refl (sound_law (context_of x) s _ f.0)
message_law t x (M.Time v) f = behind (context_of x) Kind.time _ _ (lit< tt) refl (time_law x v f.0.1)
message_law t x (M.Print p) f = behind (context_of x) 8 _ _ (lit< tt) refl (string-field (placed t p))
message_law t x (M.Stufftext p) f = behind (context_of x) 9 _ _ (lit< tt) refl (string-field (placed t p))
message_law t x (M.SetAngles a b c) f =
    behind (context_of x) 10 _ _ (lit< tt) refl
    (free-fields (1 ∷ 1 ∷ 1 ∷ []) (char a ∷ char b ∷ char c ∷ [])
    (signed w8 a f.0.1, (signed w8 b f.1.0.1, (signed w8 c f.1.1.0.1, tt))))
message_law t x (M.Serverinfo s) f = behind (context_of x) Kind.serverinfo _ _ (lit< tt) refl (serverinfo_law (context_of x) t s _ f.0)
message_law t x (M.Style i p) f = behind (context_of x) 12 _ _ (lit< tt) refl (ruled-string (λ v. ltb v style_count) i (placed t p) f.0.1)
message_law t x (M.Name p n) f =
    behind (context_of x) 13 _ _ (lit< tt) refl (ruled-string (λ v. ltb v x.limit) p.0 (placed t n) f.0.1.1.0.1)
message_law t x (M.Frags p v) f =
    behind (context_of x) Kind.frags _ _ (lit< tt) refl
    (ruled-fields 1 (λ v. ltb v x.limit) (2 ∷ []) p.0 (short v ∷ []) f.0.1.1.0.1 (signed w16 v f.1.0.1, tt))
message_law t x (M.Clientdata d) f = behind (context_of x) Kind.clientdata _ _ (lit< tt) refl (client_law (context_of x) d _ f.0)
message_law t x (M.Stopsound c e) f =
    behind (context_of x) 16 _ _ (lit< tt) refl (source-field c e)
message_law t x (M.Colours p v) f =
    behind (context_of x) Kind.colours _ _ (lit< tt) refl
    (ruled-fields 1 (λ v. ltb v x.limit) (1 ∷ []) p.0 (number v ∷ []) f.0.1.1.0.1 (f.1.0.1, tt))
message_law t x (M.Particle p) f =
    behind (context_of x) 18 _ _ (lit< tt) refl (free-fields (2 ∷ 2 ∷ 2 ∷ 1 ∷ 1 ∷ 1 ∷ 1 ∷ 1 ∷ []) _ (particle_wide p _ f.0))
message_law t x (M.Damage a b v) f =
    behind (context_of x) 19 _ _ (lit< tt) refl
    (free-fields (1 ∷ 1 ∷ 2 ∷ 2 ∷ 2 ∷ []) (number a ∷ number b ∷ vector_values v) (f.0.1, (f.1.0.1, vector_wide v _ f.1.1.0)))
message_law t x (M.Static l p) f = static_law (context_of x) l p _ _ f.0 f.1.0
message_law t x (M.Baseline e l p) f =
    behind (context_of x) Kind.baseline _ _ (lit< tt) refl
    (ruled-fields 2 (λ v. ltb v entity_count) entity_widths e.0 (look_values l ++ pose_values p) f.0.1.1.0.1
    (entity_wide l p _ _ f.1.0 f.1.1.0))
message_law t x (M.Temporary k) f = behind (context_of x) Kind.temporary _ _ (lit< tt) refl (temporary_law (context_of x) k _ f.0)
message_law t x (M.Pause v) f = behind (context_of x) Kind.pause _ _ (lit< tt) refl (free-fields (1 ∷ []) (number v ∷ []) (f.0.1, tt))
message_law t x (M.Signon v) f = behind (context_of x) 25 _ _ (lit< tt) refl (free-fields (1 ∷ []) (number v ∷ []) (f.0.1, tt))
message_law t x (M.Centerprint p) f = behind (context_of x) 26 _ _ (lit< tt) refl (string-field (placed t p))
message_law t x M.Killed f = behind (context_of x) Kind.killed _ _ (lit< tt) refl (free-fields [] [] tt)
message_law t x M.Secret f = behind (context_of x) Kind.secret _ _ (lit< tt) refl (free-fields [] [] tt)
message_law t x (M.StaticSound v a b c) f =
    behind (context_of x) 29 _ _ (lit< tt) refl
    (free-fields (2 ∷ 2 ∷ 2 ∷ 1 ∷ 1 ∷ 1 ∷ []) _
    (both_wide (2 ∷ 2 ∷ 2 ∷ []) (1 ∷ 1 ∷ 1 ∷ []) (vector_values v) (number a ∷ number b ∷ number c ∷ []) (vector_wide v _ f.0)
    (f.1.0.1, (f.1.1.0.1, (f.1.1.1.0.1, tt)))))
message_law t x M.Intermission f = behind (context_of x) 30 _ _ (lit< tt) refl (free-fields [] [] tt)
message_law t x (M.Finale p) f = behind (context_of x) 31 _ _ (lit< tt) refl (string-field (placed t p))
message_law t x (M.Track a b) f =
    behind (context_of x) 32 _ _ (lit< tt) refl
    (free-fields (1 ∷ 1 ∷ []) (number a ∷ number b ∷ []) (f.0.1, (f.1.0.1, tt)))
message_law t x M.Sellscreen f = behind (context_of x) 33 _ _ (lit< tt) refl (free-fields [] [] tt)
message_law t x (M.Cutscene p) f = behind (context_of x) 34 _ _ (lit< tt) refl (string-field (placed t p))
message_law t x (M.Update u) f = update_law (context_of x) u _ f.0
