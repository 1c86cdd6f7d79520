-- What each arm of the loop over messages does: a message is read, the parts of the scene that it names are changed, and its normal
-- form's bytes are known.
-- Assumes nothing.
use mathlib.Core.Path.{◌≡◌, refl, sym, ap, ap₂, ◌∙◌, subst}
use mathlib.Core.Logic.{◌≢◌}
use mathlib.Core.List.{List, [], ◌∷◌, ◌++◌, map, append-nil}
use mathlib.Core.Bool.{Bool, true, false}
use Prim.Native.Nat.{ℕ, ◌+◌, ◌-◌, ◌<◌, ◌≤◌}
use native.Mathlib.Omega.{arith}
use borrow.Author.Tests.{leb-true, leb-false, le-leb}
use lib.Dec.{leb}
use lib.IntN.{pos}
use lib.ListN.{length, take, drop, get_or, set, replicate, length-append, length-drop, drop_of_length-le}
use lib.Seq.{take-append_seam, take_all}
use Rattle.dem.specs.Kind
use Rattle.dem.specs.Limits.{entity_count}
use Rattle.format.specs.Bytes.{Bytes, Result, found, refused, map_result}
use Rattle.format.specs.Layout.{Value, number, Layout, parse, print, tail, put}
use Rattle.dem.specs.Scene.{Scene, Context, context_of, cleared, count_marks, in_range}
use Rattle.dem.specs.Message.{is_message, is_update, kind_layout, layout, layout_in, update_layout, fill_update, fill_client, fill_sound, fill}
use Rattle.dem.specs.Message.{send_update, send_client, send_sound, normal, apply, normal as normal_message}
use Rattle.format.specs.Codec.{normal_bytes}
use Rattle.dem.specs.Recording.{read_message, write_message, messages}
use Rattle.format.proofs.ResultLaws.{clash}
use Rattle.format.proofs.ByteLaws.{drop-bytes}
use Rattle.dem.proofs.BlockLaws.{message_lawful}
use Rattle.dem_normal.proofs.PlainForm.{plain_form}
use Rattle.format.proofs.LayoutLaws.{Allowed}
use Rattle.dem.proofs.CountLaws.{count_set, count_none}
use Rattle.dem.proofs.RangeLaws.{range→}
use Rattle.dem.proofs.MessageLaws.{kind-update, fill-update, fill-client}
use Rattle.dem.proofs.UpdateLaws.{entity-known, UpdateRead, update-read}
use Rattle.wire.specs.Reads.{placed}
use Rattle.dem_types.proofs.ByNumber.{update_place, not_at}
use Rattle.dem_types.specs.declared.Message.{Message as Sent}
use Rattle.dem_types.specs.declared.Message.TheVariants as M
use Rattle.dem_types.specs.declared.Entity.{Entity}
use Rattle.dem_types.specs.declared.Look.{Look}
use Rattle.dem_types.specs.declared.Pose.{Pose}
use Rattle.dem_types.specs.declared.Serverinfo.{Serverinfo}
use Rattle.dem_types.specs.declared.Sound.{Sound}
use Rattle.dem_types.specs.declared.Update.{Update}
use Rattle.dem_types.specs.Values.{values_of, sound_values, update_values}
use Rattle.format.specs.Answer.{place_in}
use Rattle.dem_types.specs.Places.{values_to}
use Rattle.dem_parts.specs.Kinds.{kind_in}
use Rattle.dem_scene.specs.Views.{Numbered, baseline_numbers, record_numbers, record_values, client_values, Tables, no_tables, unmarked, scene_with, scene_of, with_tables}
use Rattle.dem_scene.specs.declared.Baseline.{Baseline}
use Rattle.dem_scene.specs.declared.Client.{Client}
use Rattle.dem_scene.specs.declared.Record.{Record}
use Rattle.dem_scene.specs.declared.Rest.{Rest}
use Rattle.dem_scene.specs.declared.Scene.{Scene as Given}
use Rattle.dem_scene.proofs.Changes.{set_seen, seen_at}
use Rattle.dem_effects.proofs.Tables.{tables_in, with_baselines, updated, update_applied, matched, tables_kept, rest_joined}
use Rattle.dem_reader.specs.Passed.{is_passed}
use Rattle.dem_reader.proofs.Passing.{each-passed}
use Rattle.dem_reader.proofs.Arms.{update_arm}
use Rattle.dem_reader.proofs.Numbers.{is-message}
use Rattle.dem_reader.proofs.Readings.{read-allowed, read_values, read_number_lem, read_numbered, kind-read, message-ended, message-found, message-refused}
use Rattle.dem_direct.specs.Spread.{client_at}
use Rattle.dem_blocks.proofs.Turns.{Moved}

-- The scene of these parts: its number of marks is that of these.
abbrev pub held_tables : List Baseline → List Record → List Bool → Tables
held_tables b e p = record { baselines = map baseline_numbers b; records = map record_numbers e; present = p; present_count = count_marks p }

abbrev pub held : List Baseline → List Record → List Bool → Rest → Scene
held b e p x = scene_with (held_tables b e p) x

-- A scene that code holds and that is in range is so held.
pub given_held : (s : Given) → in_range (scene_of s) ≡ true → scene_of s ≡ held s.baselines s.records s.present s.rest
unfolding scene_with
given_held s r = ap (λ (n : ℕ). scene_with (record {
  baselines = map baseline_numbers s.baselines;
  records = map record_numbers s.records;
  present = s.present;
  present_count = n;
}) s.rest) (range→ (scene_of s) r).count

abbrev pub no_baseline : Baseline
no_baseline =
    record {
      look = record { model = 0; frame = 0; colormap = 0; skin = 0 };
      pose = record { x = pos 0; angle0 = pos 0; y = pos 0; angle1 = pos 0; z = pos 0; angle2 = pos 0 };
    }

-- What stands in front of the bytes from a place on, where they are the end of those from another on.
copied : (s : List ℕ) (at to : ℕ) (xs : List ℕ) → at < length s → xs ++ drop to s ≡ drop at s → xs ≡ take (to - at) (drop at s)
copied s at to xs l e = go (leb to (length s)) refl
  where
    go : (b : Bool) → leb to (length s) ≡ b → xs ≡ take (to - at) (drop at s)
    go true q =
        let n : length xs ≡ to - at = omega (arith, leb-true to (length s) q, ap length e, length-append xs (drop to s), length-drop to s, length-drop at s) in
        sym (take-append_seam xs (drop to s)) ∙ ap₂ (λ (k : ℕ) (bs : List ℕ). take k bs) n e
    go false q =
        let past : length s ≤ to = omega (arith, leb-false to (length s) q) in
        sym (append-nil xs) ∙ ap (λ (bs : List ℕ). xs ++ bs) (sym (drop_of_length-le s past)) ∙ e
        ∙ sym (take_all (to - at) (drop at s) (omega (arith, leb-false to (length s) q, length-drop at s)))

-- A message that is passed changes nothing and is its own normal form.
passed_still : (t : Scene) (us : List Value) (n : ℕ) → is_passed n ≡ true → apply t (fill t (number n ∷ us)) ≡ t
unfolding apply fill
passed_still t us = each-passed (λ (n : ℕ). apply t (fill t (number n ∷ us)) ≡ t) refl refl refl refl refl refl refl

passed_form : (t : Scene) (us : List Value) (n : ℕ) → is_passed n ≡ true → normal_bytes messages normal_message t (number n ∷ us) ≡ write_message t (number n ∷ us)
unfolding normal fill write_message
passed_form t us = each-passed (λ (n : ℕ). normal_bytes messages normal_message t (number n ∷ us) ≡ write_message t (number n ∷ us)) refl refl refl refl refl refl refl

-- Clientdata as it was sent, behind what was read and filled in.
pub record ClientRead (s : List ℕ) (at : ℕ) (x : Context) (k : Client) (rest : List ℕ) : Type 0 where
  pub sent : List Value
  pub read : found (number 15 ∷ sent) rest ≡ kind_in x 15 (drop at s)
  pub filled : number Kind.clientdata ∷ client_values k ≡ fill_client sent

pub client-read : (s : List ℕ) (at : ℕ) (x : Context) (k : Client) (rest : List ℕ)
    → found (number Kind.clientdata ∷ client_values k) rest ≡ client_at s at x → ClientRead s at x k rest
unfolding kind_in
client-read s at x k rest = go (parse (kind_layout x 15) (drop at s)) refl
  where
    go : (q : Result (List Value)) → parse (kind_layout x 15) (drop at s) ≡ q
        → found (number Kind.clientdata ∷ client_values k) rest ≡ map_result (λ vs. fill_client (tail vs)) (put (number Kind.clientdata) q)
        → ClientRead s at x k rest
    go (found us after) f h =
        let behind : rest ≡ after = cc in
        record { sent = us; read = ap (found (number 15 ∷ us)) behind ∙ sym (ap (put (number 15)) f); filled = cc }
    go (refused n left) f h = clash (cc)

pub client-refused : (s : List ℕ) (at : ℕ) (x : Context) (n : ℕ) (left : List ℕ) → refused n left ≡ client_at s at x
    → refused n left ≡ kind_in x 15 (drop at s)
client-refused s at x n left = go (kind_in x 15 (drop at s))
  where
    go : (q : Result (List Value)) → refused n left ≡ map_result (λ vs. fill_client (tail vs)) q → refused n left ≡ q
    go (found us after) h = clash (cc)
    go (refused k after) h = cc

-- No mark is set in a cleared scene.
pub cleared-present : (s : Given) (n : ℕ) → scene_of s ≡ cleared n → held s.baselines s.records (replicate entity_count false) s.rest ≡ cleared n
unfolding scene_with
cleared-present s n g =
    (λ i. scene_with (record {
      baselines = map baseline_numbers s.baselines;
      records = map record_numbers s.records;
      present = sym (ap (λ (t : Scene). t.present) g) i;
      present_count = (count_none entity_count ∙ sym (ap (λ (t : Scene). t.present_count) g)) i;
    }) s.rest) ∙ g

module _ (s : List ℕ) (at : ℕ) (l : at < length s) (b : List Baseline) (e : List Record) (p : List Bool) (x : Rest) where
  pub ended-refused : x.ended ≡ true → read_message (held b e p x) (drop at s) ≡ refused 11 (drop at s)
  unfolding scene_with
  ended-refused q = message-ended (held b e p x) s at q

  module _ (going : x.ended ≡ false) where
    -- What the reader of kind n answers, where the number stands here.
    pub kind_parsed : (n : ℕ) (k : Context) → n ≡ get_or s at 0 → is_message n ≡ true → n ≢ Kind.static
        → k ≡ context_of (held b e p x) → kind_in k n (drop (at + 1) s) ≡ parse (layout_in (held b e p x)) (drop at s)
    kind_parsed n k en im ns ek =
        kind-read s at n (context_of (held b e p x)) _ l en im ns (ap (λ (y : Context). kind_in y n (drop (at + 1) s)) ek)

    pub parsed-refused : (n : ℕ) (left : List ℕ) → refused n left ≡ parse (layout_in (held b e p x)) (drop at s)
        → read_message (held b e p x) (drop at s) ≡ refused n (drop at s)
    unfolding scene_with
    parsed-refused n left q = message-refused (held b e p x) s at going n left q

    module _ (vs : List Value) (to : ℕ) (q : found vs (drop to s) ≡ parse (layout_in (held b e p x)) (drop at s)) where
      pub parsed_moved : (t : Scene) → apply (held b e p x) (fill (held b e p x) vs) ≡ t
          → (form : List ℕ) → normal_bytes messages normal_message (held b e p x) vs ≡ form → Moved s (held b e p x) at t to form
      unfolding scene_with
      parsed_moved t f form g = record { values = vs; read = message-found (held b e p x) s at going vs (drop to s) q; scene = f; normal = g }

      -- The bytes that it was read from.
      pub parsed-bytes : Bytes s → write_message (held b e p x) vs ≡ take (to - at) (drop at s)
      unfolding scene_with
      parsed-bytes h =
          copied s at to (write_message (held b e p x) vs) l
          (message_lawful.sound (held b e p x) (drop at s) vs (drop to s) (drop-bytes at s h)
          (message-found (held b e p x) s at going vs (drop to s) q)).tiles

    -- ---- an update

    held_updated : (i : ℕ) (r : Record) → held b (set e i r) (set p i true) x ≡ with_tables (updated (held b e p x) i (record_numbers r)) (held b e p x)
    unfolding scene_with
    held_updated i r =
        λ j. scene_with (record {
          baselines = map baseline_numbers b;
          records = set_seen record_numbers e i r _ refl j;
          present = set p i true;
          present_count = count_set p i j;
        }) x

    -- The bytes of an update of entity i to a record.
    abbrev pub update_form : ℕ → Record → List ℕ
    update_form i r = print (layout_in (held b e p x)) (send_update (baseline_numbers (get_or b i no_baseline)) (number i ∷ record_values r))

    update-normal : (i : ℕ) (r : Record) (vs : List Value) → fill (held b e p x) vs ≡ number Kind.update ∷ number i ∷ record_values r
        → normal_bytes messages normal_message (held b e p x) vs ≡ update_form i r
    unfolding scene_with normal write_message
    update-normal i r vs f =
        ap (λ (m : List Value). print (layout_in (held b e p x)) (normal (held b e p x) m)) f
        ∙ ap (λ (y : List ℕ). print (layout_in (held b e p x)) (send_update y (number i ∷ record_values r))) (sym (seen_at baseline_numbers b i no_baseline))

    module _ (n : ℕ) (en : n ≡ get_or s at 0) (large : 128 ≤ n) where
      pub update_parsed : put (number n) (parse (update_layout n) (drop (at + 1) s)) ≡ parse (layout_in (held b e p x)) (drop at s)
      update_parsed =
          update_arm (context_of (held b e p x)) n (drop (at + 1) s) _ large refl
          ∙ kind_parsed n (context_of (held b e p x)) en
          (is-message n (λ z. omega arith) (λ z. omega arith) (λ y z. omega arith)) (λ z. omega arith) refl

      module _ (h : Bytes s) (u : Update) (to : ℕ)
          (q : found (update_values u) (drop to s) ≡ put (number n) (parse (update_layout n) (drop (at + 1) s))) where
        allowed : Allowed (layout_in (held b e p x)) (update_values u)
        allowed = read-allowed s at (layout_in (held b e p x)) (update_values u) (drop to s) (q ∙ update_parsed) h

        numbered : is_update u.number ≡ true
        numbered = read_numbered s at (context_of (held b e p x)) (M.Update u) (drop to s) h (q ∙ update_parsed) u refl

        pub update-known : u.entity.0 < entity_count
        unfolding layout
        update-known =
            let r : UpdateRead [] u.number (tail (update_values u)) =
            update-read [] u.number (tail (update_values u))
            (subst (λ (y : Rattle.format.specs.Layout.Layout). Allowed y (tail (update_values u))) (kind-update (context_of (held b e p x)) u.number numbered) allowed.2) in
            let y : number u.high ∷ number u.entity.0 ∷ tail (tail (tail (update_values u))) ≡ number r.high ∷ number r.entity ∷ r.fields = r.all in
            let w : u.entity.0 ≡ r.entity = cc in
            subst (λ (k : ℕ). k < entity_count) (sym w) r.known

        entity_moved : (r : Record)
            → number Kind.update ∷ number u.entity.0 ∷ record_values r
            ≡ fill_update (baseline_numbers (get_or b u.entity.0 no_baseline)) u.number (tail (update_values u))
            → Moved s (held b e p x) at (held b (set e u.entity.0 r) (set p u.entity.0 true) x) to (update_form u.entity.0 r)
        unfolding scene_with
        entity_moved r f =
            let t = held b e p x in
            let i = u.entity.0 in
            let seen = seen_at baseline_numbers b i no_baseline in
            parsed_moved (update_values u) to (q ∙ update_parsed) _
            (sym (held_updated i r
            ∙ update_applied t u r (baseline_numbers (get_or b i no_baseline)) (leb-true 128 u.number numbered) seen f))
            _ (update-normal i r (update_values u)
            (fill-update t u.number (tail (update_values u)) numbered ∙ ap (λ (y : List ℕ). fill_update y u.number (tail (update_values u))) (sym seen) ∙ sym f))

        -- Where code names the entity's number otherwise.
        pub update_moved : (i : ℕ) → i ≡ u.entity.0 → (r : Record)
            → number Kind.update ∷ number u.entity.0 ∷ record_values r ≡ fill_update (baseline_numbers (get_or b i no_baseline)) u.number (tail (update_values u))
            → Moved s (held b e p x) at (held b (set e i r) (set p i true) x) to (update_form i r)
        update_moved i same r f =
            subst (λ (j : ℕ). Moved s (held b e p x) at (held b (set e j r) (set p j true) x) to (update_form j r)) (sym same)
            (entity_moved r (f ∙ ap (λ (j : ℕ). fill_update (baseline_numbers (get_or b j no_baseline)) u.number (tail (update_values u))) same))

    -- An update by its values as sent, its record being filled in already.
    module _ (n : ℕ) (en : n ≡ get_or s at 0) (large : 128 ≤ n) (high i : ℕ) (sent : List Value) (to : ℕ) (r : Record)
        (q : parse (update_layout n) (drop (at + 1) s) ≡ found (number high ∷ number i ∷ sent) (drop to s))
        (f : fill_update (baseline_numbers (get_or b i no_baseline)) n (number high ∷ number i ∷ sent) ≡ number Kind.update ∷ number i ∷ record_values r) where
      filled-read : read_message (held b e p x) (drop at s) ≡ found (number n ∷ number high ∷ number i ∷ sent) (drop to s)
      unfolding scene_with
      filled-read =
          let t = held b e p x in
          let us : List Value = number high ∷ number i ∷ sent in
          message-found t s at going (number n ∷ us) (drop to s) (ap (put (number n)) (sym q) ∙ update_parsed n en large)

      pub filled_moved : Moved s (held b e p x) at (held b (set e i r) (set p i true) x) to (update_form i r)
      unfolding scene_with apply
      filled_moved =
          let t = held b e p x in
          let us : List Value = number high ∷ number i ∷ sent in
          let filled : fill t (number n ∷ us) ≡ number Kind.update ∷ number i ∷ record_values r =
          fill-update t n us (le-leb 128 n large) ∙ ap (λ (y : List ℕ). fill_update y n us) (sym (seen_at baseline_numbers b i no_baseline)) ∙ f in
          record {
            values = number n ∷ us;
            read = filled-read;
            scene = ap (apply t) filled
                ∙ sym (held_updated i r);
            normal = update-normal i r (number n ∷ us) filled;
          }

      -- Where it is its own normal form, its bytes are those that it was read from.
      pub kept_form : Bytes s → send_update (baseline_numbers (get_or b i no_baseline)) (number i ∷ record_values r) ≡ number n ∷ number high ∷ number i ∷ sent
          → update_form i r ≡ take (to - at) (drop at s)
      unfolding write_message
      kept_form h same =
          let t = held b e p x in
          ap (print (layout_in t)) same
          ∙ copied s at to (write_message t (number n ∷ number high ∷ number i ∷ sent)) l
          (message_lawful.sound t (drop at s) (number n ∷ number high ∷ number i ∷ sent) (drop to s) (drop-bytes at s h) filled-read).tiles

    -- ---- a time, and clientdata

    pub time_moved : Bytes s → (v : ℕ) (y : Rest) (to : ℕ) → found (number 7 ∷ number v ∷ []) (drop to s) ≡ parse (layout_in (held b e p x)) (drop at s)
        → ((t : Tables) → scene_with (unmarked t) y ≡ apply (scene_with t x) (number Kind.time ∷ number v ∷ []))
        → Moved s (held b e p x) at (held b e (replicate entity_count false) y) to (take (to - at) (drop at s))
    unfolding fill normal
    time_moved h v y to q g =
        parsed_moved (number 7 ∷ number v ∷ []) to q _
        (sym (g (held_tables b e p)) ∙ ap (λ (n : ℕ). scene_with (record {
          baselines = map baseline_numbers b;
          records = map record_numbers e;
          present = replicate entity_count false;
          present_count = n;
        }) y) (sym (count_none entity_count)))
        _ (parsed-bytes (number 7 ∷ number v ∷ []) to q h)

    -- The bytes of clientdata.
    abbrev pub client_form : Client → List ℕ
    client_form k = print (layout_in (held b e p x)) (send_client (client_values k))

    -- Where it is its own normal form, likewise.
    pub kept-client : Bytes s → (k : Client) (to : ℕ) → found (send_client (client_values k)) (drop to s) ≡ parse (layout_in (held b e p x)) (drop at s)
        → client_form k ≡ take (to - at) (drop at s)
    unfolding write_message
    kept-client h k to q = parsed-bytes (send_client (client_values k)) to q h

    pub client_moved : (us : List Value) (k : Client) (y : Rest) (to : ℕ)
        → found (number 15 ∷ us) (drop to s) ≡ parse (layout_in (held b e p x)) (drop at s)
        → number Kind.clientdata ∷ client_values k ≡ fill_client us
        → ((t : Tables) → scene_with t y ≡ apply (scene_with t x) (number Kind.clientdata ∷ client_values k))
        → Moved s (held b e p x) at (held b e p y) to (client_form k)
    unfolding normal write_message
    client_moved us k y to q f g =
        let filled : fill (held b e p x) (number 15 ∷ us) ≡ number Kind.clientdata ∷ client_values k = fill-client (held b e p x) us ∙ sym f in
        parsed_moved (number 15 ∷ us) to q _
        (ap (apply (held b e p x)) filled ∙ sym (g (held_tables b e p)))
        _ (ap (λ (m : List Value). print (layout_in (held b e p x)) (normal (held b e p x) m)) filled)

    -- ---- a sound

    -- The bytes of a sound.
    abbrev pub sound_form : Sound → List ℕ
    sound_form v = print (layout_in (held b e p x)) (send_sound (tail (fill_sound (sound_values v))))

    pub sound_moved : (v : Sound) (to : ℕ) → found (number Kind.sound ∷ sound_values v) (drop to s) ≡ parse (layout_in (held b e p x)) (drop at s)
        → Moved s (held b e p x) at (held b e p x) to (sound_form v)
    unfolding scene_with apply fill normal write_message
    sound_moved v to q = parsed_moved (number Kind.sound ∷ sound_values v) to q _ refl _ refl

    -- ---- a message that is passed

    pub passed_parsed : (n : ℕ) → is_passed n ≡ true → n ≡ get_or s at 0 → (k : Context) → k ≡ context_of (held b e p x)
        → kind_in k n (drop (at + 1) s) ≡ parse (layout_in (held b e p x)) (drop at s)
    passed_parsed n y en k ek =
        kind_parsed n k en (each-passed (λ (m : ℕ). is_message m ≡ true) refl refl refl refl refl refl refl n y)
        (each-passed (λ (m : ℕ). m ≢ Kind.static) (λ z. omega arith) (λ z. omega arith) (λ z. omega arith) (λ z. omega arith) (λ z. omega arith) (λ z. omega arith) (λ z. omega arith) n y)
        ek

    pub passed_moved : Bytes s → (n : ℕ) → is_passed n ≡ true → (us : List Value) (to : ℕ)
        → found (number n ∷ us) (drop to s) ≡ parse (layout_in (held b e p x)) (drop at s)
        → Moved s (held b e p x) at (held b e p x) to (take (to - at) (drop at s))
    passed_moved h n y us to q =
        parsed_moved (number n ∷ us) to q _ (passed_still (held b e p x) us n y)
        _ (passed_form (held b e p x) us n y ∙ parsed-bytes (number n ∷ us) to q h)

    -- ---- another message

    module _ (k : Context) (ek : k ≡ context_of (held b e p x)) where
      pub other_parsed : parse (layout k) (drop at s) ≡ parse (layout_in (held b e p x)) (drop at s)
      other_parsed = ap (λ (y : Context). parse (layout y) (drop at s)) ek

      module _ (h : Bytes s) (m : Sent) (to : ℕ) (read : found (values_to s (place_in s (drop to s)) m) (drop to s) ≡ parse (layout k) (drop at s)) where
        q : found (values_of s m) (drop to s) ≡ parse (layout k) (drop at s)
        q = read_values s at k m to read

        pub baseline-known : (i : Entity) (o : Look) (r : Pose) → m ≡ M.Baseline i o r → i.0 < entity_count
        unfolding layout kind_layout
        baseline-known i o r f =
            entity-known i.0
            (subst (λ (y : Sent). Allowed (layout_in (held b e p x)) (values_of s y)) f
            (read-allowed s at (layout_in (held b e p x)) (values_of s m) (drop to s) (q ∙ other_parsed) h)).2.1

        first : (n : ℕ) (us : List Value) → values_of s m ≡ number n ∷ us → n ≡ get_or s at 0
        first n us g = read_number_lem s at n k us (drop to s) l (sym (ap (λ (vs : List Value). found vs (drop to s)) g) ∙ q)

        -- Of a number that is no sound's, no clientdata's and no update's: it is its own normal form.
        module _ (n6 : Kind.sound ≢ get_or s at 0) (n15 : 15 ≢ get_or s at 0) (low : get_or s at 0 < 128) where
          no-update : (u : Update) → m ≡ M.Update u → ⊥
          no-update u g =
              let w = first u.number _ (ap (values_of s) g) in omega (arith, leb-true 128 u.number (read_numbered s at k m (drop to s) h q u g))

          abbrev pub other_form : List ℕ
          other_form = take (to - at) (drop at s)

          other_moved : (t : Scene) → apply (held b e p x) (fill (held b e p x) (values_of s m)) ≡ t → Moved s (held b e p x) at t to other_form
          other_moved t f =
              parsed_moved (values_of s m) to (q ∙ other_parsed) t f _
              (plain_form (held b e p x) (placed s) m (not_at 5 m (λ y g. n6 (first Kind.sound _ (ap (values_of s) g)))) (not_at 14 m (λ y g. n15 (first 15 _ (ap (values_of s) g)))) (not_at update_place m (λ y. no-update y.0))
              ∙ parsed-bytes (values_of s m) to (q ∙ other_parsed) h)

          pub baseline_moved : (i : Entity) (o : Look) (r : Pose) → m ≡ M.Baseline i o r
              → Moved s (held b e p x) at (held (set b i.0 (record { look = o; pose = r })) e p x) to other_form
          unfolding scene_with apply fill
          baseline_moved i o r f =
              let t = held b e p x in
              other_moved _
              (sym (ap (λ (l : List (List ℕ)). with_baselines l t)
              (set_seen baseline_numbers b i.0 (record { look = o; pose = r }) _ refl)
              ∙ matched t (placed s) m (M.Baseline i o r) f))

          pub serverinfo_moved : (i : Serverinfo) (t : Scene) → m ≡ M.Serverinfo i → t ≡ cleared i.limit → Moved s (held b e p x) at t to other_form
          unfolding apply fill
          serverinfo_moved i t f g =
              other_moved t (sym (g ∙ matched (held b e p x) (placed s) m (M.Serverinfo i) f))

          pub rest_moved : ((i : Serverinfo) → m ≡ M.Serverinfo i → ⊥) → ((i : Entity) (o : Look) (r : Pose) → m ≡ M.Baseline i o r → ⊥)
              → 7 ≢ get_or s at 0 → (y : Rest)
              → ((t : Tables) → Numbered m → scene_with no_tables y ≡ with_tables no_tables (apply (scene_with t x) (fill (scene_with t x) (values_of s m))))
              → Moved s (held b e p x) at (held b e p y) to other_form
          unfolding scene_with
          rest_moved ns nb n7 y f =
              let t = held b e p x in
              let numbered : Numbered m = read_numbered s at k m (drop to s) h q in
              let kept = tables_kept t (placed s) m
              (record {
                time = λ v g. n7 (first 7 _ (ap (values_of s) g));
                serverinfo = ns;
                baseline = nb;
                update = λ u g. no-update u g;
              }) in
              other_moved _
              (sym (rest_joined (apply t (fill t (values_of s m))) y (tables_in t) (f (tables_in t) numbered) kept))
