-- Each kind of message is one step on from its place: by what its reader answered and what was put of it.
use mathlib.Core.Path.{◌≡◌, refl, sym, ◌∙◌, subst}
use mathlib.Core.Bool.{Bool, true, false, ◌&&◌}
use mathlib.Core.Logic.{◌≢◌}
use mathlib.Core.List.{List, [], ◌∷◌, ◌++◌}
use Prim.Native.Nat.{ℕ, ◌+◌, ◌-◌, ◌≤◌, ◌<◌}
use native.Mathlib.Omega.{arith}
use lib.ListN.{length, take, drop, get_or, set, replicate}
use Rattle.dem.specs.Kind
use Rattle.format.specs.Layout.{number, parse, print, tail, put}
use Rattle.dem.specs.Scene.{Context, context_of, cleared}
use Rattle.dem.specs.Limits.{entity_count}
use Rattle.dem.specs.Message.{layout, layout_in, fill_update, fill_sound, send_update, send_sound, send_client, update_layout, fill, apply}
use Rattle.format.proofs.LayoutLaws.{and_true}
use Rattle.format.proofs.ResultLaws.{clash}
use Rattle.format.specs.Bytes.{found, refused}
use Rattle.format.specs.Answer.{place_in}
use Rattle.dem_types.specs.Places.{values_to}
use Rattle.dem_types.specs.Values.{values_of, sound_values, update_values}
use Rattle.dem_types.specs.declared.Entity.{Entity}
use Rattle.dem_types.specs.declared.Look.{Look}
use Rattle.dem_types.specs.declared.Message.{Message as Sent}
use Rattle.dem_types.specs.declared.Message.TheVariants as M
use Rattle.dem_types.specs.declared.Pose.{Pose}
use Rattle.dem_types.specs.declared.Serverinfo.{Serverinfo}
use Rattle.dem_types.specs.declared.Sound.{Sound}
use Rattle.dem_types.specs.declared.Update.{Update}
use Rattle.dem_parts.specs.Kinds.{kind_in}
use Rattle.dem_scene.specs.Views.{Numbered, Tables, no_tables, unmarked, scene_with, scene_of, with_tables, baseline_numbers, record_values, client_values}
use Rattle.dem_scene.specs.declared.Client.{Client}
use Rattle.dem_scene.specs.declared.Record.{Record}
use Rattle.dem_scene.specs.declared.Rest.{Rest}
use Rattle.dem_scene.specs.declared.Scene.{Scene as Given}
use Rattle.dem_direct.specs.Spread.{client_at}
use Rattle.dem_direct.specs.declared.LoadedHead.{LoadedHead}
use Rattle.dem_direct.specs.declared.RecordAt.{RecordAt}
use Rattle.dem_reader.specs.Passed.{is_passed, passed_in}
use Rattle.dem_reader.proofs.Passing.{Passed, passed-read, passed-refused}
use Rattle.dem_normal.specs.Put.{Behind}
use Rattle.dem_blocks.specs.Marks.{marked}
use Rattle.dem_blocks.proofs.Marks.{Before}
use Rattle.dem_blocks.proofs.SoFar.{and_false}
use Rattle.dem_blocks.proofs.Turns.{Moved}
use Rattle.dem_blocks.proofs.Arms.{held, no_baseline, update_parsed, update-known, update_moved, time_moved, ClientRead, client-read, client-refused, kept-client, client_moved, sound_moved, passed_parsed, passed_moved, other_parsed, baseline-known, baseline_moved, serverinfo_moved, cleared-present, rest_moved}
use Rattle.dem_blocks.proofs.Places.{Opened, body, body_bytes, Place, Loaded, Step, present, scene, updated, kind-here, less, kept_step, behind-step, update-step, marked-moved, marked-later, loaded-moved, loaded-less}

-- ---- facts on numbers, each with nothing else in scope: `omega` and `cc` read all that is

sent-always : {X : Type 0} → true ≡ false → X
sent-always e = clash (cc)

no-static-sound : Kind.sound ≢ Kind.static
no-static-sound z = omega arith

no-static-time : Kind.time ≢ Kind.static
no-static-time z = omega arith

no-static-client : Kind.clientdata ≢ Kind.static
no-static-client z = omega arith

module _ {o : Opened} (p : Place o) where
  -- ---- a sound

  module _ (is : Kind.sound ≡ get_or (body o) p.at 0) where
    pub sound-parsed : kind_in (context_of (scene p)) Kind.sound (drop (p.at + 1) (body o)) ≡ parse (layout_in (scene p)) (drop p.at (body o))
    sound-parsed = kind-here p Kind.sound (context_of (scene p)) is refl no-static-sound refl

    pub sound-step : (v : Sound) (to : ℕ)
        → ((x : Context) → found (number Kind.sound ∷ sound_values v) (drop to (body o)) ≡ kind_in x Kind.sound (drop (p.at + 1) (body o)))
        → (filled : List ℕ) (size kept : ℕ)
        → ((x : Context) → Behind o.block.on p.filled filled p.size p.kept size kept to
        (take (p.at - p.kept) (drop p.kept (body o)) ++ print (layout x) (send_sound (tail (fill_sound (sound_values v))))))
        → Step p (scene p) to filled size kept
    sound-step v to read filled size kept b =
        behind-step p _ to _
        (sound_moved (body o) p.at p.inside p.baselines p.records (present p) p.rest p.going v to (read (context_of (scene p)) ∙ sound-parsed))
        _ (λ e. e) (λ on e. sent-always (sym on ∙ e)) filled size kept (b (context_of (scene p)))

  -- ---- a time

  module _ (is : 7 ≡ get_or (body o) p.at 0) (x : Context) (ex : x ≡ context_of (scene p)) where
    pub time-parsed : kind_in x 7 (drop (p.at + 1) (body o)) ≡ parse (layout_in (scene p)) (drop p.at (body o))
    time-parsed = kind-here p 7 x is refl no-static-time ex

    pub time-read : (v to : ℕ) → found (number 7 ∷ number v ∷ []) (drop to (body o)) ≡ kind_in x 7 (drop (p.at + 1) (body o))
        → (y : Rest) → ((t : Tables) → scene_with (unmarked t) y ≡ apply (scene_with t p.rest) (number Kind.time ∷ number v ∷ []))
        → Moved (body o) (scene p) p.at (held p.baselines p.records (replicate entity_count false) y) to (take (to - p.at) (drop p.at (body o)))
    time-read v to read y f =
        time_moved (body o) p.at p.inside p.baselines p.records (present p) p.rest p.going (body_bytes o) v y to (read ∙ time-parsed) f

  -- ---- clientdata

  module _ (is : 15 ≡ get_or (body o) p.at 0) where
    client-parsed : kind_in (context_of (scene p)) 15 (drop (p.at + 1) (body o)) ≡ parse (layout_in (scene p)) (drop p.at (body o))
    client-parsed = kind-here p 15 (context_of (scene p)) is refl no-static-client refl

    pub client-wrong : (n : ℕ) (left : List ℕ) → ((x : Context) → refused n left ≡ client_at (body o) (p.at + 1) x)
        → refused n left ≡ parse (layout_in (scene p)) (drop p.at (body o))
    client-wrong n left read =
        let x = context_of (scene p) in client-refused (body o) (p.at + 1) x n left (read x) ∙ client-parsed

    -- Where nothing was sent needlessly, it is its own normal form.
    module _ (v : Client) (to : ℕ)
        (read : (x : Context) → found (number Kind.clientdata ∷ client_values v) (drop to (body o)) ≡ client_at (body o) (p.at + 1) x) (anew : Bool)
        (stays : (x : Context) → anew ≡ false → found (send_client (client_values v)) (drop to (body o)) ≡ kind_in x Kind.clientdata (drop (p.at + 1) (body o))) where
      client-here : ClientRead (body o) (p.at + 1) (context_of (scene p)) v (drop to (body o))
      client-here = let x = context_of (scene p) in client-read (body o) (p.at + 1) x v (drop to (body o)) (read x)

      pub client-step : (y : Rest) → ((t : Tables) → scene_with t y ≡ apply (scene_with t p.rest) (number Kind.clientdata ∷ client_values v))
          → (filled : List ℕ) (size kept : ℕ)
          → ((x : Context) → Behind (o.block.on && anew) p.filled filled p.size p.kept size kept to
          (take (p.at - p.kept) (drop p.kept (body o)) ++ print (layout x) (send_client (client_values v))))
          → Step p (held p.baselines p.records (present p) y) to filled size kept
      client-step y f filled size kept b =
          behind-step p _ to _
          (client_moved (body o) p.at p.inside p.baselines p.records (present p) p.rest p.going _ v y to (client-here.read ∙ client-parsed) client-here.filled f)
          _ (λ e. (and_true _ _ e).0)
          (λ on e. kept-client (body o) p.at p.inside p.baselines p.records (present p) p.rest p.going (body_bytes o) v to
          (stays (context_of (scene p)) (and_false _ _ on e) ∙ client-parsed))
          filled size kept (b (context_of (scene p)))

  -- ---- a message that is passed

  module _ (passes : is_passed (get_or (body o) p.at 0) ≡ true) (x : Context) (ex : x ≡ context_of (scene p)) where
    pass-parsed : kind_in x (get_or (body o) p.at 0) (drop (p.at + 1) (body o)) ≡ parse (layout_in (scene p)) (drop p.at (body o))
    pass-parsed = passed_parsed (body o) p.at p.inside p.baselines p.records (present p) p.rest p.going (get_or (body o) p.at 0) passes refl x ex

    pub pass-wrong : (n : ℕ) (left : List ℕ) → refused n left ≡ passed_in x (get_or (body o) p.at 0) (drop (p.at + 1) (body o))
        → refused n left ≡ parse (layout_in (scene p)) (drop p.at (body o))
    pass-wrong n left read = passed-refused x (get_or (body o) p.at 0) (drop (p.at + 1) (body o)) n left read ∙ pass-parsed

    pub pass-step : (to : ℕ) → found (tt {0}) (drop to (body o)) ≡ passed_in x (get_or (body o) p.at 0) (drop (p.at + 1) (body o))
        → Step p (scene p) to p.filled p.size p.kept
    pass-step to read =
        let m : Passed x (get_or (body o) p.at 0) (drop (p.at + 1) (body o)) (drop to (body o)) =
        passed-read x (get_or (body o) p.at 0) (drop (p.at + 1) (body o)) (drop to (body o)) read in
        kept_step p (scene p) to _
        (passed_moved (body o) p.at p.inside p.baselines p.records (present p) p.rest p.going (body_bytes o) (get_or (body o) p.at 0) passes m.values to (m.read ∙ pass-parsed))
        (λ on. refl)

  -- ---- another message

  module _ (x : Context) (ex : x ≡ context_of (scene p)) where
    pub other-read : parse (layout x) (drop p.at (body o)) ≡ parse (layout_in (scene p)) (drop p.at (body o))
    other-read = other_parsed (body o) p.at p.inside p.baselines p.records (present p) p.rest p.going x ex

    module _ (m : Sent) (to : ℕ) (read : found (values_to (body o) (place_in (body o) (drop to (body o))) m) (drop to (body o)) ≡ parse (layout x) (drop p.at (body o))) where
      pub baseline-entity : (e : Entity) (l : Look) (r : Pose) → m ≡ M.Baseline e l r → e.0 < entity_count
      baseline-entity e l r f = baseline-known (body o) p.at p.inside p.baselines p.records (present p) p.rest p.going x ex (body_bytes o) m to read e l r f

      module _ (n6 : Kind.sound ≢ get_or (body o) p.at 0) (n15 : 15 ≢ get_or (body o) p.at 0) (low : get_or (body o) p.at 0 < 128) where
        pub baseline-step : (e : Entity) (l : Look) (r : Pose) → m ≡ M.Baseline e l r → (i : ℕ) → i ≡ e.0
            → Step p (held (set p.baselines i (record { look = l; pose = r })) p.records (present p) p.rest) to p.filled p.size p.kept
        baseline-step e l r f i same =
            kept_step p _ to _
            (subst
            (λ (j : ℕ). Moved (body o) (scene p) p.at (held (set p.baselines j (record { look = l; pose = r })) p.records (present p) p.rest) to (take (to - p.at) (drop p.at (body o))))
            (sym same)
            (baseline_moved (body o) p.at p.inside p.baselines p.records (present p) p.rest p.going x ex (body_bytes o) m to read n6 n15 low e l r f))
            (λ on. refl)

        pub serverinfo-read : (i : Serverinfo) → m ≡ M.Serverinfo i → (t : Given) → scene_of t ≡ cleared i.limit
            → Moved (body o) (scene p) p.at (held t.baselines t.records (replicate entity_count false) t.rest) to (take (to - p.at) (drop p.at (body o)))
        serverinfo-read i f t g =
            serverinfo_moved (body o) p.at p.inside p.baselines p.records (present p) p.rest p.going x ex (body_bytes o) m to read n6 n15 low i _ f (cleared-present t _ g)

        pub rest-step : ((i : Serverinfo) → m ≡ M.Serverinfo i → ⊥) → ((e : Entity) (l : Look) (r : Pose) → m ≡ M.Baseline e l r → ⊥)
            → 7 ≢ get_or (body o) p.at 0 → (y : Rest)
            → ((t : Tables) → Numbered m → scene_with no_tables y ≡ with_tables no_tables (apply (scene_with t p.rest) (fill (scene_with t p.rest) (values_of (body o) m))))
            → Step p (held p.baselines p.records (present p) y) to p.filled p.size p.kept
        rest-step ns nb n7 y f =
            kept_step p _ to _
            (rest_moved (body o) p.at p.inside p.baselines p.records (present p) p.rest p.going x ex (body_bytes o) m to read n6 n15 low ns nb n7 y f)
            (λ on. refl)

  -- ---- an update that is loaded and put anew

  module _ (h : LoadedHead) (f : RecordAt) (l : Loaded p h f) where
    pub again-step : o.block.on ≡ true → (filled : List ℕ) (size kept : ℕ)
        → ((x : Context) → Behind true p.filled filled p.size p.kept size kept f.next
        (take (p.at - p.kept) (drop p.kept (body o)) ++ print (layout x) (send_update (baseline_numbers (get_or p.baselines h.index no_baseline)) (number h.head.entity.0 ∷ record_values f.record))))
        → Step p (updated p h f l p.at) f.next filled size kept
    again-step on filled size kept b =
        update-step p _ f.next h.index _ f.record l.head.index
        (loaded-moved p h f l p.at (omega arith) (omega (arith, loaded-less p h f l)))
        true (λ e. on) (λ on e. sent-always e) filled size kept (b (context_of (scene p)))

  -- ---- an update as it was sent

  module _ (large : 128 ≤ get_or (body o) p.at 0) where
    pub sent-read : put (number (get_or (body o) p.at 0)) (parse (update_layout (get_or (body o) p.at 0)) (drop (p.at + 1) (body o)))
        ≡ parse (layout_in (scene p)) (drop p.at (body o))
    sent-read = update_parsed (body o) p.at p.inside p.baselines p.records (present p) p.rest p.going (get_or (body o) p.at 0) refl large

    module _ (u : Update) (to : ℕ)
        (read : found (update_values u) (drop to (body o)) ≡ put (number (get_or (body o) p.at 0)) (parse (update_layout (get_or (body o) p.at 0)) (drop (p.at + 1) (body o)))) where
      -- Its entity is known.
      pub sent-entity : u.entity.0 < entity_count
      sent-entity =
          update-known (body o) p.at p.inside p.baselines p.records (present p) p.rest p.going (get_or (body o) p.at 0) refl large (body_bytes o) u to read

      module _ (i : ℕ) (same : i ≡ u.entity.0) (r : Record)
          (f : number Kind.update ∷ number u.entity.0 ∷ record_values r ≡ fill_update (baseline_numbers (get_or p.baselines i no_baseline)) u.number (tail (update_values u))) where
        sent-moved : Moved (body o) (scene p) p.at (held p.baselines (set p.records i r) (set (present p) i true) p.rest) to
            (print (layout_in (scene p)) (send_update (baseline_numbers (get_or p.baselines i no_baseline)) (number i ∷ record_values r)))
        sent-moved =
            update_moved (body o) p.at p.inside p.baselines p.records (present p) p.rest p.going (get_or (body o) p.at 0) refl large (body_bytes o) u to read i same r f

        sent-ahead : p.at < to
        sent-ahead = omega (arith, less p _ to _ sent-moved)

        pub sent-step : (filled : List ℕ) (size kept : ℕ)
            → ((x : Context) → Behind o.block.on p.filled filled p.size p.kept size kept to
            (take (p.at - p.kept) (drop p.kept (body o)) ++ print (layout x) (send_update (baseline_numbers (get_or p.baselines i no_baseline)) (number u.entity.0 ∷ record_values r))))
            → Step p (held p.baselines (set p.records i r) (marked p.since (set p.marks i p.at)) p.rest) to filled size kept
        sent-step filled size kept b =
            update-step p _ to i _ r same
            (marked-moved p (set p.records i r) i to _ sent-moved p.at (omega arith) (omega (arith, sent-ahead)) (omega (arith, p.inside)))
            _ (λ e. e) (λ on e. sent-always (sym on ∙ e)) filled size kept (b (context_of (scene p)))

        pub sent-later : Before (set p.marks i p.at) p.since to (length (body o))
        sent-later = marked-later p (set p.records i r) i to _ sent-moved p.at (omega arith) (omega (arith, sent-ahead)) (omega (arith, p.inside))
