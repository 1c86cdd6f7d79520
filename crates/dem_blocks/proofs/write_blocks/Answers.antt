-- `dem_blocks::write_blocks` meets its contract: what is told and written of the run from the start is what is told from here on, inside a
-- block by its messages; each turn is one message, behind a run of updates each of which is one too, and the turns of a block are one block.
use mathlib.Core.Path.{◌≡◌, refl, sym, ap, ap₂, ◌∙◌, subst}
use mathlib.Core.Bool.{Bool, true, false, true≢false, not}
use mathlib.Core.Logic.{◌≢◌}
use mathlib.Core.List.{List, map}
use Prim.Native.Nat.{ℕ, ◌+◌, ◌-◌, ◌≤◌, ◌<◌}
use native.Mathlib.Omega.{arith}
use lib.ListN.{length, take, drop, get_or}
use borrow.Author.Tests.{not-true}
use Rattle.dem.specs.Kind
use Rattle.dem.specs.Scene.{Scene, context_of, in_range}
use Rattle.dem.proofs.RangeLaws.{range→}
use Rattle.dem.specs.Recording.{messages}
use Rattle.format.specs.Codec.{read_all}
use Rattle.std.specs.Prelude.{Option}
use Rattle.format.specs.Bytes.{refused}
use Rattle.format.specs.Layout.{parse}
use Rattle.format.specs.Refusals.{number_of, refusal_in, place_in}
use Rattle.format.specs.declared.refusal.Refused.{Refused}
use Rattle.dem.specs.Message.{layout_in}
use Rattle.dem_framing.proofs.HeadLaws.{block-ended}
use Rattle.dem_scene.specs.Views.{scene_with, scene_of, baseline_numbers, record_numbers}
use Rattle.dem_direct.specs.Heads.{HeadLoaded, FieldsLoaded}
use Rattle.dem_direct.specs.declared.LoadedHead.{LoadedHead}
use Rattle.dem_direct.specs.declared.RecordAt.{RecordAt}
use Rattle.dem_blocks.specs.Runs.{refused_in, Wrote, stored, wrote_of, run_of}
use Rattle.dem_blocks.specs.Marks.{marked}
use Rattle.dem_blocks.proofs.Marks.{within_more, within_bits, marked_bits}
use Rattle.dem_blocks.proofs.SoFar.{far_begins}
use Rattle.dem_blocks.proofs.Turns.{before_stop, head-place, head-refused, run_over}
use Rattle.dem_blocks.proofs.Arms.{held, given_held, no_baseline, ended-refused}
use Rattle.dem_blocks.proofs.Places.{at_block, before, Opened, open_block, end, body, from-here, body-long, refuse-message, Refuses, Answered, Place, Ending, scene, Loaded, less, loaded-read, loaded_on, loaded-less, loaded-later, stop-block, refuse-parsed, turn-less, turned, turned-still, unmarked-less, unmarked, room-long, short-refused, goes_on}
use Rattle.dem_blocks.proofs.Steps.{sound-parsed, sound-step, time-parsed, time-read, client-wrong, client-step, pass-wrong, pass-step, other-read, baseline-entity, baseline-step, serverinfo-read, rest-step, again-step, sent-read, sent-entity, sent-step, sent-later}
use Rattle.dem_blocks.proofs.write_blocks.Goals.{After-context-x, After-end_block, After-loaded_until-reads, In-loop-at-2, In-loop-at-3, In_default-k, Left-loop-blocks, else-loop-blocks-test, in-128-to-255+in-Err-read_update, in-15+in-Err-client_turn, in-6+in-Err-sound_turn, in-7+in-Err-time_at, in_default-k+else-is_passed+in-Err-read_message, in_default-k+then-is_passed+in-Err-pass_message, then-loop-blocks-test+else-rest+in-Err, then-loop-blocks-test+then-rest}
use Rattle.dem_blocks.proofs.write_blocks.Goals as goal

pub loop-blocks-init : goal.loop-blocks-init
loop-blocks-init c =
    let a = c.args in
    let g = c.marks_of-marks in
    let given = a.given in
    let n : a.most ≡ a.most - 0 = omega arith in
    let r : a.room ≡ a.room - 0 = omega arith in
    let ranged = c.requires.1 in
    let same : scene_of given ≡ held given.baselines given.records (marked 0 g.result) given.rest =
    given_held given ranged
    ∙ ap (λ (q : List Bool). held given.baselines given.records q given.rest) (sym (ap (marked 0) g.ensures.value ∙ marked_bits given.present)) in
    record {
      good = refl;
      inside = c.requires.0;
      few = omega arith;
      below = omega arith;
      ranged = subst (λ (t : Scene). in_range t ≡ true) same ranged;
      fits = omega arith;
      room_long = refl;
      body_long = refl;
      marks_within = within_more g.result 1 (a.from + 1) (within_bits given.present g.result g.ensures.value g.ensures.long) (omega arith);
      time_before = omega arith;
      told = λ i. wrote_of (scene_of given) (length a.d.now) (stored a.out.now a.base a.room) a.base 0 0 0 a.out.now (run_of a.on (n i) (r i) (same i) (drop a.from a.d.now));
    }

-- ---- the loop over messages

abbrev opening : (c : goal.After-loaded_until-reads) → Opened
opening c = open_block (at_block c.loop-blocks.invariant c.type_inv.d c.loop-blocks-test.true) c.in-Ok.h c.if-rest.false
    c.in-Ok.ensures.value c.in-Ok.ensures.within

pub loop-at-init : goal.loop-at-init
loop-at-init c =
    let o = opening (goal.at.loop-at-init c).After-loaded_until-reads in
    let b = o.block in
    let i = b.kept in (
      omega (arith, body-long o, i.few),
      omega (arith, body-long o, c.in-Ok.ensures.small),
      i.body_long,
      i.ranged,
      ap (λ (x : List ℕ). from-here o b.messages (before b) x (read_all messages (before b) (drop (b.start + 16) (body o)))) (sym (far_begins (body o) b.on b.body (b.start + 16))),
      omega arith,
      record {
        marks_within = within_more b.marks (b.start + 1) (b.start + 16) i.marks_within (omega arith);
        time_before = omega (arith, i.time_before);
        marks_inside = within_more b.marks (b.start + 1) (length (body o)) i.marks_within (omega (arith, body-long o));
        time_inside = omega (arith, i.time_before, body-long o);
      },
    )

pub returns-then-rest-2 : goal.returns-then-rest-2
returns-then-rest-2 c =
    let o = opening (goal.at.returns-then-rest-2 c).After-loaded_until-reads in
    let k = c.loop-at in
    refuse-message o k.messages (held k.baselines k.records (marked k.since k.marks) k.rest) k.body k.at k.scratch.size k.scratch.kept k.marks k.since k.invariant c.loop-at-test.true 11
    (ended-refused (body o) k.at c.loop-at-test.true k.baselines k.records (marked k.since k.marks) k.rest c.if-rest-2.true)
    c.refused_in.result (c.refused_in.ensures.read_value, c.refused_in.ensures.bytes)

-- ---- an update that is to be written

abbrev open_writing : goal.In-loop-at-2 → Opened
open_writing c = open_block (at_block c.loop-blocks.invariant c.type_inv.d c.loop-blocks-test.true) c.in-Ok.h c.if-rest.false
    c.in-Ok.ensures.value c.in-Ok.ensures.within

-- It is written, and all bytes that it could have are there.
to_write : (c : goal.In-loop-at-2) → (c.args.on ≡ true) × (c.loop-at-2.at < end (open_writing c)) × (c.loop-at-2.at + 18 ≤ length c.args.d.now)
to_write c = before_stop c.args.on (length c.args.d.now) (end (open_writing c)) _ c.loop-at-2.at c.loaded_until-writes.ensures c.loop-at-2-test.true

abbrev writing : (c : goal.In-loop-at-2) → Place (open_writing c)
writing c =
    let k = c.loop-at in
    let l = c.loop-at-2 in
    let i = l.invariant.0 in
    record {
      baselines = k.baselines;
      records = l.records;
      marks = l.marks;
      since = k.since;
      rest = k.rest;
      filled = k.body;
      count = l.messages;
      at = l.at;
      size = k.scratch.size;
      kept = k.scratch.kept;
      reached = (i.0, i.1, i.2, i.3, k.invariant.4 ∙ i.4, i.5, i.6);
      inside = omega (arith, (to_write c).1, body-long (open_writing c));
      going = c.if-rest-2.false;
    }

-- Its head and its fields were loaded, and it ends inside the block.
loaded : {o : Opened} (p : Place o) (h : LoadedHead) (f : RecordAt) → HeadLoaded o.block.d p.at h
    → FieldsLoaded o.block.d h.head (get_or p.baselines h.index no_baseline) f.next f → f.next ≤ end o → Loaded p h f
loaded p h f head fields ends = record { head = head; fields = record { fields = fields.fields; next = fields.next; ends = ends } }

pub loop-at-2-smaller : goal.loop-at-2-smaller
loop-at-2-smaller c =
    let p = writing (goal.at.loop-at-2-smaller c).In-loop-at-2 in
    let h = c.in-Some in
    let f = c.in-Some-needed_fields in
    let l = loaded p h.q f.f h.ensures f.ensures.fields_loaded c.if-end-to.false in
    less p _ f.f.next _ (loaded-read p h.q f.f l)

pub loop-at-2-preserved : goal.loop-at-2-preserved
loop-at-2-preserved c =
    let p = writing (goal.at.loop-at-2-preserved c).In-loop-at-2 in
    let h = c.in-Some in
    let f = c.in-Some-needed_fields in
    let l = loaded p h.q f.f h.ensures f.ensures.fields_loaded c.if-end-to.false in
    let q = loaded_on p h.q f.f l (λ on. (f.ensures.needed, c.if-q.false)) in
    let i = c.loop-at-2.invariant in
    ((q.0, q.1, q.2, q.3, i.0.4 ∙ q.4, q.5, q.6), omega (arith, i.1, loaded-less p h.q f.f l))

-- ---- an update that is only read

abbrev open_reading : goal.In-loop-at-3 → Opened
open_reading c = open_block (at_block c.loop-blocks.invariant c.type_inv.d c.loop-blocks-test.true) c.in-Ok.h c.if-rest.false
    c.in-Ok.ensures.value c.in-Ok.ensures.within

to_read : (c : goal.In-loop-at-3) → (c.args.on ≡ false) × (c.loop-at-3.at < end (open_reading c)) × (c.loop-at-3.at + 18 ≤ length c.args.d.now)
to_read c =
    let w = before_stop (not c.args.on) (length c.args.d.now) (end (open_reading c)) _ c.loop-at-3.at c.loaded_until-reads.ensures c.loop-at-3-test.true in
    (not-true c.args.on w.0, w.1, w.2)

abbrev reading : (c : goal.In-loop-at-3) → Place (open_reading c)
reading c =
    let k = c.loop-at in
    let l = c.loop-at-3 in
    let i = l.invariant.0 in
    record {
      baselines = k.baselines;
      records = l.records;
      marks = l.marks;
      since = k.since;
      rest = k.rest;
      filled = k.body;
      count = l.messages;
      at = l.at;
      size = k.scratch.size;
      kept = k.scratch.kept;
      reached = (i.0, i.1, i.2, i.3, k.invariant.4 ∙ c.loop-at-2.invariant.0.4 ∙ i.4, i.5, i.6);
      inside = omega (arith, (to_read c).1, body-long (open_reading c));
      going = c.if-rest-2.false;
    }

pub loop-at-3-smaller : goal.loop-at-3-smaller
loop-at-3-smaller c =
    let p = reading (goal.at.loop-at-3-smaller c).In-loop-at-3 in
    let h = c.in-Some-load_head in
    let f = c.in-Some-update_fields in
    let l : Loaded p h.q f.f = record { head = h.ensures; fields = f.ensures } in
    less p _ f.f.next _ (loaded-read p h.q f.f l)

pub loop-at-3-preserved : goal.loop-at-3-preserved
loop-at-3-preserved c =
    let r = (goal.at.loop-at-3-preserved c).In-loop-at-3 in
    let p = reading r in
    let h = c.in-Some-load_head in
    let f = c.in-Some-update_fields in
    let l : Loaded p h.q f.f = record { head = h.ensures; fields = f.ensures } in
    let q = loaded_on p h.q f.f l (λ on. absurd (true≢false (sym on ∙ (to_read r).0))) in
    let i = c.loop-at-3.invariant in
    ((q.0, q.1, q.2, q.3, i.0.4 ∙ q.4, q.5, q.6), omega (arith, i.1, loaded-less p h.q f.f l))

pub loop-at-preserved-then-s-at : goal.loop-at-preserved-then-s-at
loop-at-preserved-then-s-at c =
    let i = c.loop-at-3.invariant.0 in
    (i.0, i.1, i.2, i.3, c.loop-at.invariant.4 ∙ c.loop-at-2.invariant.0.4 ∙ i.4, i.5, i.6)

-- ---- another message

abbrev open_message : goal.After-context-x → Opened
open_message c = open_block (at_block c.loop-blocks.invariant c.type_inv.d c.loop-blocks-test.true) c.in-Ok.h c.if-rest.false
    c.in-Ok.ensures.value c.in-Ok.ensures.within

abbrev message : (c : goal.After-context-x) → Place (open_message c)
message c =
    let k = c.loop-at in
    let l = c.loop-at-3 in
    let i = l.invariant.0 in
    record {
      baselines = k.baselines;
      records = l.records;
      marks = l.marks;
      since = k.since;
      rest = k.rest;
      filled = k.body;
      count = l.messages;
      at = l.at;
      size = k.scratch.size;
      kept = k.scratch.kept;
      reached = (i.0, i.1, i.2, i.3, k.invariant.4 ∙ c.loop-at-2.invariant.0.4 ∙ i.4, i.5, i.6);
      inside = c.if-s-at.false;
      going = c.if-rest-2.false;
    }

-- It lies no further back than where the turn began.
ahead : (c : goal.After-context-x) → c.loop-at.at ≤ (message c).at
ahead c = omega (arith, c.loop-at-3.invariant.1, c.loop-at-2.invariant.1)

pub loop-at-smaller-in-Ok-sound_turn : goal.loop-at-smaller-in-Ok-sound_turn
loop-at-smaller-in-Ok-sound_turn c =
    let m = (goal.at.loop-at-smaller-in-Ok-sound_turn c).After-context-x in
    let p = message m in
    let t = c.in-Ok-sound_turn in
    let w = t.t.scratch in
    let s = sound-step p (sym c.in-6.is) t.t.heard t.to t.ensures.value c.sound_turn.new.body w.size w.kept t.ensures.bytes in
    turn-less p _ t.to _ _ _ s c.loop-at.at (ahead m)

pub loop-at-preserved-in-Ok-sound_turn : goal.loop-at-preserved-in-Ok-sound_turn
loop-at-preserved-in-Ok-sound_turn c =
    let m = (goal.at.loop-at-preserved-in-Ok-sound_turn c).After-context-x in
    let p = message m in
    let t = c.in-Ok-sound_turn in
    let w = t.t.scratch in
    let s = sound-step p (sym c.in-6.is) t.t.heard t.to t.ensures.value c.sound_turn.new.body w.size w.kept t.ensures.bytes in
    turned-still p _ t.to _ _ _ s

pub loop-at-smaller-in-Ok-time_at : goal.loop-at-smaller-in-Ok-time_at
loop-at-smaller-in-Ok-time_at c =
    let m = (goal.at.loop-at-smaller-in-Ok-time_at c).After-context-x in
    let p = message m in
    let t = c.in-Ok-time_at in
    let y = c.with_time-rest in
    let mv = time-read p (sym c.in-7.is) _ (c.context-x.ensures _) t.bits t.to t.ensures y.result y.ensures in
    unmarked-less p p.baselines p.records y.result t.to mv c.loop-at.at (ahead m)

pub loop-at-preserved-in-Ok-time_at : goal.loop-at-preserved-in-Ok-time_at
loop-at-preserved-in-Ok-time_at c =
    let m = (goal.at.loop-at-preserved-in-Ok-time_at c).After-context-x in
    let p = message m in
    let t = c.in-Ok-time_at in
    let y = c.with_time-rest in
    let mv = time-read p (sym c.in-7.is) _ (c.context-x.ensures _) t.bits t.to t.ensures y.result y.ensures in
    unmarked p p.baselines p.records y.result t.to mv

pub loop-at-smaller-in-Ok-client_turn : goal.loop-at-smaller-in-Ok-client_turn
loop-at-smaller-in-Ok-client_turn c =
    let m = (goal.at.loop-at-smaller-in-Ok-client_turn c).After-context-x in
    let p = message m in
    let t = c.in-Ok-client_turn in
    let y = c.with_client-rest in
    let w = t.t.scratch in
    let s = client-step p (sym c.in-15.is) t.t.client t.to t.ensures.value t.t.anew t.ensures.kept y.result y.ensures
    c.client_turn.new.body w.size w.kept t.ensures.bytes in
    turn-less p _ t.to _ _ _ s c.loop-at.at (ahead m)

pub loop-at-preserved-in-Ok-client_turn : goal.loop-at-preserved-in-Ok-client_turn
loop-at-preserved-in-Ok-client_turn c =
    let m = (goal.at.loop-at-preserved-in-Ok-client_turn c).After-context-x in
    let p = message m in
    let t = c.in-Ok-client_turn in
    let y = c.with_client-rest in
    let w = t.t.scratch in
    let s = client-step p (sym c.in-15.is) t.t.client t.to t.ensures.value t.t.anew t.ensures.kept y.result y.ensures
    c.client_turn.new.body w.size w.kept t.ensures.bytes in
    turned-still p _ t.to _ _ _ s

pub loop-at-smaller-in-Ok-pass_message : goal.loop-at-smaller-in-Ok-pass_message
loop-at-smaller-in-Ok-pass_message c =
    let m = (goal.at.loop-at-smaller-in-Ok-pass_message c).After-context-x in
    let p = message m in
    let t = c.in-Ok-pass_message in
    let s = pass-step p (sym c.is_passed.ensures ∙ c.if-is_passed.true) _ (c.context-x.ensures _) t.to t.ensures in
    turn-less p _ t.to _ _ _ s c.loop-at.at (ahead m)

pub loop-at-preserved-in-Ok-pass_message : goal.loop-at-preserved-in-Ok-pass_message
loop-at-preserved-in-Ok-pass_message c =
    let m = (goal.at.loop-at-preserved-in-Ok-pass_message c).After-context-x in
    let p = message m in
    let t = c.in-Ok-pass_message in
    let s = pass-step p (sym c.is_passed.ensures ∙ c.if-is_passed.true) _ (c.context-x.ensures _) t.to t.ensures in
    turned-still p _ t.to _ _ _ s

pub bounds-baselines-i-in-Baseline : goal.bounds-baselines-i-in-Baseline
bounds-baselines-i-in-Baseline c =
    let p = message (goal.at.bounds-baselines-i-in-Baseline c).After-context-x in
    let t = c.in-Ok-read_message in
    let b = c.in-Baseline in
    omega (arith, c.index_of-i.ensures, baseline-entity p _ (c.context-x.ensures _) t.message t.to t.ensures b.entity b.look b.pose b.is)

pub apply_rest-rest-requires : goal.apply_rest-rest-requires
unfolding scene_with
apply_rest-rest-requires c = let p = message (goal.at.apply_rest-rest-requires c).After-context-x in omega (arith, (range→ (scene p) p.reached.3).statics)

-- The number of another message: none of a sound, a time or clientdata, and none of an update.
other-number : (c : goal.In_default-k)
    → let n = get_or (take (c.loop-blocks.start + 16 + c.in-Ok.h.size) c.args.d.now) c.loop-at-3.at 0 in
    (Kind.sound ≢ n) × (7 ≢ n) × (15 ≢ n) × (n < 128)
other-number c = ((λ z. omega arith), (λ z. omega arith), (λ z. omega arith), omega arith)

pub loop-at-smaller-in-Baseline : goal.loop-at-smaller-in-Baseline
loop-at-smaller-in-Baseline c =
    let m = (goal.at.loop-at-smaller-in-Baseline c).After-context-x in
    let p = message m in
    let t = c.in-Ok-read_message in
    let n = other-number (goal.at.loop-at-smaller-in-Baseline c).In_default-k in
    let b = c.in-Baseline in
    let i = c.index_of-i in
    let s = baseline-step p _ (c.context-x.ensures _) t.message t.to t.ensures n.0 n.2 n.3 b.entity b.look b.pose b.is i.result i.ensures in
    turn-less p _ t.to _ _ _ s c.loop-at.at (ahead m)

pub loop-at-preserved-in-Baseline : goal.loop-at-preserved-in-Baseline
loop-at-preserved-in-Baseline c =
    let m = (goal.at.loop-at-preserved-in-Baseline c).After-context-x in
    let p = message m in
    let t = c.in-Ok-read_message in
    let n = other-number (goal.at.loop-at-preserved-in-Baseline c).In_default-k in
    let b = c.in-Baseline in
    let i = c.index_of-i in
    let s = baseline-step p _ (c.context-x.ensures _) t.message t.to t.ensures n.0 n.2 n.3 b.entity b.look b.pose b.is i.result i.ensures in
    turned-still p _ t.to _ _ _ s

pub loop-at-smaller-in-Serverinfo : goal.loop-at-smaller-in-Serverinfo
loop-at-smaller-in-Serverinfo c =
    let m = (goal.at.loop-at-smaller-in-Serverinfo c).After-context-x in
    let p = message m in
    let t = c.in-Ok-read_message in
    let n = other-number (goal.at.loop-at-smaller-in-Serverinfo c).In_default-k in
    let i = c.in-Serverinfo in
    let y = c.cleared_scene-clear in
    let g = y.result in
    let mv = serverinfo-read p _ (c.context-x.ensures _) t.message t.to t.ensures n.0 n.2 n.3 i.info i.is g y.ensures in
    unmarked-less p g.baselines g.records g.rest t.to mv c.loop-at.at (ahead m)

pub loop-at-preserved-in-Serverinfo : goal.loop-at-preserved-in-Serverinfo
loop-at-preserved-in-Serverinfo c =
    let m = (goal.at.loop-at-preserved-in-Serverinfo c).After-context-x in
    let p = message m in
    let t = c.in-Ok-read_message in
    let n = other-number (goal.at.loop-at-preserved-in-Serverinfo c).In_default-k in
    let i = c.in-Serverinfo in
    let y = c.cleared_scene-clear in
    let g = y.result in
    let mv = serverinfo-read p _ (c.context-x.ensures _) t.message t.to t.ensures n.0 n.2 n.3 i.info i.is g y.ensures in
    unmarked p g.baselines g.records g.rest t.to mv

pub loop-at-smaller-in_default-message : goal.loop-at-smaller-in_default-message
loop-at-smaller-in_default-message c =
    let m = (goal.at.loop-at-smaller-in_default-message c).After-context-x in
    let p = message m in
    let t = c.in-Ok-read_message in
    let n = other-number (goal.at.loop-at-smaller-in_default-message c).In_default-k in
    let d = c.in_default-message in
    let y = c.apply_rest-rest in
    let s = rest-step p _ (c.context-x.ensures _) t.message t.to t.ensures n.0 n.2 n.3 d.not-Serverinfo d.not-Baseline n.1 y.result y.ensures in
    turn-less p _ t.to _ _ _ s c.loop-at.at (ahead m)

pub loop-at-preserved-in_default-message : goal.loop-at-preserved-in_default-message
loop-at-preserved-in_default-message c =
    let m = (goal.at.loop-at-preserved-in_default-message c).After-context-x in
    let p = message m in
    let t = c.in-Ok-read_message in
    let n = other-number (goal.at.loop-at-preserved-in_default-message c).In_default-k in
    let d = c.in_default-message in
    let y = c.apply_rest-rest in
    let s = rest-step p _ (c.context-x.ensures _) t.message t.to t.ensures n.0 n.2 n.3 d.not-Serverinfo d.not-Baseline n.1 y.result y.ensures in
    turned-still p _ t.to _ _ _ s

pub loop-at-smaller-in-Some-update_fields-2 : goal.loop-at-smaller-in-Some-update_fields-2
loop-at-smaller-in-Some-update_fields-2 c =
    let m = (goal.at.loop-at-smaller-in-Some-update_fields-2 c).After-context-x in
    let p = message m in
    let h = c.in-Some-load_head-2 in
    let f = c.in-Some-update_fields-2 in
    let w = c.put_update_behind-scratch in
    let on = before_stop c.args.on (length c.args.d.now) (end (open_message m)) _ p.at c.loaded_until-writes.ensures c.if-at-writes.true in
    let l : Loaded p h.q f.f = record { head = h.ensures; fields = f.ensures } in
    let s = again-step p h.q f.f l on.0 w.new.out w.result.size w.result.kept w.ensures in
    turn-less p _ f.f.next _ _ _ s c.loop-at.at (ahead m)

pub loop-at-preserved-in-Some-update_fields-2 : goal.loop-at-preserved-in-Some-update_fields-2
loop-at-preserved-in-Some-update_fields-2 c =
    let m = (goal.at.loop-at-preserved-in-Some-update_fields-2 c).After-context-x in
    let p = message m in
    let h = c.in-Some-load_head-2 in
    let f = c.in-Some-update_fields-2 in
    let w = c.put_update_behind-scratch in
    let on = before_stop c.args.on (length c.args.d.now) (end (open_message m)) _ p.at c.loaded_until-writes.ensures c.if-at-writes.true in
    let l : Loaded p h.q f.f = record { head = h.ensures; fields = f.ensures } in
    let s = again-step p h.q f.f l on.0 w.new.out w.result.size w.result.kept w.ensures in
    turned p _ f.f.next _ _ _ s _ _ (loaded-later p h.q f.f l p.at (omega arith) (omega (arith, loaded-less p h.q f.f l)))

pub bounds-baselines-i-in-Ok-read_update : goal.bounds-baselines-i-in-Ok-read_update
bounds-baselines-i-in-Ok-read_update c =
    let m = (goal.at.bounds-baselines-i-in-Ok-read_update c).After-context-x in
    let p = message m in
    let t = c.in-Ok-read_update in
    let large : 128 ≤ get_or (body (open_message m)) p.at 0 = omega arith in
    omega (arith, c.index_of-i-in-Ok-read_update.ensures, sent-entity p large t.update t.to t.ensures)

pub bounds-records-i-in-Ok-read_update : goal.bounds-records-i-in-Ok-read_update
bounds-records-i-in-Ok-read_update c =
    let m = (goal.at.bounds-records-i-in-Ok-read_update c).After-context-x in
    let p = message m in
    let t = c.in-Ok-read_update in
    let large : 128 ≤ get_or (body (open_message m)) p.at 0 = omega arith in
    omega (arith, c.index_of-i-in-Ok-read_update.ensures, sent-entity p large t.update t.to t.ensures)

pub bounds-marks-i-in-Ok-read_update : goal.bounds-marks-i-in-Ok-read_update
bounds-marks-i-in-Ok-read_update c =
    let m = (goal.at.bounds-marks-i-in-Ok-read_update c).After-context-x in
    let p = message m in
    let t = c.in-Ok-read_update in
    let large : 128 ≤ get_or (body (open_message m)) p.at 0 = omega arith in
    omega (arith, c.index_of-i-in-Ok-read_update.ensures, sent-entity p large t.update t.to t.ensures)

pub loop-at-smaller : goal.loop-at-smaller
loop-at-smaller c =
    let m = (goal.at.loop-at-smaller c).After-context-x in
    let p = message m in
    let t = c.in-Ok-read_update in
    let i = c.index_of-i-in-Ok-read_update in
    let w = c.update_turn-w in
    let k = w.result.scratch in
    let large : 128 ≤ get_or (body (open_message m)) p.at 0 = omega arith in
    let s = sent-step p large t.update t.to t.ensures i.result i.ensures w.result.record w.ensures.record_value w.new.body k.size k.kept w.ensures.bytes in
    turn-less p _ t.to _ _ _ s c.loop-at.at (ahead m)

pub loop-at-preserved : goal.loop-at-preserved
loop-at-preserved c =
    let m = (goal.at.loop-at-preserved c).After-context-x in
    let p = message m in
    let t = c.in-Ok-read_update in
    let i = c.index_of-i-in-Ok-read_update in
    let w = c.update_turn-w in
    let k = w.result.scratch in
    let large : 128 ≤ get_or (body (open_message m)) p.at 0 = omega arith in
    let s = sent-step p large t.update t.to t.ensures i.result i.ensures w.result.record w.ensures.record_value w.new.body k.size k.kept w.ensures.bytes in
    turned p _ t.to _ _ _ s _ _ (sent-later p large t.update t.to t.ensures i.result i.ensures w.result.record w.ensures.record_value)

pub returns-in-loop-at : goal.returns-in-loop-at
returns-in-loop-at c =
    let m = (goal.at.returns-in-loop-at c).After-context-x in
    let o = open_message m in
    let p = message m in
    let x = c.context-x.ensures _ in
    let r = c.match-k.r in
    let a = c.refused_in-in-loop-at.result in
    let z : Refuses o (number_of r.refusal) p.at a = (c.refused_in-in-loop-at.ensures.read_value, c.refused_in-in-loop-at.ensures.bytes) in
    -- By the refusal that one of the readers answered.
    let wrong : (e : Refused) → r ≡ e → refused (number_of e.refusal) (drop e.place (body o)) ≡ parse (layout_in (scene p)) (drop p.at (body o)) → Answered o a =
    λ e same q.
    refuse-parsed p (number_of e.refusal) _ q a (subst (λ (e : Refused). Refuses o (number_of e.refusal) p.at a) same z) in
    elim c.match-k.branch [
      | in-6+in-Err-sound_turn w ↦ wrong _ w.r-is (w.in-Err-sound_turn.ensures.value (context_of (scene p)) ∙ sound-parsed p (sym w.in-6.is))
      | in-7+in-Err-time_at w ↦ wrong _ w.r-is (w.in-Err-time_at.ensures ∙ time-parsed p (sym w.in-7.is) _ x)
      | in-15+in-Err-client_turn w ↦ wrong _ w.r-is (client-wrong p (sym w.in-15.is) _ _ w.in-Err-client_turn.ensures.value)
      | in_default-k+then-is_passed+in-Err-pass_message w ↦
          wrong _ w.r-is (pass-wrong p (sym w.is_passed.ensures ∙ w.if-is_passed.true) _ x _ _ w.in-Err-pass_message.ensures)
      | in_default-k+else-is_passed+in-Err-read_message w ↦ wrong _ w.r-is (w.in-Err-read_message.ensures ∙ other-read p _ x)
      | in-128-to-255+in-Err-read_update w ↦
          let large : 128 ≤ get_or (body o) p.at 0 = omega arith in wrong _ w.r-is (w.in-Err-read_update.ensures ∙ sent-read p large)
    ]

-- ---- where a block is at its end

abbrev open_ending : goal.After-end_block → Opened
open_ending c = open_block (at_block c.loop-blocks.invariant c.type_inv.d c.loop-blocks-test.true) c.in-Ok.h c.if-rest.false
    c.in-Ok.ensures.value c.in-Ok.ensures.within

abbrev ending : (c : goal.After-end_block) → Ending (open_ending c)
ending c =
    let k = c.loop-at in
    record {
      count = k.messages;
      state = held k.baselines k.records (marked k.since k.marks) k.rest;
      filled = k.body;
      at = k.at;
      size = k.scratch.size;
      kept = k.scratch.kept;
      marks = k.marks;
      since = k.since;
      reached = k.invariant;
      over = c.loop-at-test.false;
    }

pub returns-in-Err-end_block : goal.returns-in-Err-end_block
returns-in-Err-end_block c =
    let e = ending (goal.at.returns-in-Err-end_block c).After-end_block in
    let r = c.in-Err-end_block.r in
    let s = c.in-Err-end_block.ensures.short in
    let f = c.refused_in-in-Err-end_block in
    short-refused e r.place (ap (λ (r : Refused). r.place) s.0) s.1 c.end_block.new.out s.2 f.result (
      f.ensures.read_value ∙ ap (λ (r' : Refused). refused_in (scene_of c.args.given) c.loop-blocks.blocks c.loop-blocks.start (number_of r'.refusal) r.place) s.0,
      f.ensures.bytes,
    )

pub loop-blocks-preserved : goal.loop-blocks-preserved
loop-blocks-preserved c =
    let m = (goal.at.loop-blocks-preserved c).After-end_block in
    let o = open_ending m in
    let k = c.loop-at in
    let i = k.invariant in
    let n = c.in-Ok-end_block.n in
    let p = c.in-Ok-end_block.ensures.put in
    record {
      good = o.block.kept.good;
      inside = o.within;
      few = omega (arith, i.0);
      below = omega (arith, o.block.more);
      ranged = i.3;
      fits = omega (arith, p.1, o.block.kept.fits);
      room_long = room-long (ending m) n p.0 p.1 c.end_block.new.out p.2;
      body_long = c.end_block.ensures.long ∙ i.2;
      marks_within = within_more k.marks (length (body o)) (end o + 1) i.6.marks_inside (omega (arith, body-long o));
      time_before = omega (arith, i.6.time_inside, body-long o);
      told = goes_on (ending m) n p.0 p.1 c.end_block.new.out p.2;
    }

-- What is told where the loop over blocks is left: no block is to be read, or the one that is there is refused.
left-loop : (c : goal.Left-loop-blocks)
    → let k = c.loop-blocks in
    let a = c.args in
    let r = c.loop-blocks-test.refused in
    record { told = record { scene = held k.baselines k.records (marked k.since k.marks) k.rest; blocks = k.blocks; messages = k.messages; next = k.start; refusal = refusal_in r; place = place_in k.start r }; written = k.written; room = k.out }
    ≡ wrote_of (scene_of a.given) (length a.d.now) (stored a.out.now a.base a.room) a.base 0 0 0 a.out.now (run_of a.on a.most a.room (scene_of a.given) (drop a.from a.d.now))
unfolding scene_with
left-loop c =
    let a = c.args in
    let k = c.loop-blocks in
    let d = a.d.now in
    let t = held k.baselines k.records (marked k.since k.marks) k.rest in
    let s = stored a.out.now a.base a.room in
    let tells : ℕ → ℕ → Wrote = λ n p. record { told = record { scene = t; blocks = k.blocks; messages = k.messages; next = k.start; refusal = n; place = p }; written = k.written; room = k.out } in
    let told : Option Refused → Wrote = λ r. tells (refusal_in r) (place_in k.start r) in
    elim c.loop-blocks-test.branch [
      | else-loop-blocks-test w ↦
          ap told (w.refused-is ∙ k.invariant.good)
          ∙ sym (k.invariant.told
          ∙ run_over (scene_of a.given) d a.on s a.room a.base k.blocks k.messages k.written k.out t k.start a.most k.blocks k.invariant.inside w.loop-blocks-test.false)
      | then-loop-blocks-test+then-rest w ↦
          let b = at_block k.invariant c.type_inv.d w.loop-blocks-test.true in
          ap told w.refused-is ∙ stop-block b 11 (block-ended (before b) (drop k.start d) w.if-rest.true)
      | then-loop-blocks-test+else-rest+in-Err w ↦
          let b = at_block k.invariant c.type_inv.d w.loop-blocks-test.true in
          let r = w.in-Err.r in
          let h = w.in-Err.ensures.value in
          ap told w.refused-is ∙ ap (tells (number_of r.refusal)) (head-place d k.start r h b.more.1)
          ∙ stop-block b (number_of r.refusal) (head-refused d k.start r h (before b) w.if-rest.false)
    ]

pub returns : goal.returns
returns c =
    let k = c.loop-blocks in
    let r = c.loop-blocks-test.refused in
    (λ i. record { told = c.answer.ensures.read_value i; written = c.answer.ensures.bytes i; room = k.out })
    ∙ ap₂ (λ (p : List Bool) (n : ℕ). record { told = record { scene = scene_with (record { baselines = map baseline_numbers k.baselines; records = map record_numbers k.records; present = p; present_count = n }) k.rest; blocks = k.blocks; messages = k.messages; next = k.start; refusal = refusal_in r; place = place_in k.start r }; written = k.written; room = k.out })
    c.present_of.ensures.set_value c.present_of.ensures.count
    ∙ left-loop (goal.at.returns c).Left-loop-blocks
