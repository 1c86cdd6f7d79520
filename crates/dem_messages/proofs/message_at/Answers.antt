-- `dem_messages::message_at` meets its contract: the tests in document 01's order, then what the reader answers.
use mathlib.Core.Path.{◌≡◌, sym, ap, ◌∙◌}
use mathlib.Core.Bool.{true}
use Prim.Native.Nat.{ℕ, ◌<◌, ◌≤◌}
use native.Mathlib.Omega.{arith}
use lib.ListN.{length, drop}
use Rattle.format.specs.Layout.{parse}
use Rattle.dem.specs.Scene.{Context, context_of as numbers_of, in_range}
use Rattle.dem_parts.specs.Kinds.{context_of}
use Rattle.dem_parts.specs.declared.Context.{Context as Numbers}
use Rattle.dem.specs.Message.{layout, layout_in}
use Rattle.dem.specs.Recording.{messages}
use Rattle.format.proofs.AnswerLaws.{item_end}
use Rattle.dem_scene.specs.Views.{Tables, scene_of, tables_of, scene_with}
use Rattle.dem_messages.proofs.Asked.{asked-ok}
use Rattle.dem_messages.proofs.Messages.{ended-reply, refused-reply, found-reply}
use Rattle.dem_messages.proofs.message_at.Goals.{Else-at-bytes}
use Rattle.dem_messages.proofs.message_at.Goals as goal

before_end : {m n : ℕ} → (m ≡ n → ⊥) → m ≤ n → m < n
before_end {m} {n} p h = omega arith

inside : (c : Else-at-bytes) → c.args.at < length c.args.bytes.now
inside c = before_end c.if-at-bytes.false (asked-ok (in_range (scene_of c.args.scene.now)) c.args.bytes.now c.args.at c.in_ok-ask_at.ensures.value).1

-- The numbers that the layout depends on are the scene's.
read-in : (c : Else-at-bytes) (x : Numbers) → ((t : Tables) → context_of x ≡ numbers_of (scene_with t c.args.scene.now.rest))
    → parse (layout (context_of x)) (drop c.args.at c.args.bytes.now) ≡ parse (layout_in (scene_of c.args.scene.now)) (drop c.args.at c.args.bytes.now)
read-in c x h = ap (λ (k : Context). parse (layout k) (drop c.args.at c.args.bytes.now)) (h (tables_of c.args.scene.now))

-- The scene is in range, and the place in the input.
asked : (c : Else-at-bytes) → (in_range (scene_of c.args.scene.now) ≡ true) × (c.args.at ≤ length c.args.bytes.now)
asked c = asked-ok (in_range (scene_of c.args.scene.now)) c.args.bytes.now c.args.at c.in_ok-ask_at.ensures.value

pub returns-then-at-bytes-clause-value : goal.returns-then-at-bytes-clause-value
returns-then-at-bytes-clause-value c =
    let a = c.args in
    let k = asked-ok (in_range (scene_of a.scene.now)) a.bytes.now a.at c.in_ok-ask_at.ensures.value in
    sym (item_end messages (scene_of a.scene.now) a.bytes.now a.at k.0 c.if-at-bytes.true)

pub returns-then-scene-clause-value : goal.returns-then-scene-clause-value
unfolding scene_with
returns-then-scene-clause-value c =
    let a = c.args in
    let e = (goal.at.returns-then-scene-clause-value c).Else-at-bytes in
    sym (ended-reply (scene_of a.scene.now) a.bytes.now a.at (asked e).0 (inside e) c.if-scene.true)

pub returns-in-Ok-clause-value : goal.returns-in-Ok-clause-value
unfolding scene_with
returns-in-Ok-clause-value c =
    let a = c.args in
    let e = (goal.at.returns-in-Ok-clause-value c).Else-at-bytes in
    sym (found-reply (scene_of a.scene.now) a.bytes.now a.at (asked e).0 (inside e) c.if-scene.false c.in-Ok.message c.in-Ok.next c.min.result c.min.ensures
    (c.in-Ok.ensures ∙ read-in e c.context.result c.context.ensures))

pub returns-in-Err-clause-value : goal.returns-in-Err-clause-value
unfolding scene_with
returns-in-Err-clause-value c =
    let a = c.args in
    let e = (goal.at.returns-in-Err-clause-value c).Else-at-bytes in
    sym (refused-reply (scene_of a.scene.now) a.bytes.now a.at (asked e).0 (inside e) c.if-scene.false c.in-Err.r
    (c.in-Err.ensures ∙ read-in e c.context.result c.context.ensures))
