-- `dem_messages::put_message` meets its contract: the tests in document 01's order, then the bytes of its pieces.
use mathlib.Core.Path.{◌≡◌, refl, sym, ap, ◌∙◌}
use mathlib.Core.Bool.{true}
use Prim.Native.Nat.{ℕ}
use native.Mathlib.Omega.{arith}
use lib.ListN.{length}
use Rattle.std.specs.Prelude.{Result, Err}
use Rattle.std.proofs.lemmas.Result.{err_from_is_err_and}
use Rattle.format.specs.Answer.{refusal, reply, written}
use Rattle.format.specs.Layout.{print, allows}
use Rattle.format.specs.declared.refusal.Refused.{Refused}
use Rattle.dem.specs.Message.{layout, layout_in}
use Rattle.dem.specs.Scene.{Scene as Described, Context, context_of as numbers_of, in_range}
use Rattle.dem.proofs.RangeLaws.{range→}
use Rattle.dem_types.specs.Values.{values_by}
use Rattle.dem_scene.specs.Views.{scene_with, scene_of, tables_of}
use Rattle.dem_writer.specs.Bytes.{pieces_bytes}
use Rattle.dem_writer.proofs.SizeLaws.{message-size}
use Rattle.wire.specs.Reads.{placed}
use Rattle.dem_messages.specs.Steps.{write_step}
use Rattle.dem_messages.proofs.Asked.{asked-ok, room-ok, room-refused}
use Rattle.dem_messages.proofs.Writing.{write-ended, write_unreadable, short-reply, done-reply, placed_texts, allowed_numbered}
use Rattle.dem_messages.proofs.put_message.Goals.{After-pieces_of-pieces, In_ok-ask_at}
use Rattle.dem_messages.proofs.put_message.Goals as goal

-- ---- what was tested

in-range : (c : In_ok-ask_at) → in_range (scene_of c.args.scene.now) ≡ true
in-range c = (asked-ok (in_range (scene_of c.args.scene.now)) c.args.text.now 0 c.in_ok-ask_at.ensures.value).0

module _ (c : After-pieces_of-pieces) where
  abbrev t : Described
  t = scene_of c.args.scene.now

  allowed : allows (layout_in t) (values_by (placed c.args.text.now) c.args.message) ≡ true
  allowed =
      sym (c.is_allowed.ensures ∙ ap (λ (k : Context). allows (layout k) (values_by (placed c.args.text.now) c.args.message)) (c.context.ensures (tables_of c.args.scene.now)))
      ∙ c.if-not-is_allowed.false

  -- The pieces' bytes are the message's.
  printed : pieces_bytes c.args.text.now c.pieces_of-pieces.result ≡ print (layout_in t) (values_by (placed c.args.text.now) c.args.message)
  printed = c.pieces_of-pieces.ensures (numbers_of t) c.args.text.now (placed c.args.text.now) (placed_texts c.args.text.now) allowed

-- ---- the answers

pub returns-then-scene-clause-value : goal.returns-then-scene-clause-value
unfolding scene_with
returns-then-scene-clause-value c =
    sym (write-ended (scene_of c.args.scene.now) _ c.args.room.now (in-range (goal.at.returns-then-scene-clause-value c).In_ok-ask_at) c.if-scene.true)

pub returns-then-not-is_allowed-clause-value : goal.returns-then-not-is_allowed-clause-value
unfolding scene_with
returns-then-not-is_allowed-clause-value c =
    let a = c.args in
    sym (write_unreadable (scene_of a.scene.now) _ a.room.now (in-range (goal.at.returns-then-not-is_allowed-clause-value c).In_ok-ask_at) c.if-scene.false
    (sym (c.is_allowed.ensures ∙ ap (λ (k : Context). allows (layout k) (values_by (placed a.text.now) a.message)) (c.context.ensures (tables_of a.scene.now)))
    ∙ c.if-not-is_allowed.true))

pub size_of-requires : goal.size_of-requires
size_of-requires c =
    let p = goal.at.size_of-requires c in
    omega (arith, ap length (printed p.After-pieces_of-pieces), message-size (numbers_of (scene_of c.args.scene.now)) _ (allowed p.After-pieces_of-pieces))

pub returns-in_err-ask_room-clause-value : goal.returns-in_err-ask_room-clause-value
unfolding scene_with
returns-in_err-ask_room-clause-value c =
    let a = c.args in
    let p = (goal.at.returns-in_err-ask_room-clause-value c).After-pieces_of-pieces in
    let r = room-refused (length a.room.now) c.size_of.result _ _ c.in_err-ask_room.ensures in
    let q = err_from_is_err_and c.from_residual-in_err-ask_room.result c.from_residual-in_err-ask_room.ensures.1 in
    ap (λ (x : Result ℕ Refused). written (write_step (t p) (values_by (placed a.text.now) a.message) x) a.room.now) (q.1 ∙ ap Err q.2)
    ∙ (λ j. written (reply (t p) (refusal (r.1 j) (r.2 j))) a.room.now)
    ∙ short-reply (t p) (values_by (placed a.text.now) a.message) a.room.now (in-range (goal.at.returns-in_err-ask_room-clause-value c).In_ok-ask_at) c.if-scene.false
    (allowed p) (c.size_of.ensures ∙ ap length (printed p)) r.0

pub returns-clause-value : goal.returns-clause-value
unfolding scene_with
returns-clause-value c =
    let a = c.args in
    let p = (goal.at.returns-clause-value c).After-pieces_of-pieces in
    let u = c.put_pieces in
    done-reply (t p) (values_by (placed a.text.now) a.message) a.room.now (in-range (goal.at.returns-clause-value c).In_ok-ask_at) c.if-scene.false (allowed p)
    refl (printed p) u.ensures.next u.ensures.put
    (omega (arith, c.size_of.ensures, room-ok (length a.room.now) c.size_of.result c.in_ok-ask_room.ensures, ap length (printed p)))

pub returns-clause-good : goal.returns-clause-good
unfolding scene_with
returns-clause-good c =
    let i = goal.at.returns-clause-good c in (
      omega (arith, (range→ (scene_of c.args.scene.now) (in-range i.In_ok-ask_at)).statics),
      c.in_ok-ask_at.ensures.bound,
      allowed_numbered (numbers_of (scene_of c.args.scene.now)) (placed c.args.text.now) c.args.message (allowed i.After-pieces_of-pieces),
    )
