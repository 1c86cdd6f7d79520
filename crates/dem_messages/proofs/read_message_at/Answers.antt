-- `dem_messages::read_message_at` meets its contract: the message that stands there is filled in, and leads to the scene after it.
use mathlib.Core.Path.{◌≡◌, sym, ap, ◌∙◌}
use mathlib.Core.List.{List}
use Prim.Native.Nat.{ℕ}
use native.Mathlib.Omega.{arith}
use Rattle.std.specs.Prelude.{Some, Ok}
use Rattle.format.specs.Bytes.{Bytes}
use Rattle.format.specs.Layout.{Value}
use Rattle.format.specs.Answer.{reply, result}
use Rattle.format.proofs.ByteLaws.{bytes_of}
use Rattle.format.proofs.CallLaws.{FoundItem}
use Rattle.dem.specs.Answer.{message_at}
use Rattle.dem.specs.Scene.{Scene as Described, context_of}
use Rattle.dem.specs.Message.{fill, apply}
use Rattle.dem.specs.Recording.{messages}
use Rattle.dem.specs.WellFormed.{GoodMessage}
use Rattle.dem.proofs.RangeLaws.{range→}
use Rattle.wire.specs.Reads.{placed}
use Rattle.dem_types.specs.Places.{values_to}
use Rattle.dem_types.specs.Values.{values_of}
use Rattle.dem_scene.specs.Views.{scene_of, scene_with, Numbered}
use Rattle.dem_messages.specs.Steps.{read_step}
use Rattle.dem_messages.proofs.Messages.{found-values, found-item}
use Rattle.dem_messages.proofs.Writing.{allowed_numbered}
use Rattle.dem_messages.proofs.read_message_at.Goals.{In-Ok-Some}
use Rattle.dem_messages.proofs.read_message_at.Goals as goal

-- What was found there, of which an update has an update's number.
module _ (c : In-Ok-Some) where
  abbrev t : Described
  t = scene_of c.args.scene

  abbrev s : List ℕ
  s = c.args.bytes.now

  read : read_step t s (Ok (Some (c.in-Ok-Some.message, c.in-Ok-Some.next))) ≡ message_at t s c.args.at
  read = let h = rw c.in-Ok-Some.field-0-is at c.in-Ok-Some.ensures in h.value

  bytes : Bytes s
  bytes = bytes_of s (λ i. (c.type_inv.bytes i).fits)

  sent : values_to s c.in-Ok-Some.next c.in-Ok-Some.message ≡ values_of s c.in-Ok-Some.message
  sent = found-values t s c.args.at bytes _ c.in-Ok-Some.message _ c.in-Ok-Some.next (sym read)

  it : FoundItem messages GoodMessage t s c.args.at (apply t (fill t (values_to s c.in-Ok-Some.next c.in-Ok-Some.message)))
      (record { sent = values_of s c.in-Ok-Some.message; filled = fill t (values_to s c.in-Ok-Some.next c.in-Ok-Some.message); next = c.in-Ok-Some.next })
  it = found-item t s c.args.at bytes _ c.in-Ok-Some.message _ c.in-Ok-Some.next (sym read)

  numbered : Numbered c.in-Ok-Some.message
  numbered = allowed_numbered (context_of t) (placed s) c.in-Ok-Some.message it.good.allowed

pub scene_after-requires : goal.scene_after-requires
unfolding scene_with
scene_after-requires c =
    let i = it (goal.at.scene_after-requires c).In-Ok-Some in
    let h = rw c.in-Ok-Some.field-0-is at c.in-Ok-Some.ensures in
    (omega (arith, (range→ (scene_of c.args.scene) i.range).statics), h.bound)

pub returns-in-Ok-Some : goal.returns-in-Ok-Some
returns-in-Ok-Some c =
    let i = (goal.at.returns-in-Ok-Some c).In-Ok-Some in
    let n = numbered i in
    let next = c.in-Ok-Some.next in
    let vs = values_to c.args.bytes.now next in
    let e = sent i in
    let after = c.scene_after.ensures n ∙ ap (λ (k : List Value). apply (t i) (fill (t i) k)) (sym e) in
    let filled = c.filled_in.ensures vs (placed c.args.bytes.now) e n ∙ ap (fill (t i)) (sym e) in
    (λ j. reply (after j) (result (record { sent = vs c.in-Ok-Some.message; filled = filled j; next = next }))) ∙ read i
