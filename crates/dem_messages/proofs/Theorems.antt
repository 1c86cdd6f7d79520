-- What the promises of two entries say together: a message that was read and is written back has the same bytes.
-- Assumes nothing.
use mathlib.Core.Path.{◌≡◌, refl, sym, ap, ◌∙◌}
use mathlib.Core.List.{List, ◌++◌}
use Prim.Native.Nat.{ℕ, ◌-◌, ◌≤◌}
use native.Mathlib.Omega.{arith}
use lib.ListN.{length, take, drop}
use Rattle.format.specs.Bytes.{Bytes}
use Rattle.dem.specs.Scene.{Scene as Described}
use Rattle.dem.specs.Message.{Message as Values, fill, apply}
use Rattle.dem.specs.WellFormed.{GoodMessage}
use Rattle.dem.specs.Recording.{write_message, messages}
use Rattle.format.specs.Answer.{Answer, result, Item, Written}
use Rattle.dem.specs.Answer.{message_at, write_sent}
use Rattle.format.proofs.CallLaws.{FoundItem}
use Rattle.dem_types.specs.Places.{values_to}
use Rattle.dem_types.specs.Values.{values_of}
use Rattle.dem_scene.specs.declared.Scene.{Scene}
use Rattle.dem_scene.specs.Views.{scene_of, filled_by}
use Rattle.dem_messages.specs.Replies.{reply_of, count_of, written_of}
use Rattle.std.specs.Prelude.{Option, Some, Ok}
use Rattle.dem_messages.specs.declared.Found.{Found}
use Rattle.dem_messages.specs.declared.Reply.{Reply}
use Rattle.dem_messages.proofs.Messages.{found-reply-at}
use Rattle.dem_messages.proofs.Writing.{done, done-reply}

abbrev count_of_lem : Written Described ℕ → Answer ℕ
count_of_lem w = w.answer

abbrev room_of : Written Described ℕ → List ℕ
room_of w = w.room

abbrev written-scene : Written Described ℕ → Described
written-scene w = w.scene

module _ (scene : Scene) (s : List ℕ) (at : ℕ) (bytes : Bytes s) (r : Reply (Option Found)) (f : Found)
    (read : reply_of s r ≡ message_at (scene_of scene) s at) (was : r.answer ≡ Ok (Some f)) where
  abbrev t : Described
  t = scene_of scene

  abbrev item : Item Values Values
  item = record { sent = values_of s f.message; filled = filled_by (values_to s f.next) f.filled; next = f.next }

  -- The reader found it.
  it : FoundItem messages GoodMessage t s at (scene_of r.scene) item
  it = found-reply-at t s at bytes r f read was

  -- The same bytes are written, what is behind them in the room stays, and the scene after it is the same.
  pub written_back : (w : Reply ℕ) (room room' : List ℕ)
      → written_of w room' ≡ write_sent t (values_of s f.message) room → f.next - at ≤ length room
      → (count_of w.answer ≡ result (f.next - at)) × (room' ≡ take (f.next - at) (drop at s) ++ drop (f.next - at) room)
      × (scene_of w.scene ≡ scene_of r.scene)
  unfolding write_message
  written_back w room room' wrote h =
      let long : f.next - at ≡ length (write_message t (values_of s f.message)) = omega (arith, it.next) in
      let size : f.next - at ≡ length (take (f.next - at) (drop at s)) = long ∙ ap length (sym it.bytes) in
      let x : written_of w room' ≡ done (apply t (fill t (values_of s f.message))) (f.next - at) (take (f.next - at) (drop at s) ++ drop (f.next - at) room) =
      wrote
      ∙ sym (done-reply t (values_of s f.message) room it.range it.good.going it.good.allowed refl it.bytes size
      (ap (λ (j : ℕ). take (f.next - at) (drop at s) ++ drop j room) size) (omega (arith, long))) in
      (ap count_of_lem x, ap room_of x, ap written-scene x ∙ sym (it.after ∙ ap (apply t) it.filled))
