-- The normal form of one message: where a mask says which fields are sent it is written anew, else it is the bytes that were read; and
-- what an entry leaves in the room.
-- Assumes nothing.
use mathlib.Core.Path.{◌≡◌, sym, ap, ◌∙◌}
use mathlib.Core.Logic.{◌≢◌}
use mathlib.Core.List.{List, ◌∷◌, ◌++◌}
use mathlib.Core.Bool.{Bool, true, false, cond}
use Prim.Native.Nat.{ℕ, ◌≤◌}
use native.Mathlib.Omega.{arith}
use lib.Dec.{ltb}
use lib.ListN.{length, drop, length-take}
use Rattle.format.specs.Bytes.{Bytes}
use Rattle.dem.specs.Kind
use Rattle.format.specs.Layout.{Value, number, print, tail}
use Rattle.dem.specs.Scene.{Scene, context_of, baseline_at}
use Rattle.dem.specs.Message.{layout_in, fill_update, fill_client, fill_sound, send_update, send_client, send_sound, fill, normal}
use Rattle.dem.specs.Message.{normal as normal_message}
use Rattle.format.specs.Codec.{normal_bytes}
use Rattle.dem.specs.Recording.{write_message, messages}
use Rattle.dem.specs.WellFormed.{GoodMessage}
use Rattle.format.proofs.CallLaws.{FoundItem}
use Rattle.format.specs.Answer.{Answer, result, refusal, Reply, reply, Item, Written, written, into_room, Normalised, normal_of, normal_at}
use Rattle.format.specs.Refusal.{code, short_room}
use Rattle.format.specs.Refusals.{number_of}
use Rattle.format.specs.declared.refusal.Refused.{Refused}
use Rattle.format.proofs.ResultLaws.{clash}
use Rattle.std.specs.Prelude.{Option, Some, Result, Ok, Err}
use Rattle.dem.specs.Answer.{message_at}
use Rattle.dem.proofs.MessageLaws.{fill-update, fill-client}
use Rattle.wire.specs.Reads.{placed}
use Rattle.wire.specs.declared.Text.{Text}
use Rattle.dem_types.proofs.ByNumber.{update_place, not_at}
use Rattle.dem_types.specs.declared.Message.{Message as Sent}
use Rattle.dem_types.specs.declared.Message.TheVariants as M
use Rattle.dem_types.specs.declared.Clientdata.{Clientdata}
use Rattle.dem_types.specs.declared.Sound.{Sound}
use Rattle.dem_types.specs.declared.Update.{Update}
use Rattle.dem_types.specs.Places.{values_to}
use Rattle.dem_types.specs.Values.{values_of, values_by, sound_values, update_values, client_values as sent_client_values}
use Rattle.dem_scene.specs.Views.{Numbered, baseline_numbers, record_values, client_values, filled_sound_values, scene_of, filled_by}
use Rattle.dem_scene.specs.declared.Baseline.{Baseline}
use Rattle.dem_scene.specs.declared.Client.{Client}
use Rattle.dem_scene.specs.declared.FilledSound.{FilledSound}
use Rattle.dem_scene.specs.declared.Record.{Record}
use Rattle.dem_scene.specs.declared.Scene.{Scene as Held}
use Rattle.dem_normal.specs.Put.{Put}
use Rattle.dem_normal.proofs.PlainForm.{plain_form}
use Rattle.dem_normal.proofs.SoundBytes.{sound-sent}
use Rattle.dem_messages.specs.Replies.{answer_of, reply_of}
use Rattle.dem_messages.specs.Steps.{chosen, Puts}
use Rattle.dem_messages.specs.declared.Found.{Found}
use Rattle.dem_messages.specs.declared.Reply.{Reply as Answered}
use Rattle.dem_messages.proofs.Messages.{found-reply-at}
use Rattle.dem_messages.proofs.Writing.{allowed_numbered}

module _ (before form : List ℕ) (size : ℕ) (read bytes : List ℕ) (p : Put before form 0 size bytes) where
  pub put_within : size ≤ length form
  put_within = omega (arith, p.2, ap length p.0, length-take size form)

  put_chosen : bytes ≡ chosen (Some size) read form
  put_chosen = sym p.0

module _ (t : Scene) (f : Text → List ℕ) (m : Sent) (before form : List ℕ) (size : ℕ) where
  abbrev Chosen : Type 0
  Chosen = normal_bytes messages normal_message t (values_by f m) ≡ chosen (Some size) (write_message t (values_by f m)) form

  pub client_chosen : (d : Clientdata) (k : Client) → m ≡ M.Clientdata d → number Kind.clientdata ∷ client_values k ≡ fill_client (sent_client_values d)
      → Put before form 0 size (print (layout_in t) (send_client (client_values k))) → Chosen
  unfolding normal write_message
  client_chosen d k e g p =
      ap (λ (n : Sent). print (layout_in t) (normal t (fill t (values_by f n)))) e
      ∙ ap (λ (vs : List Value). print (layout_in t) (normal t vs)) (fill-client t (sent_client_values d) ∙ sym g)
      ∙ put_chosen before form size (print (layout_in t) (values_by f m)) _ p

  pub update_chosen : Numbered m → (u : Update) (b : Baseline) (r : Record) → m ≡ M.Update u → baseline_numbers b ≡ baseline_at t u.entity.0
      → number Kind.update ∷ number u.entity.0 ∷ record_values r ≡ fill_update (baseline_numbers b) u.number (tail (update_values u))
      → Put before form 0 size (print (layout_in t) (send_update (baseline_numbers b) (number u.entity.0 ∷ record_values r))) → Chosen
  unfolding normal write_message
  update_chosen n u b r e h g p =
      let i = u.entity.0 in
      let us = tail (update_values u) in
      ap (λ (n : Sent). print (layout_in t) (normal t (fill t (values_by f n)))) e
      ∙ ap (λ (vs : List Value). print (layout_in t) (normal t vs))
      (fill-update t u.number us (n u e) ∙ ap (λ (x : List ℕ). fill_update x u.number us) (sym h) ∙ sym g)
      ∙ ap (λ (x : List ℕ). print (layout_in t) (send_update x (number i ∷ record_values r))) (sym h)
      ∙ put_chosen before form size (print (layout_in t) (values_by f m)) _ p

  pub sound_chosen : (v : Sound) (k : FilledSound) → m ≡ M.Sound v → number Kind.sound ∷ filled_sound_values k ≡ fill_sound (sound_values v)
      → Put before form 0 size (print (layout_in t) (send_sound (filled_sound_values k))) → Chosen
  unfolding normal fill write_message
  sound_chosen v k e g p =
      ap (λ (n : Sent). normal_bytes messages normal_message t (values_by f n)) e ∙ sym (sound-sent (context_of t) v k g)
      ∙ put_chosen before form size (write_message t (values_by f m)) _ p

-- Of a message that is none of the three.
pub none_chosen : (t : Scene) (f : Text → List ℕ) (m : Sent) → ((d : Clientdata) → m ≢ M.Clientdata d) → ((u : Update) → m ≢ M.Update u)
    → ((v : Sound) → m ≢ M.Sound v) → normal_bytes messages normal_message t (values_by f m) ≡ write_message t (values_by f m)
none_chosen t f m client update sound =
    plain_form t f m (not_at 5 m (λ x e. sound x.0 e)) (not_at 14 m (λ x e. client x.0 e)) (not_at update_place m (λ x e. update x.0 e))

-- ---- into the room

-- A number of bytes, and the next place.
abbrev told : Scene → ℕ → ℕ → Reply Scene Normalised
told u n next = reply u (result (record { length = n; next = next }))

-- What is put into room, as the whole answer has it: a scene and the next place go with the bytes.
module _ (t u : Scene) (bytes room out : List ℕ) (next : ℕ) where
  put-told : (n : ℕ) → Puts bytes room (Ok n) out → written (told u n next) out ≡ into_room t (told u (length bytes) next) bytes room
  put-told n = go (ltb (length room) (length bytes))
    where
      go : (x : Bool)
          → written (reply (tt {0}) (result n)) out
          ≡ cond x (written (reply (tt {0}) (refusal (code short_room) (length bytes))) room) (written (reply (tt {0}) (result (length bytes))) (bytes ++ drop (length bytes) room))
          → written (told u n next) out
          ≡ cond x (written (reply t (refusal (code short_room) (length bytes))) room) (written (told u (length bytes) next) (bytes ++ drop (length bytes) room))
      go true e = let z = ap (λ (w : Written (Unit {0}) ℕ). w.answer) e in clash (cc)
      go false e =
          let z : ◌≡◌ {A = Answer ℕ} (result n) (result (length bytes)) = ap (λ (w : Written (Unit {0}) ℕ). w.answer) e in
          let k : n ≡ length bytes = cc in
          λ i. written (told u (k i) next) ((e i).room)

  put-refused : (r : Refused) → Puts bytes room (Err r) out
      → written (reply t (refusal (number_of r.refusal) r.place)) out ≡ into_room t (told u (length bytes) next) bytes room
  put-refused r = go (ltb (length room) (length bytes))
    where
      go : (x : Bool)
          → written (reply (tt {0}) (refusal (number_of r.refusal) r.place)) out
          ≡ cond x (written (reply (tt {0}) (refusal (code short_room) (length bytes))) room) (written (reply (tt {0}) (result (length bytes))) (bytes ++ drop (length bytes) room))
          → written (reply t (refusal (number_of r.refusal) r.place)) out
          ≡ cond x (written (reply t (refusal (code short_room) (length bytes))) room) (written (told u (length bytes) next) (bytes ++ drop (length bytes) room))
      go true e =
          let z : ◌≡◌ {A = Answer ℕ} (refusal (number_of r.refusal) r.place) (refusal (code short_room) (length bytes)) = ap (λ (w : Written (Unit {0}) ℕ). w.answer) e in
          let j : number_of r.refusal ≡ code short_room = cc in
          let k : r.place ≡ length bytes = cc in
          λ i. written (reply t (refusal (j i) (k i))) ((e i).room)
      go false e = let z = ap (λ (w : Written (Unit {0}) ℕ). w.answer) e in clash (cc)

-- ---- the message at a place

module _ (scene : Held) (s : List ℕ) (at : ℕ) (room : List ℕ) (r : Answered (Option Found)) (read : reply_of s r ≡ message_at (scene_of scene) s at) where
  -- What the reader's answer says of the normal form.
  pub answered : (a : Result (Option Found) Refused) → r.answer ≡ a
      → normal_of messages normal_message (scene_of scene) s (scene_of r.scene) room (answer_of s a) ≡ normal_at messages normal_message (scene_of scene) s at room
  unfolding normal_at
  answered a e =
      ap (λ (q : Reply Scene (Item (List Value) (List Value))). normal_of messages normal_message (scene_of scene) s q.scene room q.answer)
      (ap (λ (x : Result (Option Found) Refused). reply (scene_of r.scene) (answer_of s x)) (sym e) ∙ read)

  module _ (bytes : Bytes s) (f : Found) (was : r.answer ≡ Ok (Some f)) where
    abbrev item : Item (List Value) (List Value)
    item = record { sent = values_of s f.message; filled = filled_by (values_to s f.next) f.filled; next = f.next }

    pub it : FoundItem messages GoodMessage (scene_of scene) s at (scene_of r.scene) item
    it = found-reply-at (scene_of scene) s at bytes r f read was

    pub place_after_lem : (at ≤ f.next) × (f.next ≤ length s)
    place_after_lem = (omega (arith, it.on), it.within)

    pub numbered : Numbered f.message
    numbered = allowed_numbered (context_of (scene_of scene)) (placed s) f.message it.good.allowed

    -- With the bytes of its normal form, into room.
    abbrev form : List ℕ
    form = normal_bytes messages normal_message (scene_of scene) (values_of s f.message)

    formed : into_room (scene_of scene) (told (scene_of r.scene) (length form) f.next) form room ≡ normal_at messages normal_message (scene_of scene) s at room
    formed =
        let t = scene_of scene in
        ap (λ (vs : List Value). into_room t (told (scene_of r.scene) (length (write_message t (normal t vs))) f.next) (write_message t (normal t vs)) room) (sym it.filled)
        ∙ answered (Ok (Some f)) was

    module _ (out : List ℕ) where
      pub formed-told : (n : ℕ) → Puts form room (Ok n) out
          → written (told (scene_of r.scene) n f.next) out ≡ normal_at messages normal_message (scene_of scene) s at room
      formed-told n e = put-told (scene_of scene) (scene_of r.scene) form room out f.next n e ∙ formed

      pub formed-refused : (q : Refused) → Puts form room (Err q) out
          → written (reply (scene_of scene) (refusal (number_of q.refusal) q.place)) out ≡ normal_at messages normal_message (scene_of scene) s at room
      formed-refused q e = put-refused (scene_of scene) (scene_of r.scene) form room out f.next q e ∙ formed
