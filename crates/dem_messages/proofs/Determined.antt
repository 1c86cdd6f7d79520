-- The promises of the entries over one message fix every answer: two replies that code can hold and that meet one promise are the same; and
-- with a refusal and at the end, the scene handed back is the very scene given.
-- Assumes nothing.
use mathlib.Core.Path.{◌≡◌, sym, ap, subst, ◌∙◌}
use mathlib.Core.List.{List}
use Prim.Native.Nat.{ℕ}
use Rattle.format.specs.Bytes.{Bytes}
use Rattle.dem.specs.Scene.{Scene as Described}
use Rattle.dem.specs.Message.{Message as Values}
use Rattle.format.specs.Codec.{Codec}
use Rattle.dem.specs.Recording.{messages}
use Rattle.format.specs.Answer.{Answer, reply, normal_at}
use Rattle.dem.specs.Answer.{message_at, write_sent}
use Rattle.format.proofs.GivenLaws.{GivenBack, given_through, Replied, Wrote, item_given, form_given}
use Rattle.dem.proofs.GivenLaws.{sent_given}
use Rattle.wire.proofs.FieldLaws.{Held, Fixed}
use Rattle.dem_scene.specs.declared.Scene.{Scene}
use Rattle.dem_scene.specs.Views.{scene_of}
use Rattle.dem_scene.specs.contracts.Scene as SceneType
use Rattle.dem_scene.proofs.Back.{scene_fixed}
use denote.RattleType.{RattleType}
use denote.Builtin.{usize}
use Rattle.std.specs.Prelude.{Option, Result}
use Rattle.std.specs.contracts.option.Option as OptionType
use Rattle.std.specs.contracts.result.Result as ResultType
use Rattle.format.specs.declared.refusal.Refused.{Refused}
use Rattle.format.specs.contracts.refusal.Refused as RefusedType
use Rattle.dem_messages.specs.Replies.{reply_by, written_by, answer_of, reply_of, count_of, written_of, normal_answer_of, normal_reply_of}
use Rattle.dem_messages.specs.declared.Found.{Found}
use Rattle.dem_messages.specs.declared.Normal.{Normal}
use Rattle.dem_messages.specs.declared.Reply.{Reply}
use Rattle.dem_messages.specs.contracts.Found as FoundType
use Rattle.dem_messages.specs.contracts.Normal as NormalType
use Rattle.dem_messages.specs.contracts.Reply as ReplyType
use Rattle.dem_messages.proofs.Answers.{count_from, count_back, normal_from, normal_back}
use Rattle.dem_messages.proofs.FoundBack.{answer_determined}

-- The rows of the replies for a message, of those that write, and of those that write normal forms.
abbrev pub MessageRow : RattleType
MessageRow = ReplyType.the_row (OptionType.the_row FoundType.the_row)

abbrev pub WriteRow : RattleType
WriteRow = ReplyType.the_row usize

abbrev pub NormalRow : RattleType
NormalRow = ReplyType.the_row (OptionType.the_row NormalType.the_row)

-- What is seen of an answer fixes it.
pub answer_fixed : {A B : Type 0} (view : B → Answer A) (undo : Answer A → B) → ((b : B) → undo (view b) ≡ b) → (a b : B) → view a ≡ view b → a ≡ b
answer_fixed view undo undone a b e = sym (undone a) ∙ ap undo e ∙ undone b

-- ---- replies: an answer and a scene

module _ (R : RattleType) (r : Reply R.Denot) (h : Held (ReplyType.the_row R) r) where
  pub held_scene : Held SceneType.the_row r.scene
  held_scene = (_, h.1.1.1.1.0)

  pub held_answer : Held (ResultType.the_row R RefusedType.the_row) r.answer
  held_answer = (_, h.1.1.1.0)

module _ (R : RattleType) {B : Type 0} (view : Result R.Denot Refused → Answer B) (undo : Answer B → Result R.Denot Refused)
    (undone : (a : Result R.Denot Refused) → undo (view a) ≡ a) where
  pub reply_fixed : Fixed (ReplyType.the_row R) (reply_by view)
  reply_fixed r q h k e =
      let answer = answer_fixed view undo undone r.answer q.answer (λ i. (e i).answer) in
      let scene = scene_fixed r.scene q.scene (held_scene R r h) (held_scene R q k) (λ i. (e i).scene) in
      λ i. record { answer = answer i; scene = scene i }

  -- With what the room holds.
  pub reply-room_fixed : (r q : Reply R.Denot) (room room' : List ℕ) → Held (ReplyType.the_row R) r → Held (ReplyType.the_row R) q
      → written_by view r room ≡ written_by view q room' → (r ≡ q) × (room ≡ room')
  reply-room_fixed r q room room' h k e = (reply_fixed r q h k (λ i. reply (e i).scene (e i).answer), λ i. (e i).room)

pub write_fixed : (r q : Reply ℕ) (room room' : List ℕ) → Held WriteRow r → Held WriteRow q → written_of r room ≡ written_of q room'
    → (r ≡ q) × (room ≡ room')
write_fixed = reply-room_fixed usize count_of count_from count_back

pub normal_fixed : (r q : Reply (Option Normal)) (room room' : List ℕ) → Held NormalRow r → Held NormalRow q
    → normal_reply_of r room ≡ normal_reply_of q room' → (r ≡ q) × (room ≡ room')
normal_fixed = reply-room_fixed (OptionType.the_row NormalType.the_row) normal_answer_of normal_from normal_back

-- A message's reply, by its promise: what was found lies where the promise says.
pub message_determined : (t : Described) (s : List ℕ) (at : ℕ) → Bytes s → (r q : Reply (Option Found)) → Held MessageRow r
    → Held MessageRow q → reply_of s r ≡ message_at t s at → reply_of s q ≡ message_at t s at → r ≡ q
message_determined t s at bytes r q h k e f =
    let R = OptionType.the_row FoundType.the_row in
    let a = answer_determined t s at bytes r.answer q.answer (held_answer R r h) (held_answer R q k) (λ i. (e i).answer) (λ i. (f i).answer) in
    let both = e ∙ sym f in
    let u = scene_fixed r.scene q.scene (held_scene R r h) (held_scene R q k) (λ i. (both i).scene) in
    λ i. record { answer = a i; scene = u i }

-- ---- the scene given

module _ (scene : Scene) (held : Held SceneType.the_row scene) where
  abbrev t : Described
  t = scene_of scene

  -- Where the definitions hand back the scene that they see, code hands back the very scene.
  pub very-scene : {A : Type 0} (u : Scene) → Held SceneType.the_row u → (a : Answer A) → GivenBack t (scene_of u) a → GivenBack scene u a
  very-scene u k = given_through scene_of scene u (scene_fixed u scene k held)

  pub message_given : (r : Reply (Option Found)) (s : List ℕ) (at : ℕ) → Held MessageRow r → reply_of s r ≡ message_at t s at
      → GivenBack scene r.scene (answer_of s r.answer)
  message_given r s at h e =
      very-scene r.scene (held_scene (OptionType.the_row FoundType.the_row) r h) (answer_of s r.answer) (subst (Replied t) (sym e) (item_given messages t s at))

  pub write_given : (r : Reply ℕ) (m : Values) (room room' : List ℕ) → Held WriteRow r → written_of r room' ≡ write_sent t m room
      → GivenBack scene r.scene (count_of r.answer)
  write_given r m room room' h e = very-scene r.scene (held_scene usize r h) (count_of r.answer) (subst (Wrote t) (sym e) (sent_given t m room))

  -- Of a message or a block.
  pub normal_given : {A B : Type 0} (c : Codec Described A B) (normal : Described → B → A) (r : Reply (Option Normal)) (s : List ℕ) (at : ℕ)
      (room room' : List ℕ) → Held NormalRow r → normal_reply_of r room' ≡ normal_at c normal t s at room
      → GivenBack scene r.scene (normal_answer_of r.answer)
  normal_given c normal r s at room room' h e =
      very-scene r.scene (held_scene (OptionType.the_row NormalType.the_row) r h) (normal_answer_of r.answer) (subst (Wrote t) (sym e) (form_given c normal t s at room))
