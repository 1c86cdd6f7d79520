-- What the entries over one message answer, in the definitions' terms.
use Rattle.std.specs.Prelude.{List, ℕ, Option, None, Some, Result, Ok, Err}
use Rattle.format.specs.declared.refusal.Refused.{Refused}
use Rattle.format.specs.Refusals.{number_of}
use Rattle.dem.specs.Scene.{Scene as Described}
use Rattle.dem.specs.Message.{Message as Values}
use Rattle.format.specs.Answer.{Answer, result, at_end, refusal, Item, Reply as Told, reply, Written, written, Normalised}
use Rattle.dem_types.specs.Places.{values_to}
use Rattle.dem_scene.specs.Views.{scene_of, filled_by}
use Rattle.dem_messages.specs.declared.Found.{Found}
use Rattle.dem_messages.specs.declared.Normal.{Normal}
use Rattle.dem_messages.specs.declared.Reply.{Reply}

-- ---- any entry

-- A result as the definitions see it, or a refusal by its number and place.
abbrev pub answer_by : {A B : Type 0} → (A → B) → Result A Refused → Answer B
answer_by f (Ok a) = result (f a)
answer_by f (Err r) = refusal (number_of r.refusal) r.place

-- The same, where "end" is answered too.
abbrev pub item_by : {A B : Type 0} → (A → B) → Result (Option A) Refused → Answer B
item_by f (Ok (Some a)) = result (f a)
item_by f (Ok None) = at_end
item_by f (Err r) = refusal (number_of r.refusal) r.place

-- With the scene handed back.
abbrev pub reply_by : {A B : Type 0} → (Result A Refused → Answer B) → Reply A → Told Described B
reply_by view r = reply (scene_of r.scene) (view r.answer)

-- With what the room holds afterwards.
abbrev pub written_by : {A B : Type 0} → (Result A Refused → Answer B) → Reply A → List ℕ → Written Described B
written_by view r room = written (reply_by view r) room

-- ---- those over one message

-- Strings are at their places in the input s, in front of what follows the message.
abbrev pub item_of : List ℕ → Found → Item Values Values
item_of s f = record { sent = values_to s f.next f.message; filled = filled_by (values_to s f.next) f.filled; next = f.next }

abbrev pub answer_of : List ℕ → Result (Option Found) Refused → Answer (Item Values Values)
answer_of s = item_by (item_of s)

abbrev pub reply_of : List ℕ → Reply (Option Found) → Told Described (Item Values Values)
reply_of s = reply_by (answer_of s)

abbrev pub count_of : Result ℕ Refused → Answer ℕ
count_of = answer_by (λ n. n)

abbrev pub written_of : Reply ℕ → List ℕ → Written Described ℕ
written_of = written_by count_of

abbrev pub normalised_of : Normal → Normalised
normalised_of n = record { length = n.length; next = n.next }

abbrev pub normal_answer_of : Result (Option Normal) Refused → Answer Normalised
normal_answer_of = item_by normalised_of

abbrev pub normal_reply_of : Reply (Option Normal) → List ℕ → Written Described Normalised
normal_reply_of = written_by normal_answer_of
