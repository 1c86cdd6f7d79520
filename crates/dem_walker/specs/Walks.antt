-- A walk over a block's messages: one step, and all of them.
use Rattle.std.specs.Prelude.{List, cond, not, ℕ, ◌+◌, length, Option, None, Some, Ok, Err}
use Rattle.std.specs.Prelude as Rust
use Rattle.format.specs.Refusal.{code, wrong_scene}
use Rattle.format.specs.Refusals.{number_of}
use Rattle.format.specs.declared.refusal.Refused.{Refused}
use Rattle.format.specs.Bytes.{Result, found, refused}
use Rattle.dem.specs.Scene.{Scene, in_range}
use Rattle.dem.specs.Message.{Message}
use Rattle.format.specs.Codec.{read_all, fill_all, apply_all}
use Rattle.format.specs.Answer.{place_in, Answer, result, at_end, refusal, Item, Reply as Told}
use Rattle.dem.specs.Recording.{messages}
use Rattle.dem.specs.Answer.{message_at}
use Rattle.dem_scene.specs.Views.{scene_of}
use Rattle.dem_messages.specs.declared.Found.{Found}
use Rattle.dem_walker.specs.declared.Walked.{Walked}

-- ---- one step

-- The place to go on at: behind an item that is found; at the end and with a refusal, where it was.
abbrev pub moved_to : {A B : Type 0} → ℕ → Answer (Item A B) → ℕ
moved_to at (result i) = i.next
moved_to at at_end = at
moved_to at (refusal n p) = at

-- What is handed out, and the place to go on at.
pub record Stepped : Type 0 where
  pub handed : Told Scene (Item Message Message)
  pub at : ℕ

abbrev pub stepped : Told Scene (Item Message Message) → ℕ → Stepped
stepped r at = record { handed = r; at = at }

abbrev pub step_at : Scene → List ℕ → ℕ → Stepped
step_at s block at = let r = message_at s block at in stepped r (moved_to at r.answer)

-- Told of the reader's answer itself.
abbrev pub place_after : ℕ → Rust.Result (Option Found) Refused → ℕ
place_after at (Ok (Some f)) = f.next
place_after at (Ok None) = at
place_after at (Err r) = at

-- ---- all messages of a block

-- The scene after them, how many they are, and the place behind them, the refusal 0; or a refusal and its place, with the scene given and no
-- message counted.
pub record Walk : Type 0 where
  pub scene : Scene
  pub messages : ℕ
  pub refusal : ℕ
  pub place : ℕ

abbrev pub walk : Scene → ℕ → ℕ → ℕ → Walk
walk s n r p = record { scene = s; messages = n; refusal = r; place = p }

-- What a reading of the rest of a block, in a scene and behind so many messages, says of the walk from the scene given.
abbrev pub walk_from : Scene → List ℕ → Scene → ℕ → Result (List Message) → Walk
walk_from given block s n (found ms rest) = walk (apply_all messages s (fill_all messages s ms)) (n + length ms) 0 (length block)
walk_from given block s n (refused r left) = walk given 0 r (place_in block left)

unfoldable pub walk_all : Scene → List ℕ → Walk
walk_all s block = cond (not (in_range s)) (walk s 0 (code wrong_scene) 0) (walk_from s block s 0 (read_all messages s block))

abbrev pub walked_in : Scene → ℕ → Rust.Result ℕ Refused → Walk
walked_in s n (Ok place) = walk s n 0 place
walked_in s n (Err r) = walk s n (number_of r.refusal) r.place

abbrev pub walked_of : Walked → Walk
walked_of w = walked_in (scene_of w.scene) w.messages w.answer
