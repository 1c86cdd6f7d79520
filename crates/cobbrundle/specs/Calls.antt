-- What a caller sees who calls an entry again and again, each time in the scene that the answer before handed back and at the place that it
-- told, until an answer finds nothing more. Of an answer nothing is taken but its promise.
use Rattle.std.specs.Prelude.{◌≡◌, List, [], ◌∷◌, ◌++◌, map, ℕ, ◌+◌, ◌-◌, ◌<◌, take, drop, Option, None, Some, Result, Ok, Err}
use Rattle.std.proofs.Math.Option.{Option as Maybe, none, some}
use Rattle.format.specs.declared.refusal.Refused.{Refused}
use Rattle.dem.specs.Scene.{fresh}
use Rattle.dem.specs.Message.{Message as Values}
use Rattle.dem.specs.Recording.{Block, block_of, blocks, Reading, normal_block}
use Rattle.format.specs.Answer.{normal_at}
use Rattle.dem.specs.Answer.{message_at, outline_at, track_at, track_normal}
use Rattle.dem_types.specs.Places.{values_to}
use Rattle.dem_types.specs.Values.{values_of}
use Rattle.dem_scene.specs.declared.Scene.{Scene}
use Rattle.dem_scene.specs.Views.{scene_of, filled_by}
use Rattle.dem_messages.specs.declared.Found.{Found}
use Rattle.dem_messages.specs.declared.Normal.{Normal}
use Rattle.dem_messages.specs.Replies.{reply_of, normal_reply_of}
use Rattle.dem_recordings.specs.declared.Outline.{Outline}
use Rattle.dem_recordings.specs.declared.Track.{Track}
use Rattle.dem_recordings.specs.Replies.{outline_of, block_reply_of, track_answer_of, track_written_of}

-- How such calls came out.
pub data Outcome : Type 0 where
  to_end to_refusal : Outcome

-- ---- the messages of a block

-- `read_message_at`, called in the scene x on a block's bytes at a place, answers a and hands back the scene y.
abbrev pub ReadsMessage : Scene → List ℕ → ℕ → Result (Option Found) Refused → Scene → Type 0
ReadsMessage x block at a y = reply_of block (record { answer = a; scene = y }) ≡ message_at (scene_of x) block at

-- A call that found a message: the scene and the place given, and what was answered.
pub record MessageCall : Type 0 where
  pub scene : Scene
  pub place : ℕ
  pub found : Found
  pub after : Scene

-- The calls from a scene and a place on, the scene that the last of them handed back, and how they came out.
pub data MessageCalls (block : List ℕ) : Scene → ℕ → List MessageCall → Scene → Outcome → Type 0 where
  no_message : {x y : Scene} {at : ℕ} → ReadsMessage x block at (Ok None) y → MessageCalls block x at [] y to_end
  message_refused : {x y : Scene} {at : ℕ} (r : Refused) → ReadsMessage x block at (Err r) y → MessageCalls block x at [] y to_refusal
  next_message : {c : MessageCall} {cs : List MessageCall} {y : Scene} {o : Outcome}
      → ReadsMessage c.scene block c.place (Ok (Some c.found)) c.after
      → MessageCalls block c.after c.found.next cs y o → MessageCalls block c.scene c.place (c ∷ cs) y o

-- ---- the blocks of a recording

-- `read_block_at`, called in the scene x on a recording at a place, answers a and hands back the scene y.
abbrev pub ReadsBlock : Scene → List ℕ → ℕ → Result (Option Outline) Refused → Scene → Type 0
ReadsBlock x s at a y = block_reply_of (record { answer = a; scene = y }) ≡ outline_at (scene_of x) s at

-- A call that found a block: the scene and the place given, and what was answered; the calls for its messages, and the scene that the last
-- of these handed back.
pub record BlockCall : Type 0 where
  pub scene : Scene
  pub place : ℕ
  pub outline : Outline
  pub after : Scene
  pub messages : List MessageCall
  pub left : Scene

-- A block's message bytes.
abbrev pub bytes_of : List ℕ → Outline → List ℕ
bytes_of s o = take (o.next - o.start) (drop o.start s)

-- The calls from a scene and a place on: each block, and before the next one its messages, in the scene in front of it.
pub data BlockCalls (s : List ℕ) : Scene → ℕ → List BlockCall → Scene → Outcome → Type 0 where
  no_block : {x y : Scene} {at : ℕ} → ReadsBlock x s at (Ok None) y → BlockCalls s x at [] y to_end
  block_refused : {x y : Scene} {at : ℕ} (r : Refused) → ReadsBlock x s at (Err r) y → BlockCalls s x at [] y to_refusal
  within_refused : {b : BlockCall} → ReadsBlock b.scene s b.place (Ok (Some b.outline)) b.after
      → MessageCalls (bytes_of s b.outline) b.scene 0 b.messages b.left to_refusal
      → BlockCalls s b.scene b.place (b ∷ []) b.left to_refusal
  next_block : {b : BlockCall} {bs : List BlockCall} {y : Scene} {o : Outcome}
      → ReadsBlock b.scene s b.place (Ok (Some b.outline)) b.after
      → MessageCalls (bytes_of s b.outline) b.scene 0 b.messages b.left to_end → BlockCalls s b.after b.outline.next bs y o
      → BlockCalls s b.scene b.place (b ∷ bs) y o

-- `read_track`, then `start` and the blocks from the place behind the track line on.
pub data RecordingCalls (s : List ℕ) : Result Track Refused → List BlockCall → Scene → Outcome → Type 0 where
  track_refused : {r : Refused} {x : Scene} → track_answer_of (Err r) ≡ track_at s → scene_of x ≡ fresh → RecordingCalls s (Err r) [] x to_refusal
  behind_track : {t : Track} {x y : Scene} {bs : List BlockCall} {o : Outcome} → track_answer_of (Ok t) ≡ track_at s → scene_of x ≡ fresh
      → BlockCalls s x t.next bs y o → RecordingCalls s (Ok t) bs y o

-- ---- what was handed out

-- Of a message, as sent and filled in.
abbrev pub message_sent : List ℕ → MessageCall → Values
message_sent block c = values_of block c.found.message

abbrev pub message_out : List ℕ → MessageCall → Values
message_out block c = filled_by (values_to block c.found.next) c.found.filled

-- Of a block.
abbrev pub block_sent : List ℕ → BlockCall → Block
block_sent s b = block_of (outline_of b.outline).angles (map (message_sent (bytes_of s b.outline)) b.messages)

abbrev pub block_out : List ℕ → BlockCall → Block
block_out s b = block_of (outline_of b.outline).angles (map (message_out (bytes_of s b.outline)) b.messages)

-- Of a recording, if the calls came to its end.
abbrev pub recording_out : List ℕ → Result Track Refused → List BlockCall → Outcome → Maybe Reading
recording_out s (Ok t) bs to_end = some (record { track = t.number; blocks = map (block_out s) bs })
recording_out s (Ok t) bs to_refusal = none
recording_out s (Err r) bs o = none

-- ---- what holds of each call

abbrev pub Every : {A : Type 0} → (A → Type 0) → List A → Type 0
Every P [] = Unit {0}
Every P (a ∷ rest) = P a × Every P rest

-- Each begins where the one before it ended and has at least a byte, from one place to another.
abbrev pub Tiles : {A : Type 0} → (A → ℕ) → (A → ℕ) → ℕ → List A → ℕ → Type 0
Tiles begin end from [] to = from ≡ to
Tiles begin end from (a ∷ rest) to = (begin a ≡ from) × (from < end a) × Tiles begin end (end a) rest to

abbrev pub MessagesTile : ℕ → List MessageCall → ℕ → Type 0
MessagesTile = Tiles (λ (c : MessageCall). c.place) (λ (c : MessageCall). c.found.next)

abbrev pub BlocksTile : ℕ → List BlockCall → ℕ → Type 0
BlocksTile = Tiles (λ (b : BlockCall). b.place) (λ (b : BlockCall). b.outline.next)

-- ---- normal forms

-- `normal_block_at`, called in the scene x on a recording at a place, with room, answers a, hands back the scene y and leaves out in the room.
abbrev pub WritesBlock : Scene → List ℕ → ℕ → List ℕ → Result (Option Normal) Refused → Scene → List ℕ → Type 0
WritesBlock x s at room a y out = normal_reply_of (record { answer = a; scene = y }) out ≡ normal_at blocks normal_block (scene_of x) s at room

-- The calls from a scene and a place on, each in the room behind what the one before wrote: the scene that the last of them handed back, how
-- many bytes were written, what the room holds, and how they came out.
pub data NormalCalls (s : List ℕ) : Scene → ℕ → List ℕ → Scene → ℕ → List ℕ → Outcome → Type 0 where
  no_form : {x y : Scene} {at : ℕ} {room out : List ℕ} → WritesBlock x s at room (Ok None) y out → NormalCalls s x at room y 0 out to_end
  form_refused : {x y : Scene} {at : ℕ} {room out : List ℕ} (r : Refused) → WritesBlock x s at room (Err r) y out
      → NormalCalls s x at room y 0 out to_refusal
  next_form : {x y z : Scene} {at n : ℕ} {f : Normal} {room mid out : List ℕ} {o : Outcome} → WritesBlock x s at room (Ok (Some f)) y mid
      → NormalCalls s y f.next (drop f.length mid) z n out o → NormalCalls s x at room z (f.length + n) (take f.length mid ++ out) o

-- `normal_track`, then `start` and the blocks from the place behind the track line on.
pub data NormalRecordingCalls (s room : List ℕ) : Scene → ℕ → List ℕ → Outcome → Type 0 where
  line_refused : {x : Scene} {out : List ℕ} (r : Refused) → track_written_of (Err r) out ≡ track_normal s room → scene_of x ≡ fresh
      → NormalRecordingCalls s room x 0 out to_refusal
  behind_line : {line : Normal} {n : ℕ} {x y : Scene} {mid out : List ℕ} {o : Outcome} → track_written_of (Ok line) mid ≡ track_normal s room
      → scene_of x ≡ fresh → NormalCalls s x line.next (drop line.length mid) y n out o
      → NormalRecordingCalls s room y (line.length + n) (take line.length mid ++ out) o
