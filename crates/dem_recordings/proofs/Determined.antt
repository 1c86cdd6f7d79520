-- The promises of the entries over track lines, blocks and recordings fix every answer: two replies that code can hold and that meet one
-- promise are the same; and with a refusal and at the end, the scene handed back is the very scene given.
-- Assumes nothing.
use mathlib.Core.Path.{◌≡◌, sym, subst}
use mathlib.Core.List.{List}
use Prim.Native.Nat.{ℕ}
use denote.RattleType.{RattleType}
use denote.Builtin.{usize}
use Rattle.std.specs.Prelude.{Option, Result}
use Rattle.std.specs.contracts.option.Option as OptionType
use Rattle.format.specs.declared.refusal.Refused.{Refused}
use Rattle.dem.specs.Scene.{Scene as Described, fresh}
use Rattle.dem.specs.Answer.{outline_at, blocks_at, normal_blocks_at, whole, whole_normal}
use Rattle.format.proofs.GivenLaws.{GivenBack, Replied, Wrote}
use Rattle.dem.proofs.GivenLaws.{outline_given, run_given, forms_given, whole_given, whole-normal_given}
use Rattle.wire.proofs.FieldLaws.{Held, Fixed}
use Rattle.dem_scene.specs.declared.Scene.{Scene}
use Rattle.dem_scene.specs.Views.{scene_of}
use Rattle.dem_scene.specs.contracts.Scene as SceneType
use Rattle.dem_messages.specs.declared.Normal.{Normal}
use Rattle.dem_messages.specs.declared.Reply.{Reply}
use Rattle.dem_messages.specs.contracts.Reply as ReplyType
use Rattle.dem_messages.specs.Replies.{count_of, written_of}
use Rattle.dem_messages.proofs.Determined.{answer_fixed, reply_fixed, reply-room_fixed, very-scene, held_scene, WriteRow}
use Rattle.dem_recordings.specs.Replies.{track_answer_of, block_answer_of, block_reply_of, blocks_answer_of, blocks_reply_of, recording_answer_of}
use Rattle.dem_recordings.specs.Replies.{recording_reply_of, rewrite_answer_of, rewrite_reply_of, track_count_of, track_written_of}
use Rattle.dem_recordings.specs.declared.Track.{Track}
use Rattle.dem_recordings.specs.declared.Outline.{Outline}
use Rattle.dem_recordings.specs.declared.Progress.{Progress}
use Rattle.dem_recordings.specs.declared.Summary.{Summary}
use Rattle.dem_recordings.specs.declared.Rewriting.{Rewriting}
use Rattle.dem_recordings.specs.contracts.Outline as OutlineType
use Rattle.dem_recordings.specs.contracts.Progress as ProgressType
use Rattle.dem_recordings.specs.contracts.Summary as SummaryType
use Rattle.dem_recordings.specs.contracts.Rewriting as RewritingType
use Rattle.dem_recordings.proofs.Answers.{track_from, track_back, block_from, block_back, blocks_from, blocks_back}
use Rattle.dem_recordings.proofs.Answers.{recording_from, recording_back, rewrite_from, rewrite_back, track_count_from, track_count_back}

-- The rows of the replies for a block, a run of blocks, a recording, and blocks in normal form.
abbrev pub BlockRow : RattleType
BlockRow = ReplyType.the_row (OptionType.the_row OutlineType.the_row)

abbrev pub BlocksRow : RattleType
BlocksRow = ReplyType.the_row ProgressType.the_row

abbrev pub RecordingRow : RattleType
RecordingRow = ReplyType.the_row SummaryType.the_row

abbrev pub RewriteRow : RattleType
RewriteRow = ReplyType.the_row RewritingType.the_row

-- ---- track lines: an answer alone

pub track_fixed : (a b : Result Track Refused) → track_answer_of a ≡ track_answer_of b → a ≡ b
track_fixed = answer_fixed track_answer_of track_from track_back

-- With what the room holds.
pub normal-track_fixed : (a b : Result Normal Refused) (room room' : List ℕ) → track_written_of a room ≡ track_written_of b room' → (a ≡ b) × (room ≡ room')
normal-track_fixed a b room room' e = (answer_fixed track_count_of track_count_from track_count_back a b (λ i. (e i).answer), λ i. (e i).room)

-- ---- replies: an answer and a scene

pub block_fixed : Fixed BlockRow block_reply_of
block_fixed = reply_fixed (OptionType.the_row OutlineType.the_row) block_answer_of block_from block_back

pub blocks_fixed : Fixed BlocksRow blocks_reply_of
blocks_fixed = reply_fixed ProgressType.the_row blocks_answer_of blocks_from blocks_back

pub recording_fixed : Fixed RecordingRow recording_reply_of
recording_fixed = reply_fixed SummaryType.the_row recording_answer_of recording_from recording_back

pub rewrite_fixed : (r q : Reply Rewriting) (room room' : List ℕ) → Held RewriteRow r → Held RewriteRow q
    → rewrite_reply_of r room ≡ rewrite_reply_of q room' → (r ≡ q) × (room ≡ room')
rewrite_fixed = reply-room_fixed RewritingType.the_row rewrite_answer_of rewrite_from rewrite_back

-- ---- the scene given

module _ (scene : Scene) (held : Held SceneType.the_row scene) where
  abbrev t : Described
  t = scene_of scene

  pub block_given : (r : Reply (Option Outline)) (s : List ℕ) (at : ℕ) → Held BlockRow r → block_reply_of r ≡ outline_at t s at
      → GivenBack scene r.scene (block_answer_of r.answer)
  block_given r s at h e =
      very-scene scene held r.scene (held_scene (OptionType.the_row OutlineType.the_row) r h) (block_answer_of r.answer) (subst (Replied t) (sym e) (outline_given t s at))

  pub blocks_given : (r : Reply Progress) (s : List ℕ) (at : ℕ) → Held BlocksRow r → blocks_reply_of r ≡ blocks_at t s at
      → GivenBack scene r.scene (blocks_answer_of r.answer)
  blocks_given r s at h e =
      very-scene scene held r.scene (held_scene ProgressType.the_row r h) (blocks_answer_of r.answer) (subst (Replied t) (sym e) (run_given t s at))

  pub rewrite_given : (r : Reply Rewriting) (s : List ℕ) (at : ℕ) (room room' : List ℕ) → Held RewriteRow r
      → rewrite_reply_of r room' ≡ normal_blocks_at t s at room → GivenBack scene r.scene (rewrite_answer_of r.answer)
  rewrite_given r s at room room' h e =
      very-scene scene held r.scene (held_scene RewritingType.the_row r h) (rewrite_answer_of r.answer) (subst (Wrote t) (sym e) (forms_given t s at room))

  -- Of a whole recording: a scene at the start.
  pub recording_given : scene_of scene ≡ fresh → (r : Reply Summary) (s : List ℕ) → Held RecordingRow r → recording_reply_of r ≡ whole s
      → GivenBack scene r.scene (recording_answer_of r.answer)
  recording_given first r s h e =
      very-scene scene held r.scene (held_scene SummaryType.the_row r h) (recording_answer_of r.answer) (rw first (subst (Replied fresh) (sym e) (whole_given s)))

  pub normal-recording_given : scene_of scene ≡ fresh → (r : Reply ℕ) (s room room' : List ℕ) → Held WriteRow r
      → written_of r room' ≡ whole_normal s room → GivenBack scene r.scene (count_of r.answer)
  normal-recording_given first r s room room' h e =
      very-scene scene held r.scene (held_scene usize r h) (count_of r.answer) (rw first (subst (Wrote fresh) (sym e) (whole-normal_given s room)))
