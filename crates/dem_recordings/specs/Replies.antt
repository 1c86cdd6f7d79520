-- What the entries over track lines, blocks and recordings answer, in the definitions' terms.
use Rattle.std.specs.Prelude.{List, [], ◌∷◌, ℕ, Option, Result}
use Rattle.format.specs.Refusals.{refusal_in, place_in}
use Rattle.format.specs.Layout.{number}
use Rattle.format.specs.declared.refusal.Refused.{Refused}
use Rattle.dem.specs.Scene.{Scene as Described}
use Rattle.format.specs.Answer.{Answer, Reply as Told, reply, Written, written, Normalised, Progress as Passed, Rewriting as Rewritten}
use Rattle.dem.specs.Answer.{Track as TrackTold, Outline as OutlineTold, Summary as SummaryTold}
use Rattle.dem_messages.specs.declared.Normal.{Normal}
use Rattle.dem_messages.specs.declared.Reply.{Reply}
use Rattle.dem_messages.specs.Replies.{answer_by, item_by, reply_by, written_by, normalised_of}
use Rattle.dem_recordings.specs.declared.Track.{Track}
use Rattle.dem_recordings.specs.declared.Outline.{Outline}
use Rattle.dem_recordings.specs.declared.Progress.{Progress}
use Rattle.dem_recordings.specs.declared.Summary.{Summary}
use Rattle.dem_recordings.specs.declared.Rewriting.{Rewriting}

abbrev pub track_of : Track → TrackTold
track_of t = record { number = t.number; next = t.next }

abbrev pub track_answer_of : Result Track Refused → Answer TrackTold
track_answer_of = answer_by track_of

abbrev pub outline_of : Outline → OutlineTold
outline_of o =
    record {
      angles = number o.angle0 ∷ number o.angle1 ∷ number o.angle2 ∷ [];
      start = o.start;
      messages = o.messages;
      next = o.next;
    }

abbrev pub block_answer_of : Result (Option Outline) Refused → Answer OutlineTold
block_answer_of = item_by outline_of

abbrev pub block_reply_of : Reply (Option Outline) → Told Described OutlineTold
block_reply_of = reply_by block_answer_of

-- The refusal's number is 0 for none, and its place then that behind the blocks.
abbrev pub progress_of : Progress → Passed
progress_of p =
    record { blocks = p.blocks; messages = p.messages; next = p.next; refusal = refusal_in p.refused; place = place_in p.next p.refused }

abbrev pub blocks_answer_of : Result Progress Refused → Answer Passed
blocks_answer_of = answer_by progress_of

abbrev pub blocks_reply_of : Reply Progress → Told Described Passed
blocks_reply_of = reply_by blocks_answer_of

abbrev pub summary_of : Summary → SummaryTold
summary_of s = record { track = s.track; blocks = s.blocks; messages = s.messages }

abbrev pub recording_answer_of : Result Summary Refused → Answer SummaryTold
recording_answer_of = answer_by summary_of

abbrev pub recording_reply_of : Reply Summary → Told Described SummaryTold
recording_reply_of = reply_by recording_answer_of

-- ---- normal forms

abbrev pub rewriting_of : Rewriting → Rewritten
rewriting_of w = record { progress = progress_of w.progress; length = w.length }

abbrev pub rewrite_answer_of : Result Rewriting Refused → Answer Rewritten
rewrite_answer_of = answer_by rewriting_of

-- With what the room holds afterwards.
abbrev pub rewrite_reply_of : Reply Rewriting → List ℕ → Written Described Rewritten
rewrite_reply_of = written_by rewrite_answer_of

abbrev pub track_count_of : Result Normal Refused → Answer Normalised
track_count_of = answer_by normalised_of

-- With what the room holds afterwards; there is no scene.
abbrev pub track_written_of : Result Normal Refused → List ℕ → Written (Unit {0}) Normalised
track_written_of r room = written (reply tt (track_count_of r)) room
