-- The answers of the entries over track lines, blocks and recordings are read back from what the definitions see of them.
-- Assumes nothing.
use mathlib.Core.Path.{◌≡◌, refl, ap, ◌∙◌}
use mathlib.Core.Bool.{Bool, cond}
use Prim.Native.Nat.{ℕ}
use borrow.Author.Tests.{ne_eqb}
use lib.Dec.{eqb}
use lib.ListN.{get_or}
use Rattle.std.specs.Prelude.{Option, None, Some, Result}
use Rattle.format.specs.Refusals.{number_of, refusal_in, place_in}
use Rattle.format.specs.declared.refusal.Refused.{Refused}
use Rattle.format.specs.Layout.{number, as_number}
use Rattle.format.specs.Answer.{Answer, Progress as Passed, Rewriting as Rewritten, Normalised}
use Rattle.format.proofs.RefusalsBack.{refused_from, refused_back, number_some}
use Rattle.dem.specs.Answer.{Track as TrackTold, Outline as OutlineTold, Summary as SummaryTold}
use Rattle.dem_messages.specs.declared.Normal.{Normal}
use Rattle.dem_messages.specs.Replies.{normalised_of}
use Rattle.dem_messages.proofs.Answers.{answer_from, answer_back, item_from, item_back, normal_of}
use Rattle.dem_recordings.specs.declared.Track.{Track}
use Rattle.dem_recordings.specs.declared.Outline.{Outline}
use Rattle.dem_recordings.specs.declared.Progress.{Progress}
use Rattle.dem_recordings.specs.declared.Summary.{Summary}
use Rattle.dem_recordings.specs.declared.Rewriting.{Rewriting}
use Rattle.dem_recordings.specs.Replies.{track_of, track_answer_of, outline_of, block_answer_of, progress_of, blocks_answer_of, summary_of, recording_answer_of}
use Rattle.dem_recordings.specs.Replies.{rewriting_of, rewrite_answer_of, track_count_of}

abbrev track_seen : TrackTold → Track
track_seen t = record { number = t.number; next = t.next }

abbrev pub track_from : Answer TrackTold → Result Track Refused
track_from = answer_from track_seen

pub track_back : (a : Result Track Refused) → track_from (track_answer_of a) ≡ a
track_back = answer_back track_of track_seen (λ t. refl)

abbrev angle_at : OutlineTold → ℕ → ℕ
angle_at t i = as_number (get_or t.angles i (number 0))

abbrev outline_seen : OutlineTold → Outline
outline_seen t =
    record { angle0 = angle_at t 0; angle1 = angle_at t 1; angle2 = angle_at t 2; start = t.start; messages = t.messages; next = t.next }

abbrev pub block_from : Answer OutlineTold → Result (Option Outline) Refused
block_from = item_from outline_seen

pub block_back : (a : Result (Option Outline) Refused) → block_from (block_answer_of a) ≡ a
block_back = item_back outline_of outline_seen (λ o. refl)

-- ---- runs: a refusal that may be none

abbrev met_from : ℕ → ℕ → Option Refused
met_from n p = cond (eqb n 0) None (Some (refused_from n p))

met_back : (next : ℕ) (r : Option Refused) → met_from (refusal_in r) (place_in next r) ≡ r
met_back next None = refl
met_back next (Some r) =
    ap (λ (b : Bool). cond b None (Some (refused_from (number_of r.refusal) r.place))) (ne_eqb (number_of r.refusal) 0 (number_some r.refusal))
    ∙ ap Some (refused_back r)

abbrev progress_seen : Passed → Progress
progress_seen p = record { blocks = p.blocks; messages = p.messages; next = p.next; refused = met_from p.refusal p.place }

progress_back : (p : Progress) → progress_seen (progress_of p) ≡ p
progress_back p = λ i. record { blocks = p.blocks; messages = p.messages; next = p.next; refused = met_back p.next p.refused i }

abbrev pub blocks_from : Answer Passed → Result Progress Refused
blocks_from = answer_from progress_seen

pub blocks_back : (a : Result Progress Refused) → blocks_from (blocks_answer_of a) ≡ a
blocks_back = answer_back progress_of progress_seen progress_back

abbrev summary_seen : SummaryTold → Summary
summary_seen s = record { track = s.track; blocks = s.blocks; messages = s.messages }

abbrev pub recording_from : Answer SummaryTold → Result Summary Refused
recording_from = answer_from summary_seen

pub recording_back : (a : Result Summary Refused) → recording_from (recording_answer_of a) ≡ a
recording_back = answer_back summary_of summary_seen (λ s. refl)

-- ---- normal forms

abbrev rewriting_seen : Rewritten → Rewriting
rewriting_seen w = record { progress = progress_seen w.progress; length = w.length }

rewriting_back : (w : Rewriting) → rewriting_seen (rewriting_of w) ≡ w
rewriting_back w = λ i. record { progress = progress_back w.progress i; length = w.length }

abbrev pub rewrite_from : Answer Rewritten → Result Rewriting Refused
rewrite_from = answer_from rewriting_seen

pub rewrite_back : (a : Result Rewriting Refused) → rewrite_from (rewrite_answer_of a) ≡ a
rewrite_back = answer_back rewriting_of rewriting_seen rewriting_back

abbrev pub track_count_from : Answer Normalised → Result Normal Refused
track_count_from = answer_from normal_of

pub track_count_back : (a : Result Normal Refused) → track_count_from (track_count_of a) ≡ a
track_count_back = answer_back normalised_of normal_of (λ n. refl)
