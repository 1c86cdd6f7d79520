-- Demand 2 for one call: a recording is read exactly if it is well formed, and what is told of it is its reading.
-- Assumes nothing.
use mathlib.Core.Path.{◌≡◌, refl, sym, ap, ◌∙◌}
use mathlib.Core.List.{List}
use Prim.Native.Nat.{ℕ}
use Rattle.format.specs.Bytes.{Bytes, Result, found, refused}
use Rattle.dem.specs.Scene.{Scene as Described}
use Rattle.dem.specs.WellFormed.{WellFormed}
use Rattle.format.specs.Answer.{place_in, Answer, result, refusal, Reply, reply}
use Rattle.dem.specs.Recording.{Recording, read_recording, fill_recording, scene_after, reading_of, reading}
use Rattle.dem.specs.Answer.{Summary as Told, summary_of, whole_of, whole}
use Rattle.format.proofs.ResultLaws.{clash}
use Rattle.dem.proofs.RecordingLaws.{accepted_exactly}
use Rattle.dem.proofs.AnswerLaws.{whole_accepted}
use Rattle.dem_messages.specs.declared.Reply.{Reply as Answered}
use Rattle.dem_recordings.specs.declared.Summary.{Summary}
use Rattle.dem_recordings.specs.Replies.{recording_answer_of, recording_reply_of}

module _ (s : List ℕ) (bytes : Bytes s) (r : Answered Summary) (read : recording_reply_of r ≡ whole s) where
  abbrev told_of_lem : Reply Described Told → Answer Told
  told_of_lem x = x.answer

  -- A recording that is well formed is read: the track number and the counts are those of its reading, and the scene is the one that its
  -- messages lead to.
  pub well_formed-read : (w : WellFormed s)
      → recording_reply_of r ≡ reply (scene_after (fill_recording w.recording)) (result (summary_of (fill_recording w.recording)))
  well_formed-read w = read ∙ whole_accepted s (fill_recording w.recording) ((accepted_exactly s bytes).filled w)

  -- One that is read is well formed: messages that its layouts allow tile its blocks, each in the scene that all before it lead to.
  pub read_well_formed : (a : Told) → recording_answer_of r.answer ≡ result a → WellFormed s
  unfolding reading whole
  read_well_formed a e = go (read_recording s) refl
    where
      go : (q : Result Recording) → read_recording s ≡ q → WellFormed s
      go (found v rest) f = (accepted_exactly s bytes).exactly.0 (fill_recording v, ap reading_of f)
      go (refused n left) f =
          let x : ◌≡◌ {A = Answer Told} (result a) (refusal n (place_in s left)) = sym e ∙ ap told_of_lem (read ∙ ap (whole_of s) f) in
          clash (cc)
