-- What the exported functions answer, as numbers. What does not apply is 0.
use Rattle.std.specs.Prelude.{List, ℕ, ℤ, pos}
use Rattle.dem.specs.Scene.{Scene}
use Rattle.format.specs.Answer.{Answer, result, at_end, refusal, Written}
use Rattle.dem.specs.Answer.{Summary}

-- Of a recording that is checked: the refusal's number, 0 if it is accepted, and its place; what the recording holds.
pub record Checked : Type 0 where
  pub refusal : ℕ
  pub place : ℕ
  pub track : ℤ
  pub blocks : ℕ
  pub messages : ℕ

abbrev pub checked : ℕ → ℕ → ℤ → ℕ → ℕ → Checked
checked number place track blocks messages = record { refusal = number; place = place; track = track; blocks = blocks; messages = messages }

-- A whole recording is never answered by "end".
abbrev pub checked_by : Answer Summary → Checked
checked_by (result s) = checked 0 0 s.track s.blocks s.messages
checked_by at_end = checked 0 0 (pos 0) 0 0
checked_by (refusal n p) = checked n p (pos 0) 0 0

-- Of a recording's normal form: the refusal's number, 0 if it is written, and its place; the number of bytes written, and what the room
-- holds afterwards.
pub record Rewritten : Type 0 where
  pub refusal : ℕ
  pub place : ℕ
  pub written : ℕ
  pub room : List ℕ

abbrev pub rewritten : ℕ → ℕ → ℕ → List ℕ → Rewritten
rewritten number place written room = record { refusal = number; place = place; written = written; room = room }

abbrev pub rewritten_with : List ℕ → Answer ℕ → Rewritten
rewritten_with room (result n) = rewritten 0 0 n room
rewritten_with room at_end = rewritten 0 0 0 room
rewritten_with room (refusal n p) = rewritten n p 0 room

abbrev pub rewritten_by : Written Scene ℕ → Rewritten
rewritten_by w = rewritten_with w.room w.answer
