-- Player lines that a caller lends: what is answered, and what every line holds afterwards.
use Rattle.std.specs.Prelude.{List, cond, not, ℕ, eqb, ltb, length, replicate, Result}
use Rattle.std.specs.Int.{w16}
use Rattle.std.proofs.Common.{of_z}
use Rattle.dem.specs.Limits.{player_count}
use Rattle.format.specs.Refusal.{code, wrong_number, wrong_scene}
use Rattle.format.specs.declared.refusal.Refused.{Refused}
use Rattle.dem.specs.Scene.{PlayerLine, Scene, zero_line}
use Rattle.dem.specs.Message.{Message, set_frags, set_colours}
use Rattle.format.specs.Answer.{Answer, result, refusal, Item, Reply, reply}
use Rattle.dem.specs.Answer.{message_at}
use Rattle.dem_messages.specs.Replies.{answer_by}
use Rattle.dem_lines.specs.declared.LineChange.{LineChange}
use Rattle.dem_lines.specs.declared.LineChange.TheVariants as C

-- An answer, and the lent lines after it.
pub record Lent (A : Type 0) : Type 0 where
  pub answer : A
  pub lines : List PlayerLine

abbrev pub lent : {A : Type 0} → A → List PlayerLine → Lent A
lent a lines = record { answer = a; lines = lines }

abbrev pub answer_of : Result (Unit {0}) Refused → Answer (Unit {0})
answer_of = answer_by (λ u. u)

-- ---- one change

abbrev pub changed_lines : LineChange → List PlayerLine → List PlayerLine
changed_lines C.Nothing lines = lines
changed_lines (C.Frags p v) lines = set_frags lines p.0 (of_z w16 v)
changed_lines (C.Colours p v) lines = set_colours lines p.0 v
changed_lines C.Clear lines = replicate player_count zero_line

-- The player that a change names; what names none is as good as the first.
abbrev pub player_of : LineChange → ℕ
player_of C.Nothing = 0
player_of (C.Frags p v) = p.0
player_of (C.Colours p v) = p.0
player_of C.Clear = 0

-- Sixteen lines, or 14; a player that has one of them, or 9; both at 0.
unfoldable pub change_lent : LineChange → List PlayerLine → Lent (Answer (Unit {0}))
change_lent c lines =
    cond (not (eqb (length lines) player_count)) (lent (refusal (code wrong_scene) 0) lines)
    (cond (not (ltb (player_of c) player_count)) (lent (refusal (code wrong_number) 0) lines) (lent (result tt) (changed_lines c lines)))

-- ---- a message with the lines lent

abbrev pub with_lines : List PlayerLine → Scene → Scene
with_lines lines s =
    record {
      baselines = s.baselines;
      records = s.records;
      present = s.present;
      present_count = s.present_count;
      stats = s.stats;
      client = s.client;
      view = s.view;
      pause = s.pause;
      statics = s.statics;
      limit = s.limit;
      time = s.time;
      ended = s.ended;
      players = lines;
    }

-- What is answered in the scene that has the lent lines; afterwards they are that scene's, and the scene handed back has its own.
abbrev pub message_lent : Scene → List PlayerLine → List ℕ → ℕ → Lent (Reply Scene (Item Message Message))
message_lent s lines bytes at =
    let r = message_at (with_lines lines s) bytes at in lent (reply (with_lines s.players r.scene) r.answer) r.scene.players
