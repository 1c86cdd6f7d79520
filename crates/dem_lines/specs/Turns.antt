-- How code goes about a change: which lines it goes through, what each turn does, and which change a message brings.
use Rattle.std.specs.Prelude.{◌≡◌, List, ◌++◌, map, cond, not, ℕ, ◌+◌, ◌-◌, eqb, ltb, pos, take, drop, Option, None, Some, Result, Ok, Err}
use Rattle.dem.specs.Limits.{player_count}
use Rattle.format.specs.declared.refusal.Refusal.{Refusal}
use Rattle.format.specs.declared.refusal.Refusal.TheVariants.{WrongNumber, WrongScene}
use Rattle.format.specs.declared.refusal.Refused.{Refused}
use Rattle.dem.specs.Scene.{PlayerLine as Line, Scene as Described}
use Rattle.dem.specs.Message.{apply, fill}
use Rattle.wire.specs.declared.Text.{Text}
use Rattle.dem_types.specs.Values.{values_by}
use Rattle.dem_scene.specs.Views.{Numbered}
use Rattle.dem_scene.specs.declared.PlayerLine.{PlayerLine}
use Rattle.dem_messages.specs.declared.Found.{Found}
use Rattle.dem_lines.specs.Lent.{changed_lines}
use Rattle.dem_lines.specs.declared.Plan.{Plan}
use Rattle.dem_lines.specs.declared.LineChange.{LineChange}
use Rattle.dem_lines.specs.declared.LineChange.TheVariants as C

abbrev pub plan : ℕ → ℕ → Result Plan Refused
plan first end = Ok (record { first = first; end = end })

abbrev pub refused_plan : Refusal → Result Plan Refused
refused_plan r = Err (record { refusal = r; place = 0 })

abbrev pub line_plan : ℕ → Result Plan Refused
line_plan p = cond (ltb p player_count) (plan p (p + 1)) (refused_plan WrongNumber)

abbrev pub change_plan : LineChange → Result Plan Refused
change_plan C.Nothing = plan 0 0
change_plan (C.Frags p v) = line_plan p.0
change_plan (C.Colours p v) = line_plan p.0
change_plan C.Clear = plan 0 player_count

abbrev pub plan_of : ℕ → LineChange → Result Plan Refused
plan_of count c = cond (not (eqb count player_count)) (refused_plan WrongScene) (change_plan c)

abbrev pub clear_line : PlayerLine
clear_line = record { frags = pos 0; colours = 0 }

abbrev pub changed_line : LineChange → PlayerLine → PlayerLine
changed_line C.Nothing l = l
changed_line (C.Frags p v) l = record { frags = v; colours = l.colours }
changed_line (C.Colours p v) l = record { frags = l.frags; colours = v }
changed_line C.Clear l = clear_line

-- What a plan takes the lines to: those from one place up to another are changed, and the others stay.
abbrev pub carried : LineChange → Plan → List PlayerLine → List PlayerLine
carried c p lines = take p.first lines ++ (map (changed_line c) (take (p.end - p.first) (drop p.first lines)) ++ drop p.end lines)

-- ---- a message

abbrev pub NumberedIn : Result (Option Found) Refused → Type 0
NumberedIn (Ok (Some f)) = Numbered f.message
NumberedIn (Ok None) = Unit {0}
NumberedIn (Err r) = Unit {0}

-- The lines of a scene after an answer in it.
abbrev pub lines_after : Described → (Text → List ℕ) → Result (Option Found) Refused → List Line
lines_after s t (Ok (Some f)) = (apply s (fill s (values_by t f.message))).players
lines_after s t (Ok None) = s.players
lines_after s t (Err r) = s.players

-- This change is what an answer brings to the lines, in any scene.
abbrev pub Brings : LineChange → Result (Option Found) Refused → Type 0
Brings c a = (s : Described) (t : Text → List ℕ) → NumberedIn a → changed_lines c s.players ≡ lines_after s t a
