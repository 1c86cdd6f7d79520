-- The loop of `dem_lines::change_lines`: the lines up to the place reached are changed, and the others are as they were.
use Rattle.std.proofs.Common.{◌≡◌, map, ◌++◌, take, drop}
use Rattle.dem_lines.specs.Turns.{changed_line}
use Rattle.dem_lines.proofs.change_lines.Given as goal

abbrev pub invariant-loop-line : goal.invariant-loop-line
invariant-loop-line l = l.line-items ≡ map (changed_line l.change) (take l.line-index l.initial.line-items) ++ drop l.line-index l.initial.line-items
