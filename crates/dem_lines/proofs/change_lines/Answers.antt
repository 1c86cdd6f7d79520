-- `dem_lines::change_lines` meets its contract: each turn changes the line where it stands, and what the plan comes to is the change.
use Rattle.dem_lines.specs.Turns.{changed_line}
use Rattle.dem_lines.proofs.Turning.{turn, part_comes}
use Rattle.dem_lines.proofs.change_lines.Goals as goal

pub loop-line-preserved : goal.loop-line-preserved
loop-line-preserved c =
    let t = c.loop-line in
    turn (changed_line c.args.change) t.line-index _ t.line-items _ c.changed_line.result c.loop-line-test.true t.invariant c.changed_line.ensures

pub returns : goal.returns
returns c =
    let a = c.args in
    let t = c.loop-line in
    part_comes a.change a.lines.now c.in_ok-plan.plan t.line-index t.line-items c.in_ok-plan.ensures t.invariant c.loop-line-test.false
