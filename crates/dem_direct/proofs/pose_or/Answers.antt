-- `dem_direct::pose_or` meets its contract: its fields follow the slots one by one.
use mir.Syntax.{w8, w16}
use native.Mathlib.Omega.{arith}
use Rattle.dem_direct.proofs.Fields.{handed_on}
use Rattle.dem_direct.proofs.pose_or.Goals as goal

pub returns-clause-pose_value : goal.returns-clause-pose_value
returns-clause-pose_value c =
    let o = c.args.o in
    let ox = handed_on w16 o.x (omega arith) in
    let oa = handed_on w8 o.angle0 (omega arith) in
    let oy = handed_on w16 o.y (omega arith) in
    let ob = handed_on w8 o.angle1 (omega arith) in
    let oz = handed_on w16 o.z (omega arith) in
    let oc = handed_on w8 o.angle2 (omega arith) in
    let x = handed_on w16 c.field-x.result.value (omega arith) in
    let a = handed_on w8 c.field-a.result.value (omega arith) in
    let y = handed_on w16 c.field-y.result.value (omega arith) in
    let b = handed_on w8 c.field-b.result.value (omega arith) in
    let z = handed_on w16 c.field-z.result.value (omega arith) in
    let c' = handed_on w8 c.field-c.result.value (omega arith) in
    cc
