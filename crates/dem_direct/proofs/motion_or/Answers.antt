-- `dem_direct::motion_or` meets its contract: its fields follow the slots one by one.
use mir.Syntax.{w8}
use native.Mathlib.Omega.{arith}
use Rattle.dem_direct.proofs.Fields.{handed_on}
use Rattle.dem_direct.proofs.motion_or.Goals as goal

pub returns-clause-motion_value : goal.returns-clause-motion_value
returns-clause-motion_value c =
    let h = handed_on w8 c.field-h.result.value (omega arith) in
    let p = handed_on w8 c.field-p.result.value (omega arith) in
    let p0 = handed_on w8 c.field-p0.result.value (omega arith) in
    let v0 = handed_on w8 c.field-v0.result.value (omega arith) in
    let p1 = handed_on w8 c.field-p1.result.value (omega arith) in
    let v1 = handed_on w8 c.field-v1.result.value (omega arith) in
    let p2 = handed_on w8 c.field-p2.result.value (omega arith) in
    let v2 = handed_on w8 c.field-v2.result.value (omega arith) in
    cc
