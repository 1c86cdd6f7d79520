-- `dem_direct::needed_pose` meets its contract: its fields follow the slots one by one, and where one was sent needlessly, that is known.
use lib.ListN.{drop}
use mir.Syntax.{w8, w16}
use native.Mathlib.Omega.{arith}
use Rattle.format.specs.Bytes.{bit}
use Rattle.dem_direct.specs.Spread.{behind, pose_slots}
use Rattle.dem_direct.proofs.Fields.{handed_on, needless_stays, if_none}
use Rattle.dem_direct.proofs.needed_pose.Goals as goal

pub returns-in_err-angle1-clause-none : goal.returns-in_err-angle1-clause-none
returns-in_err-angle1-clause-none c =
    let o = c.args.o in
    let m = bit c.args.mask in
    let ox = handed_on w16 o.x (omega arith) in
    let oangle0 = handed_on w8 o.angle0 (omega arith) in
    let oy = handed_on w16 o.y (omega arith) in
    let oangle1 = handed_on w8 o.angle1 (omega arith) in
    let ex = c.in_ok-x.ensures.some in
    let eangle0 = c.in_ok-angle0.ensures.some in
    let ey = c.in_ok-y.ensures.some in
    let none = c.in_err-angle1.ensures.none in
    let stays = needless_stays c.args.d.now (drop 4 (pose_slots o)) m (behind c.in_ok-y.at (m 4) 1) in
    if_none c.from_residual-in_err-angle1.result _ (cc)

pub returns-in_err-z-clause-none : goal.returns-in_err-z-clause-none
returns-in_err-z-clause-none c =
    let o = c.args.o in
    let m = bit c.args.mask in
    let ox = handed_on w16 o.x (omega arith) in
    let oangle0 = handed_on w8 o.angle0 (omega arith) in
    let oy = handed_on w16 o.y (omega arith) in
    let oangle1 = handed_on w8 o.angle1 (omega arith) in
    let oz = handed_on w16 o.z (omega arith) in
    let ex = c.in_ok-x.ensures.some in
    let eangle0 = c.in_ok-angle0.ensures.some in
    let ey = c.in_ok-y.ensures.some in
    let eangle1 = c.in_ok-angle1.ensures.some in
    let none = c.in_err-z.ensures.none in
    let stays = needless_stays c.args.d.now (drop 5 (pose_slots o)) m (behind c.in_ok-angle1.at (m 3) 2) in
    if_none c.from_residual-in_err-z.result _ (cc)

pub returns-in_err-angle2-clause-none : goal.returns-in_err-angle2-clause-none
returns-in_err-angle2-clause-none c =
    let o = c.args.o in
    let m = bit c.args.mask in
    let ox = handed_on w16 o.x (omega arith) in
    let oangle0 = handed_on w8 o.angle0 (omega arith) in
    let oy = handed_on w16 o.y (omega arith) in
    let oangle1 = handed_on w8 o.angle1 (omega arith) in
    let oz = handed_on w16 o.z (omega arith) in
    let oangle2 = handed_on w8 o.angle2 (omega arith) in
    let ex = c.in_ok-x.ensures.some in
    let eangle0 = c.in_ok-angle0.ensures.some in
    let ey = c.in_ok-y.ensures.some in
    let eangle1 = c.in_ok-angle1.ensures.some in
    let ez = c.in_ok-z.ensures.some in
    let none = c.in_err-angle2.ensures.none in
    if_none c.from_residual-in_err-angle2.result _ (cc)

pub returns-clause-some : goal.returns-clause-some
returns-clause-some c =
    let o = c.args.o in
    let ox = handed_on w16 o.x (omega arith) in
    let oa = handed_on w8 o.angle0 (omega arith) in
    let oy = handed_on w16 o.y (omega arith) in
    let ob = handed_on w8 o.angle1 (omega arith) in
    let oz = handed_on w16 o.z (omega arith) in
    let oc = handed_on w8 o.angle2 (omega arith) in
    let x = handed_on w16 c.in_ok-x.x (omega arith) in
    let a = handed_on w8 c.in_ok-angle0.angle0 (omega arith) in
    let y = handed_on w16 c.in_ok-y.y (omega arith) in
    let b = handed_on w8 c.in_ok-angle1.angle1 (omega arith) in
    let z = handed_on w16 c.in_ok-z.z (omega arith) in
    let c' = handed_on w8 c.in_ok-angle2.angle2 (omega arith) in
    let ex = c.in_ok-x.ensures.some in
    let ea = c.in_ok-angle0.ensures.some in
    let ey = c.in_ok-y.ensures.some in
    let eb = c.in_ok-angle1.ensures.some in
    let ez = c.in_ok-z.ensures.some in
    let ec = c.in_ok-angle2.ensures.some in
    (cc, cc, cc)
