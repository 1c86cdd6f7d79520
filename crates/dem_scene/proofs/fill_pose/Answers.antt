-- `dem_scene::fill_pose` meets its contract, field by field.
use mathlib.Core.List.{[], ◌∷◌}
use native.Mathlib.Omega.{arith}
use mir.Syntax.{w8, w16}
use Rattle.format.specs.Bytes.{bit}
use Rattle.dem_scene.proofs.Filling.{signed_picked}
use Rattle.dem_scene.proofs.fill_pose.Goals as goal

pub returns : goal.returns
returns c =
    let m = c.args.mask in
    let s = c.args.sent in
    let o = c.args.b.pose in
    let e0 = signed_picked w16 (bit m 1) c.pick.result s.x o.x c.pick.type_inv (omega arith) (omega arith) c.pick.ensures in
    let e1 = signed_picked w8 (bit m 8) c.pick-2.result s.angle0 o.angle0 c.pick-2.type_inv (omega arith) (omega arith) c.pick-2.ensures in
    let e2 = signed_picked w16 (bit m 2) c.pick-3.result s.y o.y c.pick-3.type_inv (omega arith) (omega arith) c.pick-3.ensures in
    let e3 = signed_picked w8 (bit m 4) c.pick-4.result s.angle1 o.angle1 c.pick-4.type_inv (omega arith) (omega arith) c.pick-4.ensures in
    let e4 = signed_picked w16 (bit m 3) c.pick-5.result s.z o.z c.pick-5.type_inv (omega arith) (omega arith) c.pick-5.ensures in
    let e5 = signed_picked w8 (bit m 9) c.pick-6.result s.angle2 o.angle2 c.pick-6.type_inv (omega arith) (omega arith) c.pick-6.ensures in
    λ i. e0 i ∷ e1 i ∷ e2 i ∷ e3 i ∷ e4 i ∷ e5 i ∷ []
