-- `dem_scene::fill_motion` meets its contract, field by field.
use mathlib.Core.List.{[], ◌∷◌}
use native.Mathlib.Omega.{arith}
use lib.Dec.{lit<}
use lib.IntN.{pos}
use mir.Syntax.{w8}
use Rattle.format.specs.Bytes.{bit}
use Rattle.dem_scene.proofs.Filling.{signed_picked}
use Rattle.dem_scene.proofs.fill_motion.Goals as goal

pub returns : goal.returns
returns c =
    let m = c.args.mask in
    let s = c.args.sent in
    let e0 = signed_picked w8 (bit m 0) c.pick.result s.view_height (pos 22) c.pick.type_inv (omega arith) (lit< tt) c.pick.ensures in
    let e1 = signed_picked w8 (bit m 1) c.pick-2.result s.pitch (pos 0) c.pick-2.type_inv (omega arith) (lit< tt) c.pick-2.ensures in
    let e2 = signed_picked w8 (bit m 2) c.pick-3.result s.punch0 (pos 0) c.pick-3.type_inv (omega arith) (lit< tt) c.pick-3.ensures in
    let e3 = signed_picked w8 (bit m 5) c.pick-4.result s.velocity0 (pos 0) c.pick-4.type_inv (omega arith) (lit< tt) c.pick-4.ensures in
    let e4 = signed_picked w8 (bit m 3) c.pick-5.result s.punch1 (pos 0) c.pick-5.type_inv (omega arith) (lit< tt) c.pick-5.ensures in
    let e5 = signed_picked w8 (bit m 6) c.pick-6.result s.velocity1 (pos 0) c.pick-6.type_inv (omega arith) (lit< tt) c.pick-6.ensures in
    let e6 = signed_picked w8 (bit m 4) c.pick-7.result s.punch2 (pos 0) c.pick-7.type_inv (omega arith) (lit< tt) c.pick-7.ensures in
    let e7 = signed_picked w8 (bit m 7) c.pick-8.result s.velocity2 (pos 0) c.pick-8.type_inv (omega arith) (lit< tt) c.pick-8.ensures in
    λ i. e0 i ∷ e1 i ∷ e2 i ∷ e3 i ∷ e4 i ∷ e5 i ∷ e6 i ∷ e7 i ∷ []
