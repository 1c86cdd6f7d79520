-- `dem_normal::client_mask` meets its contract: the bits are those of its four quarters.
use native.Mathlib.Omega.{arith}
use mathlib.Core.Path.{◌≡◌, ap, ◌∙◌}
use mathlib.Core.Bool.{Bool, not}
use Prim.Native.Nat.{ℕ}
use borrow.Author.Rules.{rules}
use lib.Dec.{eqb}
use lib.IntN.{ℤ}
use mir.Syntax.{w8}
use mir.Val.{to_z, of_z, SFits}
use Rattle.format.specs.Bytes.{bit_of}
use Rattle.wire.proofs.SignedLaws.{bits_back}
use Rattle.dem_normal.proofs.client_mask.Goals as goal

-- Whether a signed number differs from its default, by its bits.
signed : {b : Bool} (z : ℤ) (d : ℕ) → SFits w8 z → b ≡ not (eqb (of_z w8 (to_z w8 (of_z w8 z))) d)
    → bit_of b ≡ bit_of (not (eqb (of_z w8 z) d))
signed z d f e = ap bit_of e ∙ ap (λ (n : ℕ). bit_of (not (eqb n d))) (bits_back w8 z f)

pub returns : goal.returns
returns c =
    let m = c.args.u.motion in
    let b0 = signed m.view_height 22 (search rules) c.differs.ensures in
    let b1 = signed m.pitch 0 (search rules) c.differs-2.ensures in
    let b2 = signed m.punch0 0 (search rules) c.differs-3.ensures in
    let b3 = signed m.punch1 0 (search rules) c.differs-4.ensures in
    let b4 = signed m.punch2 0 (search rules) c.differs-5.ensures in
    let b5 = signed m.velocity0 0 (search rules) c.differs-6.ensures in
    let b6 = signed m.velocity1 0 (search rules) c.differs-7.ensures in
    let b7 = signed m.velocity2 0 (search rules) c.differs-8.ensures in
    let weapon-frame = ap bit_of c.differs-9.ensures in
    let armour = ap bit_of c.differs-10.ensures in
    let weapon-model = ap bit_of c.differs-11.ensures in
    let a = c.four_bits-a.ensures.value in
    let b = c.four_bits-b.ensures.value in
    let d = c.four_bits-c.ensures.value in
    let e = c.four_bits-d.ensures.value in
    omega (arith, b0, b1, b2, b3, b4, b5, b6, b7, weapon-frame, armour, weapon-model, a, b, d, e)
