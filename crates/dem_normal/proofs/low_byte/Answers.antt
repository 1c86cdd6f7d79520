-- `dem_normal::low_byte` meets its contract: the bits are those of its two halves.
use native.Mathlib.Omega.{arith}
use borrow.Author.Rules.{rules}
use mir.Syntax.{w8, w16}
use mathlib.Core.Path.{ap, ◌∙◌}
use Prim.Native.Nat.{ℕ}
use Rattle.format.specs.Bytes.{is_set, bit_of}
use Rattle.dem_normal.proofs.UpdateBytes.{set_test}
use Rattle.dem_normal.proofs.PutLaws.{differ-same}
use Rattle.dem_normal.proofs.low_byte.Goals as goal

pub returns : goal.returns
returns c e h =
    let p = c.args.r.pose in
    let o = c.args.b.pose in
    let x = ap bit_of c.differs.ensures ∙ differ-same w16 p.x o.x (search rules) (search rules) in
    let y = ap bit_of c.differs-2.ensures ∙ differ-same w16 p.y o.y (search rules) (search rules) in
    let z = ap bit_of c.differs-3.ensures ∙ differ-same w16 p.z o.z (search rules) (search rules) in
    let angle = ap bit_of c.differs-4.ensures ∙ differ-same w8 p.angle1 o.angle1 (search rules) (search rules) in
    let frame = ap bit_of c.differs-frame.ensures in
    let high = ap bit_of (set_test c.args.high) in
    let known = ap (λ (n : ℕ). bit_of (is_set n)) h in
    omega (arith, high, known, frame, x, y, z, angle, c.four_bits-low.ensures.value, c.four_bits-rest.ensures.value)
