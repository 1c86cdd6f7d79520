-- `dem_normal::high_byte` meets its contract: the bits are those of its two halves.
use native.Mathlib.Omega.{arith}
use mathlib.Core.Path.{ap, ◌∙◌}
use borrow.Author.Rules.{rules}
use mir.Syntax.{w8}
use Rattle.format.specs.Bytes.{bit_of}
use Rattle.dem_normal.proofs.PutLaws.{differ-same}
use Rattle.dem_normal.proofs.high_byte.Goals as goal

pub returns : goal.returns
returns c =
    let p = c.args.r.pose in
    let o = c.args.b.pose in
    let first = ap bit_of c.differs.ensures ∙ differ-same w8 p.angle0 o.angle0 (search rules) (search rules) in
    let third = ap bit_of c.differs-2.ensures ∙ differ-same w8 p.angle2 o.angle2 (search rules) (search rules) in
    let model = ap bit_of c.differs-3.ensures in
    let colormap = ap bit_of c.differs-4.ensures in
    let skin = ap bit_of c.differs-5.ensures in
    omega (arith, first, third, model, colormap, skin, c.four_bits-low.ensures.value, c.four_bits-high.ensures.value)
