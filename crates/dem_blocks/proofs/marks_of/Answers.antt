-- `dem_blocks::marks_of` meets its contract: each turn makes one mark more.
use mathlib.Core.Path.{sym, ◌∙◌, subst}
use mathlib.Core.Bool.{false}
use Prim.Native.Nat.{ℕ, ◌+◌}
use lib.ListN.{set, get_or}
use native.Mathlib.Omega.{arith}
use Rattle.format.specs.Bytes.{bit_of}
use Rattle.dem_blocks.proofs.Marks.{Made, made_more, bit_byte}
use Rattle.dem_blocks.proofs.marks_of.Goals as goal

pub loop-i-preserved : goal.loop-i-preserved
loop-i-preserved c =
    let p = c.args.present in
    let l = c.loop-i in (
      l.invariant.0,
      subst (λ (v : ℕ). Made bit_of p (set l.marks l.i v) (l.i + 1)) (sym (c.from.ensures ∙ bit_byte (get_or p l.i false)))
          (made_more bit_of p l.marks l.i false l.invariant.1 (omega (arith, l.invariant.0, c.loop-i-test.true))),
    )
