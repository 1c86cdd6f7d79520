-- `dem_blocks::present_of` meets its contract: each turn tells one mark more, and counts it.
use mathlib.Core.Path.{sym, subst, ◌∙◌}
use mathlib.Core.Bool.{Bool}
use Prim.Native.Nat.{ℕ, ◌+◌}
use native.Mathlib.Omega.{arith}
use lib.ListN.{get_or, length-map, get_or-map}
use lib.Dec.{ltb}
use Rattle.format.specs.Bytes.{bit_of}
use Rattle.dem.proofs.CountLaws.{CountedTo, counted_more, counted_few}
use Rattle.dem_blocks.specs.Marks.{marked}
use Rattle.dem_blocks.proofs.Marks.{made_more, bit_byte}
use Rattle.dem_blocks.proofs.present_of.Goals as goal

-- What is counted with this turn's mark.
more : (c : goal.After-from-count)
    → let a = c.args in
    let l = c.loop-i in
    CountedTo (marked a.since a.marks) (l.i + 1) (l.count + c.from-count.result)
more c =
    let a = c.args in
    let l = c.loop-i in
    let marks = marked a.since a.marks in
    subst (λ (n : ℕ). CountedTo marks (l.i + 1) (l.count + n)) (sym (c.from-count.ensures ∙ bit_byte (ltb a.since (get_or a.marks l.i 0))))
    (subst (λ (b : Bool). CountedTo marks (l.i + 1) (l.count + bit_of b)) (get_or-map (ltb a.since) a.marks l.i 0)
    (counted_more marks l.i l.count l.invariant.2 (ltb a.since 0)
    (omega (arith, l.invariant.0, length-map a.marks (ltb a.since), c.loop-i-test.true))))

pub overflow_add-count : goal.overflow_add-count
overflow_add-count c = record { fits = omega (arith, counted_few _ _ _ (more c), c.loop-i-test.true) }

pub loop-i-preserved : goal.loop-i-preserved
loop-i-preserved c =
    let a = c.args in
    let l = c.loop-i in (
      l.invariant.0,
      made_more (ltb a.since) a.marks l.set l.i 0 l.invariant.1 (omega (arith, l.invariant.0, c.loop-i-test.true)),
      more c,
    )
