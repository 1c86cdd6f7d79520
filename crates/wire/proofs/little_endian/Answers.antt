-- `wire::little_endian` meets its contract: the bytes passed, from the last, are the number from there.
use mathlib.Core.Path.{◌≡◌, ◌∙◌}
use Prim.Native.Nat.{◌+◌, ◌-◌}
use native.Mathlib.Omega.{arith}
use lib.ListN.{take, drop}
use Rattle.format.specs.Bytes.{le_read}
use Rattle.wire.proofs.NumberLaws.{number_bound, number_down, number_small, number-whole}
use Rattle.wire.proofs.little_endian.Goals as goal

pub overflow_mul-v : goal.overflow_mul-v
overflow_mul-v c =
    let a = c.args in
    let k = c.loop-k.k in
    omega (arith, number_small a.s.now (λ i. (c.type_inv.s i).fits) (a.width - k) (a.at + k) (omega arith) (omega arith))

pub overflow_add-v : goal.overflow_add-v
overflow_add-v c =
    let a = c.args in
    let k = c.loop-k.k in
    let bytes = c.type_inv.s in
    omega (
      arith,
      bytes (a.at + (k - 1)),
      number_small a.s.now (λ i. (bytes i).fits) (a.width - k) (a.at + k) (omega arith) (omega arith),
    )

pub loop-k-preserved : goal.loop-k-preserved
loop-k-preserved c =
    let a = c.args in
    let l = c.loop-k in
    number_down a.s.now a.at a.width l.k l.v c.from.result (omega arith) (omega arith) (omega arith) l.invariant c.from.ensures

pub returns : goal.returns
returns c =
    let a = c.args in
    let l = c.loop-k in
    let e : l.v ≡ le_read (take a.width (drop a.at a.s.now)) = l.invariant ∙ number-whole a.s.now a.at a.width l.k (omega arith) in
    record { value = e; fits = rw e (number_bound a.s.now (λ i. (c.type_inv.s i).fits) a.width a.at c.requires.within) }
