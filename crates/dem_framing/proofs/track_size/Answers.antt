-- `dem_framing::track_size` meets its contract.
use mathlib.Core.Bool.{true, false}
use native.Mathlib.Omega.{arith}
use Rattle.dem_framing.proofs.NormalLaws.{digits-most, line-size}
use Rattle.dem_framing.proofs.track_size.Goals as goal

pub overflow_add-line : goal.overflow_add-line
overflow_add-line c = omega (arith, c.digit_count-line.ensures, digits-most c.unsigned_abs.result)

pub overflow_add-result : goal.overflow_add-result
overflow_add-result c = omega (arith, c.digit_count-line.ensures, digits-most c.unsigned_abs.result)

pub returns-then-number-lt0 : goal.returns-then-number-lt0
returns-then-number-lt0 c =
    line-size _ true c.ranges.number _ _ c.unsigned_abs.ensures.value c.digit_count-line.ensures
    c.if-number-lt0.true

pub returns-else-number-lt0 : goal.returns-else-number-lt0
returns-else-number-lt0 c =
    line-size _ false c.ranges.number _ _ c.unsigned_abs.ensures.value c.digit_count-line.ensures
    c.if-number-lt0.false
