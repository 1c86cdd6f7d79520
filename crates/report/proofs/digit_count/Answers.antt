-- `report::digit_count` meets its contract.
use mathlib.Core.Path.{sym}
use Rattle.report.specs.Lines.{most_digits}
use Rattle.report.proofs.DigitLaws.{single, digits_counted}
use Rattle.report.proofs.digit_count.Goals as goal

pub returns-then-v-lt10-clause-value : goal.returns-then-v-lt10-clause-value
returns-then-v-lt10-clause-value c = sym (single 19 c.args.v c.if-v-lt10.true)

pub returns-else-v-lt10-clause-value : goal.returns-else-v-lt10-clause-value
returns-else-v-lt10-clause-value c =
    let k = c.ilog10 in
    sym (digits_counted most_digits k.result c.args.v k.ensures.bound k.ensures.power_le k.ensures.next_power_gt)
