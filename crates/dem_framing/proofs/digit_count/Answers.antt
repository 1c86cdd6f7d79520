-- `dem_framing::digit_count` meets its contract.
use mathlib.Core.Path.{sym, ap}
use native.Mathlib.Omega.{arith}
use lib.ListN.{length}
use Rattle.dem_framing.proofs.NormalLaws.{one_digit, two_digits, three-digits}
use Rattle.dem_framing.proofs.digit_count.Goals as goal

pub returns-then-v-lt10 : goal.returns-then-v-lt10
returns-then-v-lt10 c = sym (ap length (one_digit c.args.v (omega arith)))

pub returns-then-v-lt100 : goal.returns-then-v-lt100
returns-then-v-lt100 c = sym (ap length (two_digits c.args.v (omega arith) (omega arith)))

pub returns-else-v-lt100 : goal.returns-else-v-lt100
returns-else-v-lt100 c = sym (ap length (three-digits c.args.v (omega arith)))
