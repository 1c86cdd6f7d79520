-- `dem_unmasked::read_print` meets its contract: its string lies where it was read.
use native.Mathlib.Omega.{arith}
use Rattle.format.specs.Layout.{parse}
use Rattle.dem.specs.Message.{kind_layout}
use Rattle.dem_parts.specs.Kinds.{kind_in}
use Rattle.dem_unmasked.proofs.Strings.{string_last}
use Rattle.dem_unmasked.proofs.read_print.Goals as goal

pub returns : goal.returns
unfolding kind_in kind_layout parse
returns c = λ x. string_last _ _ _ _ _ _ c.in_ok-text.ensures.place (grind arith)
