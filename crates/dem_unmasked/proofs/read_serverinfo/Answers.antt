-- `dem_unmasked::read_serverinfo` meets its contract: the map's name and the two lists lie where they were read.
use native.Mathlib.Omega.{arith}
use Rattle.format.specs.Layout.{parse}
use Rattle.dem.specs.Message.{kind_layout}
use Rattle.dem_parts.specs.Kinds.{kind_in}
use Rattle.dem_unmasked.proofs.Strings.{names_last}
use Rattle.dem_unmasked.proofs.read_serverinfo.Goals as goal

pub returns : goal.returns
unfolding kind_in kind_layout parse
returns c = λ x. names_last _ _ _ _ _ _ _ _ c.in_ok-map.ensures.place c.in_ok-names.ensures.place (grind arith)
