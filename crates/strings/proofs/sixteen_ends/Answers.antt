-- `strings::sixteen_ends` meets its contract: four numbers of four bits are joined.
use Rattle.strings.proofs.Ends.{ends_four}
use Rattle.strings.proofs.sixteen_ends.Goals as goal

pub returns : goal.returns
returns c =
    let a = c.args in
    ends_four a.s.now a.at 4 _ _ _ _ c.four_ends.ensures c.four_ends-2.ensures c.four_ends-3.ensures c.four_ends-4.ensures
