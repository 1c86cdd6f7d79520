-- `strings::four_ends` meets its contract: four numbers of one bit are joined.
use Prim.Native.Nat.{◌+◌}
use Rattle.strings.proofs.Ends.{ends_one, ends_four}
use Rattle.strings.proofs.four_ends.Goals as goal

pub returns : goal.returns
returns c =
    let a = c.args in
    ends_four a.s.now a.at 1 _ _ _ _ (ends_one a.s.now a.at _ c.is_end.ensures)
    (ends_one a.s.now (a.at + 1) _ c.is_end-2.ensures)
    (ends_one a.s.now (a.at + 2) _ c.is_end-3.ensures) (ends_one a.s.now (a.at + 3) _ c.is_end-4.ensures)
