-- `report::put_text` meets its contract.
use mathlib.Core.Path.{ap, ◌∙◌}
use native.Mathlib.Omega.{arith}
use borrow.Rule.Slice.PartMut.{put_mid}
use Rattle.format.proofs.StoreLaws.{put_mid-sets}
use Rattle.report.proofs.put_text.Goals as goal

pub returns-clause-put : goal.returns-clause-put
returns-clause-put c =
    let a = c.args in
    ap (put_mid a.at _ a.room.now) c.copy_from_slice.ensures.after
    ∙ put_mid-sets a.room.now a.text.now a.at _ (omega arith) c.requires
