-- `dem_direct::update_head` meets its contract: the two bytes of the mask, then the one or two of the entity.
use native.Mathlib.Omega.{arith}
use Rattle.dem_direct.proofs.Fields.{head_made}
use Rattle.dem_direct.proofs.update_head.Goals as goal

pub returns-clause-value : goal.returns-clause-value
returns-clause-value c =
    let a = c.args in
    let h = c.field-h in
    let hi = c.field-hi in
    let low = c.ranges.low.fits in
    let byte = (c.type_inv.d h.result.next).fits in
    head_made a.d.now a.at a.low h.result.value h.result.next _ c.from-5.result c.from-4.result _ h.result.needless _ (omega arith) low (omega arith) (cc) (cc) (cc) c.from-5.ensures (cc) hi.ensures.place (cc) hi.ensures.flag
