-- `dem_framing::read_head` meets its contract.
use Rattle.format.proofs.ByteLaws.{bytes_of}
use Rattle.dem_framing.specs.Heads.{head_of}
use Rattle.dem_framing.proofs.HeadLaws.{head_found}
use Rattle.dem_framing.proofs.read_head.Goals as goal

pub returns-in-Ok-clause-value : goal.returns-in-Ok-clause-value
unfolding head_of
returns-in-Ok-clause-value c =
    let a = c.args in
    let bytes = c.type_inv.s in
    head_found a.s.now a.at _ _ c.in_ok-size.ensures.value (bytes_of a.s.now (λ i. (bytes i).fits)) _ _ c.in-Ok.ensures
