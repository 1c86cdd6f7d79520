-- `wire::has` meets its contract: what is left of the mask behind the shift is odd exactly if the bit is set.
use Rattle.format.proofs.BitLaws.{bit_test}
use Rattle.wire.proofs.has.Goals as goal

pub returns : goal.returns
returns c = bit_test c.args.mask c.args.k
