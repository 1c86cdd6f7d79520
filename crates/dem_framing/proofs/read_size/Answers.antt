-- `dem_framing::read_size` meets its contract.
use native.Mathlib.Omega.{arith}
use Rattle.dem_framing.proofs.HeadLaws.{size_found}
use Rattle.dem_framing.proofs.read_size.Goals as goal

pub returns-clause-value : goal.returns-clause-value
returns-clause-value c = size_found c.args.s.now c.args.at c.load-size.result c.load-size.ensures (omega arith) (omega arith)
