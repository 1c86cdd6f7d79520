-- `dem_reader::read_kind` meets its contract: a message that is none of those with an arm is an update.
use Rattle.std.proofs.Common.{arith}
use Rattle.dem_reader.proofs.Arms.{above}
use Rattle.dem_reader.proofs.read_kind.Goals as goal

pub update_message-requires : goal.update_message-requires
update_message-requires c = above c.args.n c.requires (λ l h t. omega arith)
