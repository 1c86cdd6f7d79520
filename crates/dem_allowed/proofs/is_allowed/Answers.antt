-- `dem_allowed::is_allowed` meets its contract: the tests say what the layout allows, since each number of a message fits its type.
use mathlib.Core.Path.{◌∙◌}
use denote.Enum.Laws.{owed}
use Rattle.dem_types.specs.contracts.Message as MessageType
use Rattle.dem_types.proofs.Message.TheLaws as MessageLaws
use Rattle.dem_allowed.proofs.Messages.{message_law}
use Rattle.dem_allowed.proofs.is_allowed.Goals as goal

pub returns : goal.returns
returns c =
    let a = c.args in
    c.passes.ensures ∙ message_law a.text.now a.x a.m (owed MessageType.the_type MessageLaws.the_laws a.m _ c.well_formed.0)
