-- `dem_allowed::passes` meets its contract at the messages with nothing to test.
use borrow.Author.Rules.{rules}
use Rattle.dem_allowed.specs.Tests.{message_test}
use Rattle.dem_allowed.proofs.passes.Goals as goal

pub returns-in_default : goal.returns-in_default
unfolding message_test
returns-in_default c = search rules
