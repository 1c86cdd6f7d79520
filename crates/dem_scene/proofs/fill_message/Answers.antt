-- `dem_scene::fill_message` meets its contract: clientdata and an update by what they call.
use mathlib.Core.Path.{◌∙◌}
use Rattle.dem.specs.Message.{fill}
use Rattle.dem_scene.proofs.Filling.{fill_match, fill_from}
use Rattle.dem_scene.proofs.fill_message.Goals as goal

pub returns-in-Clientdata : goal.returns-in-Clientdata
unfolding fill
returns-in-Clientdata c s v t e n a = c.fill_client.ensures ∙ fill_match s t _ _ c.in-Clientdata.is

pub returns-in-Update : goal.returns-in-Update
returns-in-Update c s v t e n a =
    let q = c.in-Update.is in
    c.fill_update.ensures ∙ fill_from s t c.in-Update.u _ (n c.in-Update.u q) (a c.in-Update.u q) ∙ fill_match s t _ _ q
