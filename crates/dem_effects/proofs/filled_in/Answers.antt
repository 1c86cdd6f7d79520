-- `dem_effects::filled_in` meets its contract: an update is filled in from its entity's baseline.
use mathlib.Core.Path.{refl, sym, ap, ◌∙◌}
use Rattle.dem.specs.Message.{fill}
use Rattle.dem_types.specs.declared.Message.{Message}
use Rattle.dem_types.specs.declared.Message.TheVariants as Sent
use Rattle.dem_types.specs.Values.{values_by}
use Rattle.dem_scene.specs.Views.{scene_of}
use Rattle.dem_effects.proofs.Tables.{of-update}
use Rattle.dem_effects.proofs.filled_in.Goals as goal

pub returns-in-Update : goal.returns-in-Update
returns-in-Update c v t e n =
    let a = c.args in
    let s = scene_of a.s in
    c.fill_message.ensures s v t (sym (ap v c.in-Update.is) ∙ e ∙ ap (values_by t) c.in-Update.is) (λ u q. n u (c.in-Update.is ∙ q)) (of-update s (Sent.Update c.in-Update.u) c.in-Update.u c.baseline_of.result refl c.baseline_of.ensures)
    ∙ ap (λ (m : Message). fill s (values_by t m)) (sym c.in-Update.is)
