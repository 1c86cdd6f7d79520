-- `dem_scene::fill_update` meets its contract: look, effects and pose are filled in by the mask that the two bytes make.
use mathlib.Core.Path.{◌≡◌, ap, ◌∙◌}
use mathlib.Core.List.{◌∷◌, ◌++◌}
use Rattle.dem.specs.Kind
use native.Mathlib.Omega.{arith}
use Rattle.format.specs.Bytes.{bit, bit_of}
use Rattle.format.specs.Masked.{Mask, fill_slots}
use Rattle.format.specs.Layout.{number, tail}
use Rattle.dem.specs.Message.{record_bit, update_mask, update_slots}
use Rattle.dem.proofs.UpdateLaws.{update_mask_lem}
use Rattle.dem_types.specs.Values.{update_values}
use Rattle.dem_scene.specs.Views.{baseline_numbers}
use Rattle.dem_scene.proofs.Filling.{picked}
use Rattle.dem_scene.proofs.fill_update.Goals as goal

pub returns : goal.returns
returns c =
    let u = c.args.u in
    let b = baseline_numbers c.args.b in
    let mask = c.mask-mask.result in
    let vs = tail (tail (tail (update_values u))) in
    let bit5 = c.has.ensures in
    let look = c.fill_look.ensures in
    let effects = picked (bit mask 13) _ u.effects 0 c.pick.ensures in
    let pose = c.fill_pose.ensures in
    let same : bit mask ≡ update_mask u.number u.high =
    ap bit c.mask-mask.ensures ∙ update_mask_lem u.high u.number (omega arith) in
    (λ i. number Kind.update ∷ number u.entity.0 ∷ number (bit_of (bit5 i)) ∷ (look i ++ (effects i ∷ pose i)))
    ∙ ap (λ (m : Mask). number Kind.update ∷ number u.entity.0 ∷ number (bit_of (m record_bit)) ∷ fill_slots (update_slots b) m vs) same
