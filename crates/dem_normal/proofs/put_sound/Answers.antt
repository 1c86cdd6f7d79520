-- `dem_normal::put_sound` meets its contract: number, mask, fields and place are the bytes of the normal form.
use native.Mathlib.Omega.{arith}
use mathlib.Core.List.{[], ◌∷◌}
use Rattle.format.specs.Layout.{number}
use Rattle.dem.specs.Message.{sound_slots}
use Rattle.dem_normal.proofs.PutLaws.{PutSlots, slot_then, slots_none}
use Rattle.dem_normal.proofs.SoundBytes.{sound-put}
use Rattle.dem_normal.proofs.put_sound.Goals as goal

pub returns : goal.returns
returns c x =
    let a = c.args in
    let r1 = c.put_if-a in
    let r2 = c.put_if-b in
    let r3 = c.put_changed-c in
    let r4 = c.put_changed-d in
    let r5 = c.put_place in
    let slots : PutSlots r2.new.out r4.new.out r2.result r4.result sound_slots (number a.s.volume ∷ number a.s.attenuation ∷ []) =
    slot_then r3.new.out r3.result r3.ensures.put (slot_then r4.new.out r4.result r4.ensures.put slots_none) in
    sound-put a.s c.four_bits-mask.result (omega (arith, c.four_bits-mask.ensures.value)) a.out.now r1.new.out r2.new.out r4.new.out r5.new.out
    a.at r1.result r2.result r4.result r5.result r1.ensures.put r2.ensures.put slots.put r5.ensures x
