-- `dem_normal::put_motion` meets its contract: its fields follow the slots one by one.
use mathlib.Core.Path.{refl}
use borrow.Author.Rules.{rules}
use lib.ListN.{take}
use mir.Syntax.{w8}
use Rattle.dem.specs.Message.{client_slots}
use Rattle.dem_types.specs.Values.{motion_values}
use Rattle.wire.proofs.SignedLaws.{bits_back}
use Rattle.dem_normal.proofs.PutLaws.{PutSlots, slots_none, changed_then}
use Rattle.dem_normal.proofs.put_motion.Goals as goal

pub returns-clause-put : goal.returns-clause-put
returns-clause-put c =
    let a = c.args in
    let all : PutSlots a.out.now c.put_changed.new.out a.at c.put_changed.result (take 8 client_slots) (motion_values a.m) =
    changed_then c.put_changed-a.new.out c.put_changed-a.result
    (bits_back w8 a.m.view_height (search rules)) refl c.put_changed-a.ensures.put
    (changed_then c.put_changed-b.new.out c.put_changed-b.result
    (bits_back w8 a.m.pitch (search rules)) refl c.put_changed-b.ensures.put
    (changed_then c.put_changed-c.new.out c.put_changed-c.result
    (bits_back w8 a.m.punch0 (search rules)) refl c.put_changed-c.ensures.put
    (changed_then c.put_changed-d.new.out c.put_changed-d.result
    (bits_back w8 a.m.velocity0 (search rules)) refl c.put_changed-d.ensures.put
    (changed_then c.put_changed-e.new.out c.put_changed-e.result
    (bits_back w8 a.m.punch1 (search rules)) refl c.put_changed-e.ensures.put
    (changed_then c.put_changed-f.new.out c.put_changed-f.result
    (bits_back w8 a.m.velocity1 (search rules)) refl c.put_changed-f.ensures.put
    (changed_then c.put_changed-g.new.out c.put_changed-g.result
    (bits_back w8 a.m.punch2 (search rules)) refl c.put_changed-g.ensures.put
    (changed_then c.put_changed.new.out c.put_changed.result
    (bits_back w8 a.m.velocity2 (search rules)) refl c.put_changed.ensures.put
    slots_none))))))) in
    all.put
