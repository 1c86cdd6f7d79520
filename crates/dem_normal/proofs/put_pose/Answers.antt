-- `dem_normal::put_pose` meets its contract: its fields follow the slots one by one.
use borrow.Author.Rules.{rules}
use mir.Syntax.{w8, w16}
use Rattle.dem_types.specs.Values.{pose_values}
use Rattle.dem_normal.specs.Sent.{pose_slots}
use Rattle.wire.proofs.SignedLaws.{bits_back}
use Rattle.dem_normal.proofs.PutLaws.{PutSlots, slots_none, changed_then}
use Rattle.dem_normal.proofs.put_pose.Goals as goal

pub returns : goal.returns
returns c =
    let a = c.args in
    let all : PutSlots a.out.now c.put_changed.new.out a.at c.put_changed.result (pose_slots a.p0) (pose_values a.p) =
    changed_then c.put_changed-a.new.out c.put_changed-a.result
    (bits_back w16 a.p.x (search rules)) (bits_back w16 a.p0.x (search rules)) c.put_changed-a.ensures.put
    (changed_then c.put_changed-b.new.out c.put_changed-b.result
    (bits_back w8 a.p.angle0 (search rules)) (bits_back w8 a.p0.angle0 (search rules)) c.put_changed-b.ensures.put
    (changed_then c.put_changed-c.new.out c.put_changed-c.result
    (bits_back w16 a.p.y (search rules)) (bits_back w16 a.p0.y (search rules)) c.put_changed-c.ensures.put
    (changed_then c.put_changed-d.new.out c.put_changed-d.result
    (bits_back w8 a.p.angle1 (search rules)) (bits_back w8 a.p0.angle1 (search rules)) c.put_changed-d.ensures.put
    (changed_then c.put_changed-e.new.out c.put_changed-e.result
    (bits_back w16 a.p.z (search rules)) (bits_back w16 a.p0.z (search rules)) c.put_changed-e.ensures.put
    (changed_then c.put_changed.new.out c.put_changed.result
    (bits_back w8 a.p.angle2 (search rules)) (bits_back w8 a.p0.angle2 (search rules)) c.put_changed.ensures.put
    slots_none))))) in
    all.put
