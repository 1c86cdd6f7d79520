-- `dem_writer::put_number` meets its contract: the part of the room that it takes is the number's bytes, one more each time.
use mathlib.Core.Path.{◌≡◌, ap, ◌∙◌}
use mathlib.Core.List.{List}
use Prim.Native.Nat.{ℕ, ◌+◌, ◌-◌, ◌≤◌}
use native.Mathlib.Omega.{arith}
use lib.ListN.{length, take, drop, length-take, length-drop}
use borrow.Rule.Slice.PartMut.{put_mid}
use Rattle.format.specs.Bytes.{le_write}
use Rattle.format.proofs.ByteLaws.{le-length}
use Rattle.format.proofs.StoreLaws.{put_mid-sets}
use Rattle.dem_writer.proofs.RoomLaws.{number_step, number_whole}
use Rattle.dem_writer.proofs.put_number.Goals as goal

-- How many bytes it takes.
part-length : (room : List ℕ) (at width : ℕ) → at + width ≤ length room → length (take (at + width - at) (drop at room)) ≡ width
part-length room at width h = omega (arith, length-take {A = ℕ}, length-drop {A = ℕ})

pub loop-b-preserved : goal.loop-b-preserved
loop-b-preserved c =
    let a = c.args in
    let l = c.loop-b in
    let n = part-length a.room.now a.at a.width c.requires in
    number_step l.b-items (le_write a.width a.value) a.width l.b-index l.v (omega arith) (omega arith) l.invariant

pub returns-clause-put : goal.returns-clause-put
returns-clause-put c =
    let a = c.args in
    let l = c.loop-b in
    let n = part-length a.room.now a.at a.width c.requires in
    let bytes = le_write a.width a.value in
    let m : length bytes ≡ a.width = le-length a.width a.value in
    let end = a.at + a.width in
    let whole : l.b-items ≡ bytes = number_whole l.b-items bytes a.width l.b-index l.v (omega arith) (omega arith) l.invariant in
    ap (put_mid a.at (end - a.at) a.room.now) whole
    ∙ put_mid-sets a.room.now bytes a.at (end - a.at) (omega arith) (omega (arith, c.requires))
