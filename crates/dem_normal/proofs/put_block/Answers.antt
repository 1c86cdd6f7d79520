-- `dem_normal::put_block` meets its contract: the head and the body are set one after the other.
use lib.ListN.{take}
use Rattle.dem_normal.proofs.BlockBytes.{block_set}
use Rattle.dem_normal.proofs.put_block.Goals as goal

pub returns : goal.returns
returns c =
    let a = c.args in
    let r1 = c.put_number-a in
    let r2 = c.put_number-b in
    let r3 = c.put_number-c in
    let r4 = c.put_number-d in
    let r5 = c.put_text in
    block_set a.size a.angle0 a.angle1 a.angle2 (take a.size a.body.now) a.room.now r1.new.room r2.new.room r3.new.room r4.new.room r5.new.room
    a.at r1.result r2.result r3.result r4.result r1.ensures.put r1.ensures.next r2.ensures.put r2.ensures.next r3.ensures.put r3.ensures.next
    r4.ensures.put r4.ensures.next r5.ensures.put
