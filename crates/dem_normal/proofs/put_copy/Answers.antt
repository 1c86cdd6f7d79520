-- `dem_normal::put_copy` meets its contract: the bytes put are those read.
use Prim.Native.Nat.{◌-◌}
use lib.ListN.{take, drop}
use Rattle.dem_normal.proofs.PutLaws.{put-sent, put_to}
use Rattle.dem_normal.proofs.put_copy.Goals as goal

pub returns : goal.returns
returns c =
    let a = c.args in
    let r = c.put_text in
    let bytes = take (a.to - a.from) (drop a.from a.s.now) in
    put-sent a.out.now r.new.room a.at bytes a.on r.result c.if-not-on.false
    (put_to a.out.now r.new.room a.at r.result bytes r.ensures.put r.ensures.next c.requires.1)
