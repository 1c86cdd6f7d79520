-- `dem_normal::put_update` meets its contract: the head and the fields that differ are the bytes of the normal form.
use Rattle.dem_normal.proofs.UpdateBytes.{update-put}
use Rattle.dem_normal.proofs.put_update.Goals as goal

pub returns : goal.returns
returns c x =
    let a = c.args in
    let n = c.low_byte-n in
    let h = c.high_byte-high in
    let f = c.put_head-q in
    let g = c.put_fields in
    update-put a.entity.0 a.r a.b n.result h.result h.ensures (n.ensures a.entity.0 h.ensures) a.out.now f.new.out g.new.out
    a.at f.result g.result f.ensures.put g.ensures x
