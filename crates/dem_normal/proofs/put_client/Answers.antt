-- `dem_normal::put_client` meets its contract: number, mask and fields are the bytes of the normal form.
use mathlib.Core.List.{◌∷◌, ◌++◌}
use mathlib.Core.Path.{refl}
use borrow.Author.Rules.{rules}
use mir.Syntax.{w32}
use lib.ListN.{take, drop}
use Rattle.dem.specs.Message.{client_slots}
use Rattle.dem_types.specs.Values.{motion_values, arms_values, long}
use Rattle.dem_normal.specs.Sent.{sent_bytes}
use Rattle.dem_normal.specs.Client.{supplies_bytes}
use Rattle.wire.proofs.SignedLaws.{bits_back}
use Rattle.dem_normal.proofs.PutLaws.{PutSlots, number_then, slots_then, put_then}
use Rattle.dem_normal.proofs.ClientBytes.{client-put}
use Rattle.dem_normal.proofs.put_client.Goals as goal

pub returns : goal.returns
returns c x =
    let a = c.args in
    let u = a.c in
    let n = c.put_if-n in
    let m = c.put_if-m in
    let i = c.put_motion-i in
    let w = c.put_if-w in
    let s = c.put_arms-s in
    let l = c.put_supplies in
    let values = long u.items ∷ arms_values u.arms in
    let later : PutSlots i.new.out s.new.out i.result s.result (drop 8 client_slots) values =
    number_then w.new.out w.result (bits_back w32 u.items (search rules)) w.ensures.put (record { put = s.ensures.put }) in
    let slots = slots_then (take 8 client_slots) (drop 8 client_slots) (motion_values u.motion) values m.new.out i.new.out s.new.out
    m.result i.result s.result refl i.ensures.put later.put in
    client-put u c.client_mask.result c.client_mask.ensures a.out.now n.new.out m.new.out l.new.out a.at n.result m.result l.result
    n.ensures.put m.ensures.put
    (put_then m.new.out s.new.out l.new.out m.result s.result l.result (sent_bytes client_slots (motion_values u.motion ++ values))
    (supplies_bytes u.supplies) slots l.ensures) x
