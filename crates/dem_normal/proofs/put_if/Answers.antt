-- `dem_normal::put_if` meets its contract: the bytes stored are in front of the place where they are sent, and behind it else.
use mathlib.Core.Path.{◌≡◌, ap, ap₂, sym, ◌∙◌}
use Prim.Native.Nat.{◌+◌}
use native.Mathlib.Omega.{arith}
use lib.ListN.{length}
use lib.Seq.{sets}
use Rattle.format.specs.Bytes.{le_write}
use Rattle.format.proofs.ByteLaws.{le-length}
use Rattle.dem_normal.proofs.PutLaws.{put-sent, put_unsent, put_to, put-behind}
use Rattle.dem_normal.proofs.put_if.Goals as goal

pub returns-then-sent-clause-put : goal.returns-then-sent-clause-put
returns-then-sent-clause-put g c =
    let a = c.args in
    let p = c.put_number-end in
    let bytes = le_write g.T.Number.WIDTH (g.T.Number.bits a.v) in
    let n : length bytes ≡ g.T.Number.WIDTH = le-length g.T.Number.WIDTH (g.T.Number.bits a.v) in
    let e : p.new.room ≡ sets a.out.now a.at bytes =
    p.ensures.put ∙ ap (sets a.out.now a.at) (ap₂ le_write c.WIDTH.ensures c.to_bits.ensures.value) in
    put-sent a.out.now p.new.room a.at bytes a.sent p.result c.if-sent.true
    (put_to a.out.now p.new.room a.at p.result bytes e
    (p.ensures.next ∙ ap (◌+◌ a.at) (c.WIDTH.ensures ∙ sym n)) (omega (arith, c.requires)))

pub returns-else-sent-clause-put : goal.returns-else-sent-clause-put
returns-else-sent-clause-put g c =
    let a = c.args in
    let p = c.put_number-end in
    let bytes = le_write g.T.Number.WIDTH (g.T.Number.bits a.v) in
    let n : length bytes ≡ g.T.Number.WIDTH = le-length g.T.Number.WIDTH (g.T.Number.bits a.v) in
    let e : p.new.room ≡ sets a.out.now a.at bytes =
    p.ensures.put ∙ ap (sets a.out.now a.at) (ap₂ le_write c.WIDTH.ensures c.to_bits.ensures.value) in
    put_unsent a.out.now p.new.room a.at bytes a.sent c.if-sent.false
    (put-behind a.out.now p.new.room a.at bytes e (omega (arith, c.requires)))
