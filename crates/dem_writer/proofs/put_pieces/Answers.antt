-- `dem_writer::put_pieces` meets its contract: what is left, put from the place reached on, makes the room that is asked for.
use mathlib.Core.Path.{ap, sym, ◌∙◌}
use native.Mathlib.Omega.{arith}
use lib.ListN.{length}
use lib.Seq.{sets}
use Rattle.format.proofs.ListLaws.{sets_front}
use Rattle.dem_writer.specs.Bytes.{number_piece, bytes_of, pieces_bytes}
use Rattle.dem_writer.proofs.RoomLaws.{size_more, step-size, step_room, pieces_none}
use Rattle.dem_writer.proofs.put_pieces.Goals as goal

pub put_text-behind-requires : goal.put_text-behind-requires
put_text-behind-requires c =
    let l = c.loop-q in
    omega (arith, size_more c.args.text.now c.listed-q-items.result.now l.q-index (number_piece 0 0) c.loop-q-test.true)

pub put_number-at-requires : goal.put_number-at-requires
put_number-at-requires c =
    let l = c.loop-q in
    omega (arith, size_more c.args.text.now c.listed-q-items.result.now l.q-index (number_piece 0 0) c.loop-q-test.true)

pub loop-q-preserved : goal.loop-q-preserved
loop-q-preserved c =
    let l = c.loop-q in
    let t = c.put_text-behind in
    let u = c.put_number-at in
    let a = c.args.text.now in
    let ps = c.listed-q-items.result.now in
    let i = l.q-index in
    let h = c.loop-q-test.true in
    let e = step-size a ps i (number_piece 0 0) h l.room _ _ l.at _ _ t.ensures.put t.ensures.next u.ensures.put u.ensures.next in
    let f = step_room a ps i (number_piece 0 0) h l.room _ _ l.at _ _ t.ensures.put t.ensures.next u.ensures.put u.ensures.next in
    (omega arith, e ∙ l.invariant.1, f ∙ l.invariant.2)

pub returns : goal.returns
returns c =
    let a = c.args in
    let l = c.loop-q in
    let t = a.text.now in
    let ps = c.listed-q-items.result.now in
    let same = ap (bytes_of t) c.listed-q-items.ensures in
    let none = pieces_none t ps l.q-index c.loop-q-test.false in record {
      put = sym (ap (sets l.room l.at) none) ∙ l.invariant.2 ∙ ap (sets a.room.now 0) same
          ∙ sets_front a.room.now (pieces_bytes t a.p) c.requires;
      next = omega (arith, ap length same, ap length none);
    }
