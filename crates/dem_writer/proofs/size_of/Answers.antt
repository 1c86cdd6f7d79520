-- `dem_writer::size_of` meets its contract: the size so far and that of the pieces left is the whole size, so no sum wraps.
use mathlib.Core.Path.{ap}
use native.Mathlib.Omega.{arith}
use lib.ListN.{length}
use Rattle.dem_writer.specs.Bytes.{number_piece, bytes_of}
use Rattle.dem_writer.proofs.RoomLaws.{size_more, pieces_none}
use Rattle.dem_writer.proofs.size_of.Goals as goal

pub overflow_add-size : goal.overflow_add-size
overflow_add-size c =
    let l = c.loop-q in
    let e = size_more c.args.text.now c.listed-q-items.result.now l.q-index (number_piece 0 0) c.loop-q-test.true in
    omega (arith, e, ap length c.part.ensures)

pub overflow_add-size-in-loop-q : goal.overflow_add-size-in-loop-q
overflow_add-size-in-loop-q c =
    let l = c.loop-q in
    let e = size_more c.args.text.now c.listed-q-items.result.now l.q-index (number_piece 0 0) c.loop-q-test.true in
    omega (arith, e, ap length c.part.ensures)

pub loop-q-preserved : goal.loop-q-preserved
loop-q-preserved c =
    let l = c.loop-q in
    let e = size_more c.args.text.now c.listed-q-items.result.now l.q-index (number_piece 0 0) c.loop-q-test.true in
    (l.invariant.0, omega (arith, e, ap length c.part.ensures))

pub returns : goal.returns
returns c =
    let t = c.args.text.now in
    let ps = c.listed-q-items.result.now in
    omega (arith, ap length (ap (bytes_of t) c.listed-q-items.ensures), ap length (pieces_none t ps c.loop-q.q-index c.loop-q-test.false))
