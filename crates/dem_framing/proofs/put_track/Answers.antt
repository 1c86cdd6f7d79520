-- `dem_framing::put_track` meets its contract: the sign and the digits, stored from the front on, are the line.
use mathlib.Core.Path.{sym, ap, ◌∙◌}
use mathlib.Core.Bool.{true, false}
use native.Mathlib.Omega.{arith}
use lib.ListN.{length, length-set}
use lib.Seq.{sets}
use Rattle.dem.specs.Track.{normal_track, write_track}
use Rattle.format.proofs.ListLaws.{sets_front}
use Rattle.dem_framing.proofs.NormalLaws.{line, same_magnitude}
use Rattle.dem_framing.proofs.put_track.Goals as goal

pub bounds-room-0 : goal.bounds-room-0
bounds-room-0 c =
    omega (arith, c.requires, ap length (line _ true c.ranges.number _ c.unsigned_abs-v.ensures.value c.if-number-lt0.true))

pub put_digits-requires : goal.put_digits-requires
put_digits-requires c =
    let m = c.unsigned_abs-v in
    let e = ap length (line _ true c.ranges.number _ m.ensures.value c.if-number-lt0.true) in
    (omega (arith, c.requires, same_magnitude _ _ c.ranges.number m.ensures.value), simp length-set (omega (arith, c.requires, e)))

pub returns-then-number-lt0 : goal.returns-then-number-lt0
returns-then-number-lt0 c =
    let room = c.args.room.now in
    let m = c.unsigned_abs-v in
    let d = c.put_digits in
    let e = line _ true c.ranges.number _ m.ensures.value c.if-number-lt0.true in record {
      put = d.ensures.put ∙ ap (sets room 0) (sym e) ∙ sets_front room (write_track (normal_track c.args.number)) c.requires.1;
      next = omega (arith, d.ensures.next, ap length e);
    }

pub put_digits-requires-2 : goal.put_digits-requires-2
put_digits-requires-2 c =
    let m = c.unsigned_abs-v in
    let e = ap length (line _ false c.ranges.number _ m.ensures.value c.if-number-lt0.false) in
    (omega (arith, c.requires, same_magnitude _ _ c.ranges.number m.ensures.value), omega (arith, c.requires, e))

pub returns : goal.returns
returns c =
    let room = c.args.room.now in
    let m = c.unsigned_abs-v in
    let d = c.put_digits-2 in
    let e = line _ false c.ranges.number _ m.ensures.value c.if-number-lt0.false in record {
      put = d.ensures.put ∙ ap (sets room 0) (sym e) ∙ sets_front room (write_track (normal_track c.args.number)) c.requires.1;
      next = omega (arith, d.ensures.next, ap length e);
    }
