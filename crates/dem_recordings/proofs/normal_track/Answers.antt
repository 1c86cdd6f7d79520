-- `dem_recordings::normal_track` meets its contract: the room is tested with the normal line's length, then the line is put.
use mathlib.Core.Path.{ap, ◌∙◌}
use native.Mathlib.Omega.{arith}
use lib.ListN.{length}
use Rattle.std.specs.Prelude.{Result, Err}
use Rattle.std.proofs.lemmas.Result.{err_from_is_err_and}
use Rattle.format.specs.Bytes.{Bytes}
use Rattle.format.specs.Answer.{refusal, reply, written}
use Rattle.format.specs.declared.refusal.Refused.{Refused}
use Rattle.format.proofs.ByteLaws.{bytes_of}
use Rattle.dem_messages.specs.declared.Normal.{Normal}
use Rattle.dem_messages.proofs.Asked.{room-ok, room-refused}
use Rattle.dem_recordings.specs.Replies.{track_written_of}
use Rattle.dem_recordings.proofs.Normals.{number_small, line-roomless, line-written}
use Rattle.dem_recordings.proofs.normal_track.Goals.{In_ok-number}
use Rattle.dem_recordings.proofs.normal_track.Goals as goal

bytes : (c : In_ok-number) → Bytes c.args.bytes.now
bytes c = bytes_of c.args.bytes.now (λ i. (c.type_inv.bytes i).fits)

pub returns-in_err-ask_room : goal.returns-in_err-ask_room
returns-in_err-ask_room c =
    let a = c.args in
    let t = c.in_ok-number in
    let i = (goal.at.returns-in_err-ask_room c).In_ok-number in
    let r = room-refused (length a.room.now) c.track_size.result _ _ c.in_err-ask_room.ensures in
    let q = err_from_is_err_and c.from_residual-in_err-ask_room.result c.from_residual-in_err-ask_room.ensures.1 in
    ap (λ (x : Result Normal Refused). track_written_of x a.room.now) (q.1 ∙ ap Err q.2)
    ∙ (λ j. written (reply tt (refusal (r.1 j) (r.2 j))) a.room.now)
    ∙ line-roomless a.bytes.now (bytes i) t.number t.next t.ensures.value t.ensures.within a.room.now c.track_size.result c.track_size.ensures r.0

pub put_track-length-requires : goal.put_track-length-requires
put_track-length-requires c =
    let t = c.in_ok-number in
    let i = (goal.at.put_track-length-requires c).In_ok-number in (
      number_small c.args.bytes.now (bytes i) t.number t.next t.ensures.value t.ensures.within,
      omega (arith, c.track_size.ensures, room-ok (length c.args.room.now) c.track_size.result c.in_ok-ask_room.ensures),
    )

pub returns : goal.returns
returns c =
    let a = c.args in
    let t = c.in_ok-number in
    let i = (goal.at.returns c).In_ok-number in
    let p = c.put_track-length in
    line-written a.bytes.now (bytes i) t.number t.next t.ensures.value t.ensures.within a.room.now p.new.room p.result p.ensures.next p.ensures.put
    (omega (arith, c.track_size.ensures, room-ok (length a.room.now) c.track_size.result c.in_ok-ask_room.ensures))
