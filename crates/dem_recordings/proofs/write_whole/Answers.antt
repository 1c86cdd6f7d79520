-- `dem_recordings::write_whole` meets its contract: the track line, and a run of all the blocks that counts; where nothing is refused and the
-- room is enough, the normal line, and a second run that stores behind it.
use mathlib.Core.Path.{ap, ◌∙◌}
use Prim.Native.Nat.{ℕ, ◌+◌, ◌<◌, ◌≤◌}
use native.Mathlib.Omega.{arith}
use lib.ListN.{length}
use Rattle.std.specs.Prelude.{Result, Err}
use Rattle.std.proofs.lemmas.Result.{err_from_is_err_and}
use Rattle.format.specs.Bytes.{Bytes}
use Rattle.format.specs.Answer.{refusal, reply, written}
use Rattle.format.specs.declared.refusal.Refused.{Refused}
use Rattle.format.proofs.ByteLaws.{bytes_of}
use Rattle.dem.specs.Scene.{fresh}
use Rattle.dem_scene.specs.declared.Scene.{Scene}
use Rattle.dem_messages.proofs.Asked.{room-ok, room-refused}
use Rattle.dem_recordings.specs.Steps.{from_start}
use Rattle.dem_recordings.proofs.Normals.{number_small, counted-short, blocks_wrong, recording-roomless, recording-written}
use Rattle.dem_recordings.proofs.write_whole.Goals.{After-write_all-count}
use Rattle.dem_recordings.proofs.write_whole.Goals as goal

bytes : (c : After-write_all-count) → Bytes c.args.bytes.now
bytes c = bytes_of c.args.bytes.now (λ i. (c.type_inv.bytes i).fits)

-- No slice is so long.
abbrev any_room : ℕ
any_room = 18446744073709551615

enough : (c : After-write_all-count) → length c.args.bytes.now ≤ any_room
enough c = omega (arith, c.well_formed.0.1)

longer : (c : After-write_all-count) → length c.args.room.now < any_room
longer c = omega (arith, c.well_formed.1.0.1)

pub returns-in-Some : goal.returns-in-Some
returns-in-Some c =
    let a = c.args in
    let t = c.in_ok-number in
    let i = (goal.at.returns-in-Some c).After-write_all-count in
    let n = c.write_all-count in
    blocks_wrong a.bytes.now (bytes i) t.number t.at t.ensures.value t.ensures.within any_room (enough i) a.room.now (longer i) n.result n.new.room n.ensures
    c.in-Some.r c.in-Some.is

pub overflow_add-needed : goal.overflow_add-needed
overflow_add-needed c =
    let a = c.args in
    let t = c.in_ok-number in
    let i = (goal.at.overflow_add-needed c).After-write_all-count in
    let n = c.write_all-count in
    record {
      fits = omega (
        arith,
        c.track_size-line.ensures,
        c.well_formed.0.0,
        counted-short a.bytes.now (bytes i) t.number t.at t.ensures.value t.ensures.within any_room (enough i) a.room.now (longer i) n.result n.new.room n.ensures,
      );
    }

pub returns-in_err-ask_room : goal.returns-in_err-ask_room
returns-in_err-ask_room c =
    let a = c.args in
    let t = c.in_ok-number in
    let i = (goal.at.returns-in_err-ask_room c).After-write_all-count in
    let n = c.write_all-count in
    let m = c.track_size-line in
    let r = room-refused (length n.new.room) (m.result + n.result.written) _ _ c.in_err-ask_room.ensures in
    let q = err_from_is_err_and c.from_residual-in_err-ask_room.result c.from_residual-in_err-ask_room.ensures.1 in
    ap (λ (x : Result (ℕ × Scene) Refused). written (from_start (λ (k : ℕ). k) x) n.new.room) (q.1 ∙ ap Err q.2)
    ∙ (λ j. written (reply fresh (refusal (r.1 j) (r.2 j))) n.new.room)
    ∙ recording-roomless a.bytes.now (bytes i) t.number t.at t.ensures.value t.ensures.within any_room (enough i) a.room.now (longer i) n.result n.new.room n.ensures
    c.in_default.is m.result m.ensures r.0

pub put_track-requires : goal.put_track-requires
put_track-requires c =
    let a = c.args in
    let t = c.in_ok-number in
    let i = (goal.at.put_track-requires c).After-write_all-count in
    let n = c.write_all-count in (
      number_small a.bytes.now (bytes i) t.number t.at t.ensures.value t.ensures.within,
      omega (arith, c.track_size-line.ensures, room-ok (length n.new.room) (c.track_size-line.result + n.result.written) c.in_ok-ask_room.ensures),
    )

pub returns : goal.returns
returns c =
    let a = c.args in
    let t = c.in_ok-number in
    let i = (goal.at.returns c).After-write_all-count in
    let n = c.write_all-count in
    let m = c.track_size-line in
    let v = c.write_all-w in
    recording-written a.bytes.now (bytes i) t.number t.at t.ensures.value t.ensures.within any_room (enough i) a.room.now (longer i) n.result n.new.room n.ensures
    c.in_default.is m.result m.ensures (room-ok (length n.new.room) (m.result + n.result.written) c.in_ok-ask_room.ensures)
    c.put_track.new.room c.put_track.ensures.put v.result v.new.room v.ensures
