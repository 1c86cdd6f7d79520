-- `dem_stream::normal_piece` meets its contract: what is told of blocks that were written, which are within the piece and the room.
use mathlib.Core.Path.{ap, ◌∙◌}
use Rattle.format.specs.Bytes.{Bytes}
use Rattle.format.proofs.ByteLaws.{bytes_of}
use Rattle.dem_scene.specs.Views.{scene_of}
use Rattle.dem_recordings.specs.Replies.{rewriting_of}
use Rattle.dem_stream.specs.Pieces.{piece_of, piece_at}
use Rattle.dem_stream.proofs.AnswerLaws.{blocks_within}
use Rattle.dem_stream.proofs.CutLaws.{place_next}
use Rattle.dem_stream.proofs.normal_piece.Goals as goal

pub returns-in-Ok-clause-room_after : goal.returns-in-Ok-clause-room_after
unfolding piece_at
returns-in-Ok-clause-room_after c =
    let a = c.args in
    let r = c.normal_blocks_at-reply in
    let w = rewriting_of c.in-Ok.w in
    let h : Bytes a.bytes.now = bytes_of a.bytes.now (λ i. (c.type_inv.bytes i).fits) in
    let e = rw c.in-Ok.is at r.ensures in
    let next = place_next (scene_of a.scene) (scene_of r.result.scene) a.bytes.now a.last a.room.now r.new.room w h e in
    let number = c.refused_behind.ensures.number in
    let place = c.refused_behind.ensures.place w.progress.next next in
    (λ i. record {
      told = record { used = w.progress.next; written = w.length; refusal = number i; place = place i };
      scene = scene_of r.result.scene;
      room = r.new.room;
    })
    ∙ ap (piece_of a.last a.before) e

pub returns-in-Ok-clause-within : goal.returns-in-Ok-clause-within
returns-in-Ok-clause-within c =
    let r = c.normal_blocks_at-reply in
    blocks_within c.args.bytes.now c.args.room.now (scene_of c.args.scene) (scene_of r.result.scene) (rewriting_of c.in-Ok.w) r.new.room
    (rw c.in-Ok.is at r.ensures)
