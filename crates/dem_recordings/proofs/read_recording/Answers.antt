-- `dem_recordings::read_recording` meets its contract: the track line, then a run of all the blocks from the scene at the start.
use mathlib.Core.Path.{◌≡◌, ap, ◌∙◌}
use lib.IntN.{ℤ}
use lib.ListN.{length, drop}
use Rattle.format.specs.Bytes.{Bytes}
use Rattle.format.specs.Codec.{run_most}
use Rattle.format.specs.Answer.{refusal, result, reply}
use Rattle.format.specs.Refusals.{number_of}
use Rattle.format.proofs.ByteLaws.{bytes_of}
use Rattle.dem.specs.Scene.{Scene, fresh, in_range}
use Rattle.dem.specs.Recording.{blocks}
use Rattle.dem.proofs.RangeLaws.{fresh_range}
use Rattle.dem_scene.specs.Views.{scene_of}
use Rattle.dem_blocks.specs.Runs.{told_of, answered}
use Rattle.dem_recordings.proofs.Recordings.{track-number, recording-refused, recording-read}
use Rattle.dem_recordings.proofs.read_recording.Goals.{After-read_blocks-b}
use Rattle.dem_recordings.proofs.read_recording.Goals as goal

bytes : (c : After-read_blocks-b) → Bytes c.args.bytes.now
bytes c = bytes_of c.args.bytes.now (λ i. (c.type_inv.bytes i).fits)

-- The run begins in the scene at the start.
from_start : (c : After-read_blocks-b)
    → answered c.read_blocks-b.result
    ≡ told_of fresh (length c.args.bytes.now) 0 0 (run_most blocks (length c.args.bytes.now) fresh (drop c.in-Ok.line.1 c.args.bytes.now))
from_start c =
    let s = c.args.bytes.now in
    c.read_blocks-b.ensures
    ∙ ap (λ (t : Scene). told_of t (length s) 0 0 (run_most blocks (length s) t (drop c.in-Ok.line.1 s))) c.start-2.ensures

pub read_blocks-b-requires : goal.read_blocks-b-requires
read_blocks-b-requires c = (c.in-Ok.ensures.within, ap in_range c.start-2.ensures ∙ fresh_range)

pub returns-in-Some : goal.returns-in-Some
returns-in-Some c =
    let t = c.in-Ok in
    let r = c.in-Some.r in
    let i = (goal.at.returns-in-Some c).After-read_blocks-b in
    ap (λ (z : Scene). reply z (refusal (number_of r.refusal) r.place)) c.start-in-Some.ensures
    ∙ recording-refused c.args.bytes.now (bytes i) t.line.0 t.line.1 t.ensures.value c.read_blocks-b.result (from_start i) r c.in-Some.is

pub returns : goal.returns
returns c =
    let t = c.in-Ok in
    let b = c.read_blocks-b.result in
    let i = (goal.at.returns c).After-read_blocks-b in
    ap (λ (z : ℤ). reply (scene_of b.scene) (result (record { track = z; blocks = b.blocks; messages = b.messages })))
    (track-number c.args.bytes.now (bytes i) t.line.0 t.line.1 t.ensures.value)
    ∙ recording-read c.args.bytes.now (bytes i) t.line.0 t.line.1 t.ensures.value b (from_start i) c.in_default.is
