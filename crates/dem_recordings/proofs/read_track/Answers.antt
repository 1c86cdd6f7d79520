-- `dem_recordings::read_track` meets its contract: it is the reader's answer, with its place.
use mathlib.Core.Path.{ap, ◌∙◌}
use lib.IntN.{ℤ}
use Rattle.format.specs.Answer.{result}
use Rattle.format.proofs.ByteLaws.{bytes_of}
use Rattle.dem_recordings.proofs.Recordings.{track-number, track-read}
use Rattle.dem_recordings.proofs.read_track.Goals as goal

pub returns : goal.returns
returns c =
    let t = c.in_ok-number in
    let s = c.args.bytes.now in
    ap (λ (z : ℤ). result (record { number = z; next = t.next })) (track-number s (bytes_of s (λ i. (c.type_inv.bytes i).fits)) t.number t.next t.ensures.value)
    ∙ track-read s t.number t.next t.ensures.within t.ensures.value
