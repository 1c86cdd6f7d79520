use mathlib.Core.Path.{◌≡◌}
use Prim.Native.Nat.{◌-◌, ◌^◌, ◌≤◌, ◌<◌}
use Rattle.dem.specs.Track.{most_digits}
use Rattle.dem_framing.specs.Tracks.{digits_from}
use Rattle.dem_framing.proofs.read_digits.Given as goal

abbrev pub invariant-loop-at : goal.invariant-loop-at
invariant-loop-at l =
    let digits = l.at - l.start in
    (digits ≤ most_digits) × (l.value < 10 ^ digits) × (digits_from l.s l.start 0 0 ≡ digits_from l.s l.at digits l.value)
