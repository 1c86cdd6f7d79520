-- The track line by a count of its digits.
use Rattle.std.specs.Prelude.{List, ℕ, ◌-◌, drop, ltb}
use Rattle.format.specs.Bytes.{Result, map_result}
use Rattle.format.specs.Digits.{decimal}
use Rattle.dem.specs.Track.{most_digits, read_digits}

-- The number of the line from a place on, of which so many digits, with this value, stand in front of it.
unfoldable pub digits_from : List ℕ → ℕ → ℕ → ℕ → Result ℕ
digits_from s at digits value = map_result (λ ds. decimal ds value) (read_digits (ltb 0 digits) (most_digits - digits) (drop at s))
