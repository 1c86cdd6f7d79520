-- Places counted from a recording's first byte.
-- Assumes nothing.
use mathlib.Core.Path.{◌≡◌, ap}
use mathlib.Core.Bool.{cond}
use Prim.Native.Nat.{ℕ, ◌+◌}
use native.Mathlib.Omega.{arith}
use lib.Dec.{ltb}
use Rattle.dem_stream.specs.Pieces.{greatest, place_behind}

-- Bytes before bytes are counted by their sum.
pub behind_both : (before more place : ℕ) → place_behind before (more + place) ≡ place_behind (before + more) place
behind_both before more place =
    let sum : before + (more + place) ≡ before + more + place = omega arith in ap (λ (n : ℕ). cond (ltb greatest n) greatest n) sum
