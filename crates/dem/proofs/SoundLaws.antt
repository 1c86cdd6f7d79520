-- The reserved bits of a sound's mask, as code tests them.
-- Assumes nothing.
use mathlib.Core.Path.{◌≡◌, refl}
use mathlib.Core.List.{[], ◌∷◌}
use Prim.Native.Nat.{ℕ, ◌<◌, zero-le}
use lib.Dec.{leb}
use Rattle.format.specs.Bytes.{bit}
use Rattle.format.specs.Masked.{any_set}
use Rattle.format.proofs.EachLaws.{alike, alike_same, in-run}

-- One test computed over all bytes.
pub from_four : (m : ℕ) → m < 256 → leb 4 m ≡ any_set (2 ∷ 3 ∷ 4 ∷ 5 ∷ 6 ∷ 7 ∷ []) (bit m)
unfolding bit
from_four m l =
    alike_same (leb 4 m) (any_set (2 ∷ 3 ∷ 4 ∷ 5 ∷ 6 ∷ 7 ∷ []) (bit m))
    (in-run (λ m. alike (leb 4 m) (any_set (2 ∷ 3 ∷ 4 ∷ 5 ∷ 6 ∷ 7 ∷ []) (bit m))) 0 256 m refl zero-le l)
