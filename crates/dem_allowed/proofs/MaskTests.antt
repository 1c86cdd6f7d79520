-- Fields that are sent or else 0, as code tests them.
-- Assumes nothing.
use mathlib.Core.Path.{◌≡◌, ap, ap₂, ◌∙◌}
use mathlib.Core.Bool.{Bool, ◌&&◌, ◌||◌}
use Prim.Native.Nat.{ℕ}
use lib.Dec.{eqb}
use lib.IntN.{ℤ}
use mir.Syntax.{Width}
use mir.Val.{to_z, of_z, SFits}
use Rattle.wire.proofs.SignedLaws.{bits_back}

-- A signed field, by its bits.
pub signed_fits : {b : Bool} (w : Width) (s : Bool) (z : ℤ) → SFits w z → b ≡ (s || eqb (of_z w (to_z w (of_z w z))) 0)
    → b ≡ (s || eqb (of_z w z) 0)
signed_fits w s z f e = e ∙ ap (λ (n : ℕ). s || eqb n 0) (bits_back w z f)

-- Two tests that say the same.
pub both : {a b c d : Bool} → a ≡ c → b ≡ d → (a && b) ≡ (c && d)
both p q = ap₂ (λ (x y : Bool). x && y) p q
