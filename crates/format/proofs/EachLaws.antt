-- One computed test of a run of numbers.
-- Assumes nothing.
use mathlib.Core.Path.{◌≡◌, refl, sym, ap, ◌∙◌}
use mathlib.Core.Bool.{Bool, true, false, cond, not, ◌&&◌, not-not}
use Prim.Native.Nat.{ℕ, zero, suc, ◌+◌, ◌<◌, ◌≤◌}
use native.Mathlib.Omega.{arith}
use borrow.Author.Tests.{eqb-true, eqb-false}
use lib.Dec.{eqb}
use Rattle.format.proofs.LayoutLaws.{and_true}

-- The n numbers from a on.
abbrev pub each : (ℕ → Bool) → ℕ → ℕ → Bool
each f a zero = true
each f a (suc n) = f a && each f (suc a) n

pub in-run : (f : ℕ → Bool) (a n k : ℕ) → each f a n ≡ true → a ≤ k → k < a + n → f k ≡ true
in-run f a zero k r l h = let z : ⊥ = omega arith in absurd z
in-run f a (suc n) k r l h =
    let p = and_true (f a) (each f (suc a) n) r in
    go (eqb a k) refl p.0 (λ m. in-run f (suc a) n k p.1 m (omega arith))
  where
    go : (b : Bool) → eqb a k ≡ b → f a ≡ true → (suc a ≤ k → f k ≡ true) → f k ≡ true
    go true e now later = ap f (sym (eqb-true a k e)) ∙ now
    go false e now later = later (omega (arith, eqb-false a k e))

-- Two tests that answer alike.
abbrev pub alike : Bool → Bool → Bool
alike a b = cond a b (not b)

pub alike_same : (a b : Bool) → alike a b ≡ true → a ≡ b
alike_same true b e = sym e
alike_same false b e = sym (ap not e) ∙ not-not b
