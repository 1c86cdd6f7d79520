-- A block's head and body, put one after the other into room.
-- Assumes nothing.
use mathlib.Core.Path.{◌≡◌, ap, ◌∙◌}
use mathlib.Core.List.{List, [], ◌∷◌, ◌++◌}
use Prim.Native.Nat.{ℕ, ◌+◌}
use lib.ListN.{length}
use lib.Seq.{sets}
use Rattle.format.specs.Bytes.{le_write}
use Rattle.format.specs.Layout.{number, print}
use Rattle.dem.specs.Recording.{angle_layout}
use Rattle.format.proofs.ListLaws.{sets_append}

-- Bytes set at a place, then others behind them.
pub sets_then : (a b c : List ℕ) (p q : ℕ) (xs ys : List ℕ) → b ≡ sets a p xs → q ≡ p + length xs → c ≡ sets b q ys → c ≡ sets a p (xs ++ ys)
sets_then a b c p q xs ys eb eq ec =
    ec ∙ ap (λ (n : ℕ). sets b n ys) eq ∙ ap (λ (l : List ℕ). sets l (p + length xs) ys) eb ∙ sets_append a p xs ys

module _ (size a0 a1 a2 : ℕ) (body : List ℕ) (s s1 s2 s3 s4 s5 : List ℕ) (at p1 p2 p3 p4 : ℕ) where
  pub block_set : s1 ≡ sets s at (le_write 4 size) → p1 ≡ at + 4 → s2 ≡ sets s1 p1 (le_write 4 a0) → p2 ≡ p1 + 4
      → s3 ≡ sets s2 p2 (le_write 4 a1) → p3 ≡ p2 + 4 → s4 ≡ sets s3 p3 (le_write 4 a2) → p4 ≡ p3 + 4 → s5 ≡ sets s4 p4 body
      → s5 ≡ sets s at (le_write 4 size ++ (print angle_layout (number a0 ∷ number a1 ∷ number a2 ∷ []) ++ body))
  unfolding print
  block_set e1 f1 e2 f2 e3 f3 e4 f4 e5 =
      let last = sets_then s3 s4 s5 p3 p4 (le_write 4 a2) body e4 f4 e5 in
      let third = sets_then s2 s3 s5 p2 p3 (le_write 4 a1) (le_write 4 a2 ++ body) e3 f3 last in
      let second = sets_then s1 s2 s5 p1 p2 (le_write 4 a0) (le_write 4 a1 ++ (le_write 4 a2 ++ body)) e2 f2 third in
      sets_then s s1 s5 at p1 (le_write 4 size) (le_write 4 a0 ++ (le_write 4 a1 ++ (le_write 4 a2 ++ body))) e1 f1 second
