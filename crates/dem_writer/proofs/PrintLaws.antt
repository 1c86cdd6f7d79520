-- Pieces print as a layout does, field by field: `prints-done`, `prints-field` and the others follow its shape.
-- Assumes nothing.
use mathlib.Core.Path.{◌≡◌, refl, ap, ap₂, ◌∙◌, subst}
use mathlib.Core.List.{List, [], ◌∷◌, ◌++◌}
use Prim.Native.Nat.{ℕ}
use lib.IntN.{ℤ}
use mir.Syntax.{Width}
use mir.Val.{to_z, of_z, SFits}
use Rattle.format.specs.Bytes.{le_write}
use Rattle.format.specs.Layout.{Value, number, Layout, done, field, print}
use Rattle.format.specs.Masked.{Slot, Mask, slot_layout}
use Rattle.wire.proofs.SignedLaws.{bits_back}
use Rattle.dem_writer.specs.declared.Piece.{Piece}
use Rattle.dem_writer.specs.Bytes.{number_piece, piece_bytes, bytes_of}

-- A signed number that was handed on has the same bits.
pub bits_of : {p : Piece} {n : ℕ} (w : Width) (z : ℤ) → SFits w z → p ≡ number_piece n (of_z w (to_z w (of_z w z)))
    → p ≡ number_piece n (of_z w z)
bits_of {p} {n} w z f e = e ∙ ap (number_piece n) (bits_back w z f)

-- These pieces have the bytes of these values.
pub record Prints (t : List ℕ) (ps : List Piece) (l : Layout) (vs : List Value) : Type 0 where
  pub same : bytes_of t ps ≡ print l vs

module _ {t : List ℕ} where
  pub prints-done : Prints t [] done []
  unfolding bytes_of print
  prints-done = record { same = refl }

  pub prints-field : {w v : ℕ} {rule : ℕ → ℕ} {k : ℕ → Layout} {p : Piece} {ps : List Piece} {vs : List Value} → p ≡ number_piece w v
      → Prints t ps (k v) vs → Prints t (p ∷ ps) (field w rule k) (number v ∷ vs)
  unfolding bytes_of print
  prints-field e f = record { same = ap₂ (λ (x y : List ℕ). x ++ y) (ap (piece_bytes t) e) f.same }

  -- A number, and a layout behind it.
  pub prints-behind : {w v : ℕ} {l : Layout} {p : Piece} {ps : List Piece} {vs : List Value} → p ≡ number_piece w v → Prints t ps l vs
      → bytes_of t (p ∷ ps) ≡ le_write w v ++ print l vs
  unfolding bytes_of
  prints-behind e f = ap₂ (λ (x y : List ℕ). x ++ y) (ap (piece_bytes t) e) f.same

  -- Fields behind masks that say the same.
  pub prints-slots : (ss : List Slot) {a b : Mask} {ps : List Piece} {vs : List Value} → a ≡ b → Prints t ps (slot_layout ss a done) vs
      → Prints t ps (slot_layout ss b done) vs
  prints-slots ss {a} {b} {ps} {vs} e f = subst (λ (mask : Mask). Prints t ps (slot_layout ss mask done) vs) e f
