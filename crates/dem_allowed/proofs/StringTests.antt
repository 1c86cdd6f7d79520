-- A string at a place of a text: a place outside the text has no string's bytes, and a string that is too long is none.
-- Assumes nothing.
use mathlib.Core.Path.{◌≡◌, refl, ap}
use mathlib.Core.List.{List, [], ◌∷◌}
use mathlib.Core.Bool.{Bool, false, cond, not, ◌&&◌, and-false, and-true}
use Prim.Native.Nat.{ℕ, zero, suc, ◌+◌, ◌<◌, ◌≤◌}
use native.Mathlib.Omega.{arith}
use borrow.Author.Tests.{lt-leb, lt-ltb}
use lib.Dec.{ltb, eqb}
use lib.ListN.{length}
use Rattle.std.specs.List.{list_all}
use Rattle.format.specs.Bytes.{Bytes}
use Rattle.format.specs.Layout.{string_bytes}
use Rattle.wire.specs.Reads.{text_in, placed}
use Rattle.wire.specs.declared.Text.{Text}

pub placed_outside : (t : List ℕ) (p : Text) → length t < p.start + p.len → placed t p ≡ 0 ∷ []
unfolding placed
placed_outside t p h = ap (λ (b : Bool). cond b (text_in t p) (0 ∷ [])) (lt-leb (p.start + p.len) (length t) h)

pub string-long : (n : ℕ) (t : List ℕ) → n ≤ length t → false ≡ string_bytes n t
string-long zero t h = refl
string-long (suc n) [] h = let z : ⊥ = omega arith in absurd z
string-long (suc n) (b ∷ t) h =
    let front : Bool = not (eqb b 0) && not (eqb b 255) && ltb b 256 in
    rw (← string-long n t (omega arith), and-false front)

abbrev pub is_plain : ℕ → Bool
is_plain b = not (eqb b 0) && not (eqb b 255)

pub string-short : (n : ℕ) (t : List ℕ) → length t < n → Bytes t → list_all is_plain t ≡ string_bytes n t
string-short zero t h bs = let z : ⊥ = omega arith in absurd z
string-short (suc n) [] h bs = refl
string-short (suc n) (b ∷ t) h bs = rw (string-short n t (omega arith) bs.1, lt-ltb b 256 bs.0, and-true (is_plain b))
