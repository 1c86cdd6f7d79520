-- The messages that name an entity in two bytes, those with a mask in their shortest and their longest form: whatever the two bytes are, an
-- entity below the count is accepted, and any other is refused as a wrong number. An update's entity in one byte is never refused.
-- Assumes nothing.
use mathlib.Core.Path.{◌≡◌, refl}
use mathlib.Core.List.{List, [], ◌∷◌, ◌++◌, map}
use mathlib.Core.Bool.{Bool, true, false, cond}
use Prim.Native.Nat.{ℕ, ◌/◌, ◌<◌}
use native.Mathlib.Omega.{arith}
use borrow.Author.Tests.{lt-ltb}
use lib.Dec.{ltb}
use lib.ListN.{replicate}
use Rattle.format.specs.Refusal.{wrong_number}
use Rattle.format.specs.Bytes.{Result, found, refused, bit, read_number, le_read, unless}
use Rattle.format.specs.Layout.{Value, parse}
use Rattle.dem.specs.Limits.{entity_count}
use Rattle.dem.specs.Scene.{Context}
use Rattle.dem.specs.Message.{layout, kind_layout}
use Rattle.dem.specs.Kind

-- A message that names one: the bytes before the two; whether the low three bits of these are a channel; how many bytes are behind them.
pub data Naming : Type 0 where
  naming : List ℕ → Bool → ℕ → Naming

abbrev namings : List Naming
namings =
    naming (Kind.view ∷ []) false 0
    ∷ naming (Kind.sound ∷ 0 ∷ []) true 7
    ∷ naming (Kind.sound ∷ 3 ∷ 0 ∷ 0 ∷ []) true 7
    ∷ naming (16 ∷ []) true 0  -- stopsound
    ∷ naming (Kind.baseline ∷ []) false 13
    ∷ naming (Kind.temporary ∷ 5 ∷ []) false 12
    ∷ naming (Kind.temporary ∷ 6 ∷ []) false 12
    ∷ naming (Kind.temporary ∷ 9 ∷ []) false 12
    ∷ naming (Kind.temporary ∷ 13 ∷ []) false 12
    ∷ naming (0x81 ∷ 0x40 ∷ []) false 0  -- update
    ∷ naming (0xFF ∷ 0x7F ∷ []) false 14
    ∷ []

abbrev refusal_of : Result (List Value) → ℕ
refusal_of (found vs rest) = 0
refusal_of (refused n left) = n

-- What a message is refused with, zeros behind its entity.
abbrev answer : Context → List ℕ → Naming → ℕ
answer c two (naming before channel behind) = refusal_of (parse (layout c) (before ++ two ++ replicate behind 0))

abbrev expected : List ℕ → Naming → ℕ
expected two (naming before channel behind) = unless (ltb (cond channel (le_read two / 8) (le_read two)) entity_count) wrong_number

pub entities_bounded : (c : Context) (a b : ℕ) → map (answer c (a ∷ b ∷ [])) namings ≡ map (expected (a ∷ b ∷ [])) namings
unfolding layout kind_layout parse read_number bit
entities_bounded c a b = let word = le_read (a ∷ b ∷ []) in go (ltb word entity_count) (ltb (word / 8) entity_count) refl refl
  where
    go : (alone shared : Bool) → ltb (le_read (a ∷ b ∷ [])) entity_count ≡ alone → ltb (le_read (a ∷ b ∷ []) / 8) entity_count ≡ shared
        → map (answer c (a ∷ b ∷ [])) namings ≡ map (expected (a ∷ b ∷ [])) namings
    go true true p q = rw (p, q)
    go true false p q = rw (p, q)
    go false true p q = rw (p, q)
    go false false p q = rw (p, q)

pub short_entity-read : (c : Context) (e : ℕ) → e < 256 → refusal_of (parse (layout c) (0x80 ∷ e ∷ [])) ≡ 0
unfolding layout kind_layout parse read_number bit
short_entity-read c e h = rw (lt-ltb (le_read (e ∷ [])) entity_count (omega arith))
