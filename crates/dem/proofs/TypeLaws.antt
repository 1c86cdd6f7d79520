-- The types of temporary entities, each by the bytes that it has behind the message's number: an origin, an entity and two places, or an
-- origin and colours. Every other type is refused, and so is all ones where an entity is asked for, which is just in the lines.
-- Assumes nothing.
use mathlib.Core.Path.{◌≡◌, refl}
use mathlib.Core.List.{List, [], ◌∷◌}
use mathlib.Core.Bool.{true, cond}
use Prim.Native.Nat.{ℕ, ◌-◌}
use lib.Dec.{eqb}
use lib.ListN.{length, get_or, replicate}
use Rattle.format.specs.Bytes.{Result, found, refused, read_number}
use Rattle.format.specs.Layout.{Value, parse}
use Rattle.dem.specs.Scene.{Context}
use Rattle.dem.specs.Message.{kind_layout}
use Rattle.dem.specs.Kind
use Rattle.format.proofs.EachLaws.{each}

-- The bytes that are read of fifteen; none where something is refused.
abbrev taken : Result (List Value) → ℕ
taken (found vs rest) = 15 - length rest
taken (refused n left) = 0

-- Of a type, and one byte again and again.
abbrev size : Context → ℕ → ℕ → ℕ
size c byte type = taken (parse (kind_layout c Kind.temporary) (type ∷ replicate 14 byte))

abbrev line_size : ℕ
line_size = 15

-- Of the types in turn.
abbrev sizes : List ℕ
sizes = 7 ∷ 7 ∷ 7 ∷ 7 ∷ 7 ∷ line_size ∷ line_size ∷ 7 ∷ 7 ∷ line_size ∷ 7 ∷ 7 ∷ 9 ∷ line_size ∷ []

-- One test computed over every type.
pub type_sizes : (c : Context) → each (λ k. eqb (size c 0 k) (get_or sizes k 0)) 0 256 ≡ true
unfolding kind_layout parse read_number
type_sizes c = refl

pub lines_alone_bounded : (c : Context) → each (λ k. let s = get_or sizes k 0 in eqb (size c 255 k) (cond (eqb s line_size) 0 s)) 0 256 ≡ true
unfolding kind_layout parse read_number
lines_alone_bounded c = refl
