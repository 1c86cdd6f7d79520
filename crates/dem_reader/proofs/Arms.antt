-- The arms of the match on a message's number that read no reader's message.
-- Assumes nothing.
use mathlib.Core.Path.{◌≡◌, refl, sym, ap, ◌∙◌, subst}
use mathlib.Core.Logic.{◌≢◌}
use mathlib.Core.List.{List, [], ◌∷◌}
use mathlib.Core.Bool.{Bool, true, false, not, ◌&&◌, ◌||◌}
use Prim.Native.Nat.{ℕ, ◌≤◌}
use borrow.Author.Tests.{le-leb, leb-true, eqb-true, eqb-false}
use lib.Dec.{leb, eqb}
use Rattle.format.specs.Bytes.{Result, found}
use Rattle.format.specs.Layout.{Value, number, Layout, put, parse}
use Rattle.dem.specs.Scene.{Context}
use Rattle.dem.specs.Message.{is_message, update_layout, kind_layout}
use Rattle.dem.proofs.MessageLaws.{kind-update}
use Rattle.dem_parts.specs.Kinds.{kind_in}
use Rattle.dem_reader.proofs.Passing.{one_of}

-- The messages without fields.
abbrev is_bare : ℕ → Bool
is_bare n = ((((eqb n 1 || eqb n 2) || eqb n 27) || eqb n 28) || eqb n 30) || eqb n 33

pub bare_kind : (x : Context) (n : ℕ) (bs : List ℕ) → is_bare n ≡ true → kind_in x n bs ≡ found (number n ∷ []) bs
unfolding kind_in kind_layout parse
bare_kind x n bs =
    one_of P n 33 _ (one_of P n 30 _ (one_of P n 28 _ (one_of P n 27 _ (one_of P n 2 _
    (λ h. subst P (sym (eqb-true n 1 h)) refl) refl) refl) refl) refl) refl
  where
    P : ℕ → Type 0
    P n = kind_in x n bs ≡ found (number n ∷ []) bs

-- A message that is none of the others is an update.
pub above : (n : ℕ) → is_message n ≡ true → (1 ≤ n → n ≤ 34 → n ≢ 21 → ⊥) → 128 ≤ n
above n h none = go (leb 128 n) (leb 1 n) (leb n 34) (eqb n 21) refl refl refl refl h
  where
    go : (a b c d : Bool) → leb 128 n ≡ a → leb 1 n ≡ b → leb n 34 ≡ c → eqb n 21 ≡ d → (a || (b && c && not d)) ≡ true → 128 ≤ n
    go true b c d ea eb ec ed p = leb-true 128 n ea
    go false true true false ea eb ec ed p = absurd (none (leb-true 1 n eb) (leb-true n 34 ec) (eqb-false n 21 ed))
    go false true true true ea eb ec ed p = absurd (cc)
    go false true false d ea eb ec ed p = absurd (cc)
    go false false c d ea eb ec ed p = absurd (cc)

pub update_arm : (x : Context) (n : ℕ) (bs : List ℕ) (r : Result (List Value)) → 128 ≤ n → r ≡ put (number n) (parse (update_layout n) bs)
    → r ≡ kind_in x n bs
unfolding kind_in
update_arm x n bs r h p = p ∙ ap (λ (l : Layout). put (number n) (parse l bs)) (sym (kind-update x n (le-leb 128 n h)))
