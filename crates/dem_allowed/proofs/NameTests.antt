-- Serverinfo's two lists, tested by reading them: what is read from all of some bytes is allowed, and is the names in them; and where the
-- names in some bytes are allowed, these print to those bytes, which then read to them. So the test is: read, with nothing left.
-- Assumes nothing.
use mathlib.Core.Path.{◌≡◌, refl, sym, ap, ◌∙◌}
use mathlib.Core.List.{List, [], ◌∷◌, ◌++◌, append-nil}
use mathlib.Core.Bool.{Bool, true, false}
use Prim.Native.Nat.{ℕ, ◌+◌, ◌<◌}
use native.Mathlib.Omega.{arith}
use borrow.Author.Tests.{leb-true, leb-false}
use lib.Dec.{leb}
use lib.ListN.{length, drop, length-drop, drop_of_length-le}
use Rattle.format.specs.Bytes.{Bytes, found, refused}
use Rattle.format.specs.Layout.{Value, done, parse, print, allows}
use Rattle.dem.specs.Message.{names}
use Rattle.format.proofs.ResultLaws.{clash}
use Rattle.format.proofs.LayoutLaws.{parse-sound, parse_complete, allows←}
use Rattle.wire.specs.Reads.{placed}
use Rattle.wire.specs.declared.Text.{Text}
use Rattle.strings.specs.Names.{names_in}
use Rattle.strings.proofs.NameLaws.{lists_strings, lists-print, no_lists}
use Rattle.dem_allowed.proofs.Steps.{refuted}
use Rattle.dem_allowed.proofs.StringTests.{placed_outside}

-- ---- the test of some bytes

module _ (m : ℕ) (bs : List ℕ) where
  lists-read : (vs : List Value) → Bytes bs → parse (names m (names m done)) bs ≡ found vs []
      → true ≡ allows (names m (names m done)) (names_in [] bs)
  lists-read vs h e =
      let r = parse-sound (names m (names m done)) bs vs [] h e in
      let p : print (names m (names m done)) vs ≡ bs = sym (append-nil (print (names m (names m done)) vs)) ∙ r.tiles in
      let v : names_in [] bs ≡ vs = ap (names_in []) (sym p) ∙ lists_strings m vs r.fits in
      sym (ap (allows (names m (names m done))) v ∙ allows← (names m (names m done)) vs r.fits)

  lists_unread : ((vs : List Value) → parse (names m (names m done)) bs ≡ found vs [] → ⊥)
      → false ≡ allows (names m (names m done)) (names_in [] bs)
  lists_unread n =
      refuted (names m (names m done)) (names_in [] bs) (λ a. n (names_in [] bs)
      (ap (parse (names m (names m done))) (sym (append-nil bs) ∙ ap (λ (l : List ℕ). l ++ []) (sym (lists-print m bs a)))
      ∙ parse_complete (names m (names m done)) (names_in [] bs) [] a))

-- What was read from some bytes, and how far.
module _ (m : ℕ) (s : List ℕ) where
  pub lists-refused : (n : ℕ) (left : List ℕ) → refused n left ≡ parse (names m (names m done)) s
      → false ≡ allows (names m (names m done)) (names_in [] s)
  lists-refused n left q = lists_unread m s (λ us e. let y : refused n left ≡ found us [] = q ∙ e in clash (cc))

  pub lists-found : Bytes s → (vs : List Value) (next : ℕ) → found vs (drop next s) ≡ parse (names m (names m done)) s
      → leb (length s) next ≡ allows (names m (names m done)) (names_in [] s)
  lists-found bytes vs next q = go (leb (length s) next) refl
    where
      go : (b : Bool) → leb (length s) next ≡ b → b ≡ allows (names m (names m done)) (names_in [] s)
      go true e = lists-read m s vs bytes (sym q ∙ ap (found vs) (drop_of_length-le s {i = next} (leb-true (length s) next e)))
      go false e =
          lists_unread m s (λ us f. let y : found vs (drop next s) ≡ found us [] = q ∙ f in let x : drop next s ≡ [] = cc y in
          omega (arith, ap length x, length-drop next s, leb-false (length s) next e))

-- Outside a text there are no lists.
pub lists_outside : (m : ℕ) (t : List ℕ) (p : Text) → length t < p.start + p.len
    → false ≡ allows (names m (names m done)) (names_in [] (placed t p))
lists_outside m t p h =
    refuted (names m (names m done)) (names_in [] (0 ∷ [])) (no_lists m)
    ∙ ap (λ (l : List ℕ). allows (names m (names m done)) (names_in [] l)) (sym (placed_outside t p h))
