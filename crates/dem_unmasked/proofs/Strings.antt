-- A message that ends with a string, or with serverinfo's lists of names: its strings lie where they were read.
-- Assumes nothing.
use mathlib.Core.Path.{◌≡◌, ap, ap₂, ◌∙◌}
use mathlib.Core.List.{List, []}
use mathlib.Core.Bool.{Bool, true, cond, ◌&&◌}
use Prim.Native.Nat.{ℕ, ◌+◌}
use native.Mathlib.Omega.{arith}
use borrow.Author.Tests.{eq-eqb}
use lib.Dec.{eqb}
use lib.ListN.{drop}
use Rattle.format.specs.Bytes.{Result, found}
use Rattle.format.specs.Layout.{Value}
use Rattle.format.specs.Answer.{place_in}
use Rattle.format.proofs.AnswerLaws.{place_drop}
use Rattle.wire.specs.declared.Text.{Text}
use Rattle.strings.specs.Places.{Spans}
use Rattle.dem_types.specs.Places.{ends_at}

module _ (s : List ℕ) (next : ℕ) (x : Result (List Value)) (vs : List Value) where
  -- Where a test of the message holds.
  tested : (b : Bool) → b ≡ true → found vs (drop next s) ≡ x → found (cond b vs []) (drop next s) ≡ x
  tested b h read = ap (λ (b : Bool). found (cond b vs []) (drop next s)) h ∙ read

  pub string_last : (start : ℕ) (t : Text) → Spans s start 1 (t, next) → found vs (drop next s) ≡ x
      → found (cond (ends_at (place_in s (drop next s)) t) vs []) (drop next s) ≡ x
  string_last start t h =
      tested _ (eq-eqb (t.start + t.len + 1) (place_in s (drop next s)) (omega (arith, h.1, place_drop s next h.2)))

  -- Behind the map's name, which is read up to a place.
  pub names_last : (start behind : ℕ) (map names : Text) → Spans s start 1 (map, behind) → Spans s behind 0 (names, next)
      → found vs (drop next s) ≡ x
      → found (cond (ends_at names.start map && eqb (names.start + names.len) (place_in s (drop next s))) vs []) (drop next s) ≡ x
  names_last start behind map names m n =
      tested _ (ap₂ ◌&&◌
      (eq-eqb (map.start + map.len + 1) names.start (omega (arith, n.0, m.1)))
      (eq-eqb (names.start + names.len) (place_in s (drop next s)) (omega (arith, n.1, place_drop s next n.2))))
