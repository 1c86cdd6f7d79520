-- A string that its layout allows stands in the text, and so do serverinfo's lists of names, kept as one run of bytes.
-- Assumes nothing.
use mathlib.Core.Path.{◌≡◌, sym, subst}
use mathlib.Core.List.{List, [], ◌∷◌}
use mathlib.Core.Logic.{⊎_elim}
use Prim.Native.Nat.{ℕ}
use Rattle.format.specs.Limits.{string_limit}
use Rattle.format.specs.Layout.{done}
use Rattle.dem.specs.Message.{names}
use Rattle.format.proofs.ResultLaws.{clash}
use Rattle.format.proofs.ByteLaws.{StringBytes}
use Rattle.format.proofs.LayoutLaws.{Allowed}
use Rattle.wire.specs.Reads.{text_in}
use Rattle.wire.specs.declared.Text.{Text}
use Rattle.strings.specs.Names.{names_in}
use Rattle.strings.proofs.NameLaws.{no_lists}
use Rattle.dem_writer.specs.Texts.{TextsOf}

module _ (t : List ℕ) (f : Text → List ℕ) (i : TextsOf t f) (p : Text) where
  pub string_inside : StringBytes string_limit (f p) → text_in t p ≡ f p
  string_inside s = ⊎_elim (λ e. sym e) (λ e. no-string (subst (StringBytes string_limit) e s)) (i p)
    where
      no-string : StringBytes string_limit (0 ∷ []) → text_in t p ≡ f p
      no-string z = let e = z.0 in clash (cc)

  pub lists_inside : (m : ℕ) → Allowed (names m (names m done)) (names_in [] (f p)) → text_in t p ≡ f p
  lists_inside m a =
      ⊎_elim (λ e. sym e) (λ e. absurd (no_lists m (subst (λ (b : List ℕ). Allowed (names m (names m done)) (names_in [] b)) e a))) (i p)
