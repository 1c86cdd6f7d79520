-- What the places of strings stand for.
use Rattle.std.specs.Prelude.{◌≡◌, List, [], ◌∷◌, ◌⊎◌, ℕ}
use Rattle.wire.specs.Reads.{text_in}
use Rattle.wire.specs.declared.Text.{Text}

-- Each place stands for its bytes in a text, or for bytes of no string and of no lists, as where it does not lie inside the text.
abbrev pub TextsOf : List ℕ → (Text → List ℕ) → Type 0
TextsOf t f = (p : Text) → (f p ≡ text_in t p) ⊎ (f p ≡ 0 ∷ [])
