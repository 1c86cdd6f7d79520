-- Decimal digits, and the bytes that they and a line's end are written with.
use Rattle.std.specs.Prelude.{List, [], ◌∷◌, ℕ, ◌+◌, ◌*◌, ◌<◌}

abbrev pub line_feed : ℕ
line_feed = 10

abbrev pub digit_zero : ℕ
digit_zero = 48

abbrev pub Digits : List ℕ → Type 0
Digits [] = Unit {0}
Digits (d ∷ ds) = (d < 10) × Digits ds

-- The number that they say, behind one that is said already.
abbrev pub decimal : List ℕ → ℕ → ℕ
decimal [] v = v
decimal (d ∷ ds) v = decimal ds (v * 10 + d)
