-- The line of a refusal: `refused`, its number, `at`, its place, and a line feed.
use Rattle.std.specs.Prelude.{List, [], ◌∷◌, ◌++◌, map, cond, ℕ, zero, suc, ◌+◌, ◌-◌, ◌/◌, ◌%◌, ltb, length, replicate}
use Rattle.format.specs.Digits.{digit_zero, line_feed}
use Rattle.report.specs.declared.Line.{Line}

-- The digits of a number that has at most so many, without needless zeros.
unfoldable pub decimal_digits : ℕ → ℕ → List ℕ
decimal_digits zero v = []
decimal_digits (suc fuel) v =
    let higher = decimal_digits fuel (v / 10) in
    cond (ltb v 10) (v ∷ []) (higher ++ (v % 10 ∷ []))

-- A number of 64 bits is below 10 ^ 20.
abbrev pub most_digits : ℕ
most_digits = 20

unfoldable pub decimal_text : ℕ → List ℕ
decimal_text v = map (λ d. d + digit_zero) (decimal_digits most_digits v)

-- `refused` and a blank.
abbrev pub refused_text : List ℕ
refused_text = 114 ∷ 101 ∷ 102 ∷ 117 ∷ 115 ∷ 101 ∷ 100 ∷ 32 ∷ []

-- `at` between blanks.
abbrev pub at_text : List ℕ
at_text = 32 ∷ 97 ∷ 116 ∷ 32 ∷ []

unfoldable pub refusal_line : ℕ → ℕ → List ℕ
refusal_line refusal place = refused_text ++ decimal_text refusal ++ at_text ++ decimal_text place ++ (line_feed ∷ [])

-- A line's room, in bytes.
abbrev pub line_room : ℕ
line_room = 64

-- A line, with zeros behind it, and its length.
abbrev pub padded : List ℕ → Line
padded line = record { text = line ++ replicate (line_room - length line) 0; len = length line }

abbrev pub line_of : ℕ → ℕ → Line
line_of refusal place = padded (refusal_line refusal place)
