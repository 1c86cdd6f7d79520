-- What a reader answers, in the terms of the definitions, and what a text stands for.
use Rattle.std.specs.Prelude.{List, [], ◌∷◌, cond, ℕ, ◌+◌, length, take, drop, leb, Result, Ok, Err}
use Rattle.format.specs.Bytes as Bytes
use Rattle.format.specs.declared.refusal.Refused.{Refused}
use Rattle.format.specs.Refusals.{number_of}
use Rattle.wire.specs.declared.Text.{Text}

-- What was read, as a value that may depend on the place behind it, and the bytes from there on; or the refusal, and the bytes from the
-- refused field on.
abbrev pub read_to : {A B : Type 0} → (ℕ → A → B) → List ℕ → Result (A × ℕ) Refused → Bytes.Result B
read_to f s (Ok p) = Bytes.found (f p.1 p.0) (drop p.1 s)
read_to f s (Err r) = Bytes.refused (number_of r.refusal) (drop r.place s)

abbrev pub read_of : {A B : Type 0} → (A → B) → List ℕ → Result (A × ℕ) Refused → Bytes.Result B
read_of f s r = read_to (λ next. f) s r

-- The bytes at a place.
abbrev pub text_in : List ℕ → Text → List ℕ
text_in s t = take t.len (drop t.start s)

-- The same, where the place lies inside; else bytes of no string.
unfoldable pub placed : List ℕ → Text → List ℕ
placed s t = cond (leb (t.start + t.len) (length s)) (text_in s t) (0 ∷ [])
