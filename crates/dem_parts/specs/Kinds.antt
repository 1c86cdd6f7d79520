-- What a reader of one kind of message answers.
use Rattle.std.specs.Prelude.{List, [], ◌∷◌, ℕ, drop}
use Rattle.std.specs.Prelude as Rust
use Rattle.format.specs.Bytes.{Result, free}
use Rattle.format.specs.Layout.{Value, number, Layout, done, field, split, put, parse}
use Rattle.format.specs.declared.refusal.Refused.{Refused}
use Rattle.dem.specs.Kind
use Rattle.dem.specs.Scene.{Context as Numbers}
use Rattle.dem.specs.Message.{entity_rule, TemporaryKind, temporary_fields, row, kind_layout}
use Rattle.format.specs.Answer.{place_in}
use Rattle.wire.specs.Reads.{read_to}
use Rattle.dem_types.specs.Places.{values_to}
use Rattle.dem_types.specs.Values.{time_of}
use Rattle.dem_types.specs.declared.Message.{Message}
use Rattle.dem_parts.specs.declared.Context.{Context}
use Rattle.dem_parts.specs.declared.Source.{Source}

abbrev pub context_of : Context → Numbers
context_of x = record { limit = x.limit; statics = x.statics; time = time_of x.time }

-- Fields without rules, then a layout.
abbrev pub vector_layout : Layout → Layout
vector_layout k = field 2 free (λ v. field 2 free (λ v. field 2 free (λ v. k)))

abbrev pub look_layout : Layout → Layout
look_layout k = field 1 free (λ v. field 1 free (λ v. field 1 free (λ v. field 1 free (λ v. k))))

abbrev pub pose_layout : Layout → Layout
pose_layout k =
    field 2 free (λ v. field 1 free (λ v. field 2 free (λ v. field 1 free (λ v. field 2 free (λ v. field 1 free (λ v. k))))))

-- Channel and entity.
abbrev pub source_layout : Layout
source_layout = split 2 3 entity_rule done

abbrev pub source_values : Source → List Value
source_values s = number s.channel ∷ number s.entity.0 ∷ []

-- A message n from behind its number on.
unfoldable pub kind_in : Numbers → ℕ → List ℕ → Result (List Value)
kind_in x n bs = put (number n) (parse (kind_layout x n) bs)

-- A temporary entity of a type and a kind, from behind the type on.
unfoldable pub temporary_in : Numbers → ℕ → TemporaryKind → List ℕ → Result (List Value)
temporary_in x k t bs = put (number Kind.temporary) (put (number k) (parse (row x (temporary_fields t) done) bs))

-- A message that was read, with its strings in front of the place where it ends.
abbrev pub message_of : List ℕ → Rust.Result (Message × ℕ) Refused → Result (List Value)
message_of s r = read_to (λ next m. values_to s (place_in s (drop next s)) m) s r
