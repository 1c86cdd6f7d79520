-- Messages of which only the place behind them is told.
use Rattle.std.specs.Prelude.{List, Bool, ◌||◌, ℕ, drop, eqb}
use Rattle.std.specs.Prelude as Rust
use Rattle.std.specs.Prelude.{Ok, Err}
use Rattle.format.specs.Bytes.{Result, found, refused, map_result}
use Rattle.format.specs.Refusals.{number_of}
use Rattle.format.specs.declared.refusal.Refused.{Refused}
use Rattle.dem.specs.Scene.{Context}
use Rattle.dem_parts.specs.Kinds.{kind_in}

-- Kinds that come often, change nothing of the scene and are their own normal form: print, stufftext, name, particle, damage, temporary
-- entity, centerprint.
abbrev pub is_passed : ℕ → Bool
is_passed n = (((((eqb n 8 || eqb n 9) || eqb n 13) || eqb n 18) || eqb n 19) || eqb n 23) || eqb n 26

-- A message n from behind its number on, without its values.
unfoldable pub passed_in : Context → ℕ → List ℕ → Result (Unit {0})
passed_in x n bs = map_result (λ vs. tt) (kind_in x n bs)

-- The place behind it, or its refusal.
abbrev pub passed_to : List ℕ → Rust.Result ℕ Refused → Result (Unit {0})
passed_to s (Ok next) = found tt (drop next s)
passed_to s (Err r) = refused (number_of r.refusal) (drop r.place s)
