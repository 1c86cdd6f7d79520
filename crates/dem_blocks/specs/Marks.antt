-- Marks as places: an entity is marked where the place that is kept for it stands behind a given one.
use Rattle.std.specs.Prelude.{Bool, List, map, ℕ, ltb}

abbrev pub marked : ℕ → List ℕ → List Bool
marked since = map (ltb since)
