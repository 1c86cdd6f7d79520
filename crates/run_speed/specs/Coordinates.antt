-- Where an entity is.
use Rattle.std.specs.Prelude.{false, cond, ℕ, get_or}
use Rattle.dem.specs.Scene.{Scene, at, zero_record}

-- A record has the update's bit 5, model, frame, colormap, skin and effects in front of x.
unfoldable pub x_of : Scene → ℕ → ℕ
x_of s e = cond (get_or s.present e false) (at (get_or s.records e zero_record) 6) 0
