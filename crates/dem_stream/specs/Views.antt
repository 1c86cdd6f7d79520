-- What is told of a piece and of a track line, in the definitions' terms, with what the room holds afterwards.
use Rattle.format.specs.Refusals.{refusal_in, place_in}
use Rattle.std.specs.Prelude.{List, ℕ}
use Rattle.dem.specs.Scene.{Scene as Described}
use Rattle.dem_scene.specs.Views.{scene_of}
use Rattle.dem_stream.specs.Pieces.{place_behind, Piece as Part}
use Rattle.dem_stream.specs.declared.Piece.{Piece}
use Rattle.dem_stream.specs.declared.FirstLine.{FirstLine}

-- Of a piece that so many bytes of the recording stand before. Where nothing is refused, the place told is that behind the bytes used.
abbrev pub piece_view : ℕ → Piece → List ℕ → Part Described
piece_view before r room =
    record {
      told = record { used = r.used; written = r.written; refusal = refusal_in r.refused; place = place_in (place_behind before r.used) r.refused };
      scene = scene_of r.scene;
      room = room;
    }

-- Where nothing is refused, the place told is that behind the bytes used.
abbrev pub line_view : FirstLine → List ℕ → Part (Unit {0})
line_view r room =
    record {
      told = record { used = r.used; written = r.written; refusal = refusal_in r.refused; place = place_in r.used r.refused };
      scene = tt;
      room = room;
    }
