-- The bytes that a message is written as, as data.
use Rattle.std.specs.Prelude.{List, [], ◌∷◌, ◌++◌, ℕ, take}
use Rattle.std.proofs.Common.{of_z}
use Rattle.std.specs.Int.{w8, w16}
use Rattle.format.specs.Bytes.{le_write}
use Rattle.wire.specs.Reads.{text_in}
use Rattle.wire.specs.declared.Text.{Text}
use Rattle.dem_types.specs.declared.Vector.{Vector}
use Rattle.dem_types.specs.declared.Look.{Look}
use Rattle.dem_types.specs.declared.Pose.{Pose}
use Rattle.dem_writer.specs.declared.Piece.{Piece}
use Rattle.dem_writer.specs.declared.Pieces.{Pieces}

-- A number alone.
abbrev pub number_piece : ℕ → ℕ → Piece
number_piece w v = record { text = record { start = 0; len = 0 }; width = w; value = v }

-- A string, or serverinfo's lists: a text and w zeros.
abbrev pub text_piece : Text → ℕ → Piece
text_piece t w = record { text = t; width = w; value = 0 }

abbrev pub vector_pieces : Vector → List Piece
vector_pieces v = number_piece 2 (of_z w16 v.x) ∷ number_piece 2 (of_z w16 v.y) ∷ number_piece 2 (of_z w16 v.z) ∷ []

abbrev pub look_pieces : Look → List Piece
look_pieces l = number_piece 1 l.model ∷ number_piece 1 l.frame ∷ number_piece 1 l.colormap ∷ number_piece 1 l.skin ∷ []

abbrev pub pose_pieces : Pose → List Piece
pose_pieces p =
    number_piece 2 (of_z w16 p.x) ∷ number_piece 1 (of_z w8 p.angle0) ∷ number_piece 2 (of_z w16 p.y)
    ∷ number_piece 1 (of_z w8 p.angle1) ∷ number_piece 2 (of_z w16 p.z) ∷ number_piece 1 (of_z w8 p.angle2) ∷ []

-- Some bytes of a text, then a number.
abbrev pub piece_bytes : List ℕ → Piece → List ℕ
piece_bytes t p = text_in t p.text ++ le_write p.width p.value

unfoldable pub bytes_of : List ℕ → List Piece → List ℕ
bytes_of t [] = []
bytes_of t (p ∷ ps) = piece_bytes t p ++ bytes_of t ps

-- As many as are counted.
abbrev pub list_of : Pieces → List Piece
list_of p = take p.count p.items

-- The bytes of all of them, with the text that they name.
abbrev pub pieces_bytes : List ℕ → Pieces → List ℕ
pieces_bytes t p = bytes_of t (list_of p)
