-- A recording in pieces, in normal form: what is told of one piece, and what the lent room holds afterwards.
use Rattle.std.specs.Prelude.{List, Bool, cond, not, ◌&&◌, ℕ, ◌+◌, ◌-◌, ltb, eqb, length, take, drop}
use Rattle.format.specs.Refusal.{code, cut_block, short_room}
use Rattle.dem.specs.Scene.{Scene}
use Rattle.format.specs.Answer.{Answer, result, at_end, refusal, Written, Normalised, Rewriting}
use Rattle.dem.specs.Answer.{normal_blocks_at, track_normal}

-- The number of the piece's bytes that were used, and of those written; the refusal met behind them, 0 for none, and its place.
pub record Told : Type 0 where
  pub used : ℕ
  pub written : ℕ
  pub refusal : ℕ
  pub place : ℕ

-- With the scene after the piece, and what the room holds.
pub record Piece (S : Type 0) : Type 0 where
  pub told : Told
  pub scene : S
  pub room : List ℕ

-- Nothing was used.
abbrev pub unused : ℕ → ℕ → Told
unused n place = record { used = 0; written = 0; refusal = n; place = place }

-- The greatest number of 64 bits.
abbrev pub greatest : ℕ
greatest = 18446744073709551615

-- A place in bytes that so many others stand before, at most the greatest.
abbrev pub place_behind : ℕ → ℕ → ℕ
place_behind before place = cond (ltb greatest (before + place)) greatest (before + place)

-- That a block is cut is no refusal where more bytes may follow.
abbrev pub standing : Bool → ℕ → ℕ
standing last n = cond (not last && eqb n (code cut_block)) 0 n

-- The place of a refusal counts from the recording's first byte; that of short room is the length needed.
abbrev pub refusal_place : ℕ → ℕ → ℕ → ℕ
refusal_place before n place = cond (eqb n (code short_room)) place (place_behind before place)

-- ---- blocks

abbrev pub told_of : Bool → ℕ → Answer Rewriting → Told
told_of last before (result w) =
    let p = w.progress in
    record { used = p.next; written = w.length; refusal = standing last p.refusal; place = refusal_place before p.refusal p.place }
told_of last before at_end = unused 0 0
told_of last before (refusal n p) = unused n p

abbrev pub piece_of : Bool → ℕ → Written Scene Rewriting → Piece Scene
piece_of last before w = record { told = told_of last before w.answer; scene = w.scene; room = w.room }

-- The normal forms of the blocks in a piece, in the scene that those before it left. So many bytes of the recording stand before the
-- piece; it may be the last.
unfoldable pub piece_at : Scene → List ℕ → Bool → ℕ → List ℕ → Piece Scene
piece_at s bytes last before room = piece_of last before (normal_blocks_at s bytes 0 room)

-- ---- the track line

-- The longest line: a sign, three digits and a line feed.
abbrev pub longest_line : ℕ
longest_line = 5

abbrev pub line_told : Answer Normalised → Told
line_told (result z) = record { used = z.next; written = z.length; refusal = 0; place = z.next }
line_told at_end = unused 0 0
line_told (refusal n p) = unused n p

abbrev pub line_of : Written (Unit {0}) Normalised → Piece (Unit {0})
line_of w = record { told = line_told w.answer; scene = tt; room = w.room }

-- The track line in a recording's first piece. Nothing is decided where more bytes may follow and the piece is shorter than a line may be.
unfoldable pub first_line : List ℕ → Bool → List ℕ → Piece (Unit {0})
first_line bytes last room =
    cond (not last && ltb (length bytes) longest_line) (record { told = unused 0 0; scene = tt; room = room }) (line_of (track_normal bytes room))

-- ---- the bytes that are left

-- Those between two places.
abbrev pub between : List ℕ → ℕ → ℕ → List ℕ
between bytes from to = take (to - from) (drop from bytes)
