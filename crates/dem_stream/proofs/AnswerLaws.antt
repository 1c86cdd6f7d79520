-- What the library's entries read of a piece is of its bytes, and what they write has room.
-- Assumes nothing.
use mathlib.Core.Path.{◌≡◌, refl}
use mathlib.Core.List.{List, ◌++◌}
use mathlib.Core.Bool.{Bool, true, false, cond, not}
use Prim.Native.Nat.{ℕ, ◌≤◌}
use native.Mathlib.Omega.{arith}
use borrow.Author.Tests.{ltb-false}
use lib.Dec.{ltb}
use lib.ListN.{length, drop}
use Rattle.format.specs.Refusal.{code, cut_message, short_room, wrong_scene}
use Rattle.format.specs.Bytes.{Result, found, refused}
use Rattle.format.specs.Codec.{WrittenRun, write_most, normal_bytes}
use Rattle.dem.specs.Scene.{Scene, in_range}
use Rattle.dem.specs.Track.{TrackLine, read_track, track_number, normal_track, write_track}
use Rattle.format.specs.Answer.{place_in, result, refusal, reply, written, written_at, Normalised, Rewriting}
use Rattle.dem.specs.Recording.{Block, blocks, normal_block}
use Rattle.dem.specs.Answer.{rewriting_of, normal_blocks_at, track_normal_of, track_normal}
use Rattle.format.proofs.ResultLaws.{clash}
use Rattle.format.proofs.WrittenLaws.{written_fits}

module _ (bytes room : List ℕ) where
  pub blocks_within : (s t : Scene) (w : Rewriting) (out : List ℕ) → written (reply t (result w)) out ≡ normal_blocks_at s bytes 0 room
      → (w.progress.next ≤ length bytes) × (w.length ≤ length room)
  unfolding written_at
  blocks_within s t w out e = go (in_range s) (ltb (length bytes) 0) (λ i. (e i).answer)
    where
      v : WrittenRun Scene Block
      v = write_most blocks (normal_bytes blocks normal_block) (length bytes) (length room) s (drop 0 bytes)

      go : (x y : Bool)
          → result w
          ≡ (cond (not x) (written (reply s (refusal (code wrong_scene) 0)) room)
          (cond y (written (reply s (refusal (code cut_message) 0)) room)
          (written (reply v.run.state (result (rewriting_of bytes v))) (v.bytes ++ drop (length v.bytes) room)))).answer
          → (w.progress.next ≤ length bytes) × (w.length ≤ length room)
      go false y e = clash (cc)
      go true true e = clash (cc)
      go true false e =
          let same : w ≡ rewriting_of bytes v = cc in
          rw same (omega arith, written_fits blocks (normal_bytes blocks normal_block) (length bytes) (length room) s (drop 0 bytes))

  pub line_within : (z : Normalised) (out : List ℕ) → written (reply tt (result z)) out ≡ track_normal bytes room
      → (z.next ≤ length bytes) × (z.length ≤ length room)
  unfolding track_normal
  line_within z out e = go (read_track bytes) (λ i. (e i).answer)
    where
      line : TrackLine → List ℕ
      line t = write_track (normal_track (track_number t))

      pick : (t : TrackLine) (rest : List ℕ) (x : Bool) → ltb (length room) (length (line t)) ≡ x
          → result z
          ≡ (cond x (written (reply (tt {0}) (refusal (code short_room) (length (line t)))) room)
          (written (reply (tt {0}) (result (record { length = length (line t); next = place_in bytes rest })))
          (line t ++ drop (length (line t)) room))).answer
          → (z.next ≤ length bytes) × (z.length ≤ length room)
      pick t rest true short e = clash (cc)
      pick t rest false short e =
          let same : z ≡ record { length = length (line t); next = place_in bytes rest } = cc in
          rw same (omega arith, ltb-false (length room) (length (line t)) short)

      go : (q : Result TrackLine) → result z ≡ (track_normal_of bytes room q).answer → (z.next ≤ length bytes) × (z.length ≤ length room)
      go (refused n left) e = clash (cc)
      go (found t rest) e = pick t rest (ltb (length room) (length (line t))) refl e
