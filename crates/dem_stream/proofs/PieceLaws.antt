-- A recording in two pieces gives what it gives in one.
-- Assumes nothing.
use mathlib.Core.Path.{◌≡◌, refl, sym, ap, ◌∙◌}
use mathlib.Core.List.{List, [], ◌∷◌, ◌++◌}
use mathlib.Core.Bool.{Bool, true, false, cond}
use Prim.Native.Nat.{ℕ, zero, suc, ◌+◌, ◌-◌, zero-le}
use lib.Dec.{ltb, eqb}
use lib.ListN.{length, take, drop}
use Rattle.format.specs.Refusal.{code, short_room}
use Rattle.format.specs.Bytes.{Bytes, Result, found, refused}
use Rattle.dem.specs.Scene.{Scene, in_range}
use Rattle.format.specs.Codec.{after, WrittenRun, roomless, led, write_on, write_most, normal_bytes}
use Rattle.dem.specs.Recording.{Block, read_block, blocks, normal_block}
use Rattle.format.specs.Answer.{result, Written, Rewriting}
use Rattle.dem.specs.Answer.{rewriting_of, normal_blocks_at}
use Rattle.dem.specs.WellFormed.{GoodBlock}
use Rattle.format.proofs.CodecLaws.{Taken}
use Rattle.dem.proofs.BlockLaws.{block_lawful}
use Rattle.dem.proofs.RangeLaws.{block_range}
use Rattle.format.proofs.RewritingLaws.{added_written}
use Rattle.dem.proofs.RewritingLaws.{written_blocks, rewritten, normal-blocks-at, normal_pieces_add}
use Rattle.dem_stream.specs.Pieces.{Told, Piece, place_behind, told_of, piece_of, piece_at}
use Rattle.dem_stream.proofs.PlaceLaws.{behind_both}

-- What is told of two pieces: the refusal is that of the second, and its place counts from the same byte.
abbrev pub added_told : Told → Told → Told
added_told p q = record { used = p.used + q.used; written = p.written + q.written; refusal = q.refusal; place = q.place }

told_added : (last : Bool) (before : ℕ) (p q : Rewriting)
    → told_of last before (result (added_written p q)) ≡ added_told (told_of false before (result p)) (told_of last (before + p.progress.next) (result q))
told_added last before p q =
    ap (λ (n : ℕ). record { used = p.progress.next + q.progress.next; written = p.length + q.length; refusal = (told_of last before (result q)).refusal; place = n })
    (go (eqb q.progress.refusal (code short_room)))
  where
    next : ℕ
    next = p.progress.next

    place : ℕ
    place = q.progress.place

    go : (x : Bool)
        → cond x (cond x place (next + place)) (place_behind before (cond x place (next + place))) ≡ cond x place (place_behind (before + next) place)
    go true = refl
    go false = behind_both before next place

-- The scene that a written run of blocks leaves is in range.
run_in_range : (n room : ℕ) (s : Scene) (bs : List ℕ) → Bytes bs → in_range s ≡ true → in_range (written_blocks n room s bs).run.state ≡ true
unfolding write_most
run_in_range zero room s bs h i = i
run_in_range (suc n) room s [] h i = i
run_in_range (suc n) room s (b ∷ bs) h i = go (read_block s (b ∷ bs)) refl (λ left t rest k j. run_in_range n left t rest k j)
  where
    form : Block → List ℕ
    form v = normal_bytes blocks normal_block s v

    later : Block → List ℕ → WrittenRun Scene Block
    later v rest = written_blocks n (room - length (form v)) (after blocks s v) rest

    Keeps : Type 0
    Keeps = (left : ℕ) (t : Scene) (rest : List ℕ) → Bytes rest → in_range t ≡ true → in_range (written_blocks n left t rest).run.state ≡ true

    pick : (v : Block) (rest : List ℕ) → read_block s (b ∷ bs) ≡ found v rest → Keeps → (x : Bool)
        → in_range (cond x (roomless s (b ∷ bs) (length (form v))) (led v (form v) (later v rest))).run.state ≡ true
    pick v rest e keeps true = i
    pick v rest e keeps false =
        let t : Taken blocks GoodBlock s (b ∷ bs) v rest = block_lawful.sound s (b ∷ bs) v rest h e in
        keeps (room - length (form v)) (after blocks s v) rest t.left (block_range s v t.good i)

    go : (q : Result Block) → read_block s (b ∷ bs) ≡ q → Keeps → in_range (write_on (normal_bytes blocks normal_block) room s (b ∷ bs) q later).run.state ≡ true
    go (refused k left) e keeps = i
    go (found v rest) e keeps = pick v rest e keeps (ltb room (length (form v)))

module _ (s : Scene) (a b room : List ℕ) (ha : Bytes a) (hb : Bytes b) (i : in_range s ≡ true) (last : Bool) (before : ℕ) where
  -- The first piece, behind which more bytes follow.
  abbrev pub first_piece : Piece Scene
  first_piece = piece_at s a false before room

  -- What the first piece left and the bytes behind it, in the scene and the room that it left.
  abbrev pub second_piece : Piece Scene
  second_piece =
      piece_at first_piece.scene (drop first_piece.told.used a ++ b) last (before + first_piece.told.used)
      (drop first_piece.told.written first_piece.room)

  -- A call for the first piece and one for the second, as one piece.
  abbrev joined_calls : Written Scene Rewriting → Written Scene Rewriting → Piece Scene
  joined_calls x y =
      let p = piece_of false before x in
      let q = piece_of last (before + p.told.used) y in
      record { told = added_told p.told q.told; scene = q.scene; room = take p.told.written p.room ++ q.room }

  -- The call for what the first piece left.
  abbrev second_call : Written Scene Rewriting → Written Scene Rewriting
  second_call x =
      let p = piece_of false before x in normal_blocks_at p.scene (drop p.told.used a ++ b) 0 (drop p.told.written p.room)

  -- What is told and written of a piece and the next is what is told and written of both as one.
  pub pieces_add : piece_at s (a ++ b) last before room
      ≡ record {
        told = added_told first_piece.told second_piece.told;
        scene = second_piece.scene;
        room = take first_piece.told.written first_piece.room ++ second_piece.room;
      }
  unfolding piece_at
  pieces_add =
      ap (piece_of last before) (normal_pieces_add s a b room ha hb w.run.state v.run.state p q mid out one two)
      ∙ (λ j. record { told = told_added last before p q j; scene = v.run.state; room = take p.length mid ++ out })
      ∙ ap (joined_calls (rewritten a room w)) (sym two)
      ∙ ap (λ (x : Written Scene Rewriting). joined_calls x (second_call x)) (sym one)
    where
      w : WrittenRun Scene Block
      w = written_blocks (length a) (length room) s a

      p : Rewriting
      p = rewriting_of a w

      mid : List ℕ
      mid = w.bytes ++ drop (length w.bytes) room

      one : normal_blocks_at s a 0 room ≡ rewritten a room w
      one = normal-blocks-at s a 0 room i zero-le

      rest : List ℕ
      rest = drop p.progress.next a ++ b

      room' : List ℕ
      room' = drop p.length mid

      v : WrittenRun Scene Block
      v = written_blocks (length rest) (length room') w.run.state rest

      q : Rewriting
      q = rewriting_of rest v

      out : List ℕ
      out = v.bytes ++ drop (length v.bytes) room'

      two : normal_blocks_at w.run.state rest 0 room' ≡ rewritten rest room' v
      two = normal-blocks-at w.run.state rest 0 room' (run_in_range (length a) (length room) s a ha i) zero-le
