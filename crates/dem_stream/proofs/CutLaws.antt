-- A block that is cut is refused at the block. So where a run of blocks met no refusal, or a block that is cut, it stopped behind the blocks.
-- Assumes nothing.
use mathlib.Core.Path.{◌≡◌, refl, sym, ap, ◌∙◌}
use mathlib.Core.List.{List, [], ◌∷◌, ◌++◌}
use mathlib.Core.Bool.{Bool, true, false, cond, not, ◌&&◌, ◌||◌}
use Prim.Native.Nat.{ℕ, zero, suc, ◌+◌, ◌-◌, ◌≤◌}
use native.Mathlib.Omega.{arith}
use borrow.Author.Tests.{eqb-true}
use lib.Dec.{eqb, ltb, leb}
use lib.ListN.{length, take, drop}
use Rattle.format.specs.Refusal.{code, cut_block, long_block, wrong_scene, cut_message, after_disconnect}
use Rattle.format.specs.Bytes.{Bytes, Result, found, refused, bind, refused_at, unless, require, le_read}
use Rattle.format.specs.Layout.{Value, parse}
use Rattle.format.specs.Codec.{after, WrittenRun, roomless, led, write_on, write_most, normal_bytes, read_all, read_before}
use Rattle.format.specs.Answer.{result, refusal, reply, written, written_at, Rewriting}
use Rattle.dem.specs.Limits.{head_size, block_limit}
use Rattle.dem.specs.Scene.{Scene, in_range}
use Rattle.dem.specs.Message.{Message}
use Rattle.dem.specs.Recording.{messages, Block, block_of, angle_layout, read_body, read_sized, read_block, blocks, normal_block}
use Rattle.dem.specs.Answer.{rewriting_of, normal_blocks_at}
use Rattle.dem.specs.WellFormed.{GoodMessage, GoodBlock}
use Rattle.format.proofs.ResultLaws.{clash, Ranged}
use Rattle.format.proofs.ByteLaws.{take-bytes, drop-bytes}
use Rattle.format.proofs.LayoutLaws.{parse-sound}
use Rattle.format.proofs.CodecLaws.{Taken}
use Rattle.format.proofs.ReadLaws.{all_ranged}
use Rattle.dem.proofs.BlockLaws.{block_lawful}
use Rattle.dem_stream.specs.Pieces.{standing}
use Rattle.dem_stream.proofs.UncutLaws.{uncut, uncut_lawful}

-- ---- a block

-- No refusal, or that a block is cut.
abbrev lifted : ℕ → Bool
lifted n = eqb n 0 || eqb n (code cut_block)

-- Such a refusal stands at the first of these bytes.
abbrev AtBlock : {A : Type 0} → List ℕ → Result A → Type 0
AtBlock bs (found v rest) = Unit {0}
AtBlock bs (refused n left) = lifted n ≡ true → left ≡ bs

at_block : {A : Type 0} (n : ℕ) (bs : List ℕ) (q : Result A) → AtBlock bs q → AtBlock bs (require n bs q)
at_block zero bs q h = h
at_block (suc n) bs q h = λ e. refl

not_lifted : (n : ℕ) → 1 ≤ n → uncut n ≡ true → lifted n ≡ true → ⊥
not_lifted n l u e = go (eqb n 0) refl (eqb n (code cut_block)) u e
  where
    go : (x : Bool) → eqb n 0 ≡ x → (y : Bool) → not y ≡ true → (x || y) ≡ true → ⊥
    go true p y u e = let z = eqb-true n 0 p in omega arith
    go false p true u e = clash (cc)
    go false p false u e = clash (cc)

block_at : (s : Scene) (bs : List ℕ) → Bytes bs → AtBlock bs (read_block s bs)
unfolding read_block read_sized
block_at s bs h =
    at_block (unless (not s.ended) after_disconnect) bs _
    (at_block (unless (leb head_size (length bs)) cut_block) bs _
    (at_block (unless (leb size block_limit) long_block) bs _
    (at_block (unless (leb (head_size + size) (length bs)) cut_block) bs _
    (go (parse angle_layout (drop 4 bs)) (λ a m e. (parse-sound angle_layout (drop 4 bs) a m (drop-bytes 4 bs h) e).left)))))
  where
    size : ℕ
    size = le_read (take 4 bs)

    body : (a : List Value) (m : List ℕ) (q : Result (List Message)) → Ranged uncut (take size m) q
        → AtBlock bs (read_before (drop size m) (block_of a) q)
    body a m (found ms left) r = tt
    body a m (refused n left) r = λ e. absurd (not_lifted n r.0 r.1 e)

    go : (q : Result (List Value)) → ((a : List Value) (m : List ℕ) → q ≡ found a m → Bytes m)
        → AtBlock bs (bind (refused_at bs q) (read_body s size))
    go (refused n left) k = λ e. refl
    go (found a m) k =
        body a m (read_all messages s (take size m))
        (all_ranged messages GoodMessage uncut_lawful s (take size m) (take-bytes size m (k a m refl)))

-- ---- a run of blocks

-- It stopped behind the blocks, and not for want of room.
abbrev Behind : WrittenRun Scene Block → Type 0
Behind w = lifted w.run.refusal ≡ true → (w.run.left ≡ w.run.rest) × (w.needed ≡ 0)

run_behind : (n room : ℕ) (s : Scene) (bs : List ℕ) → Bytes bs → Behind (write_most blocks (normal_bytes blocks normal_block) n room s bs)
unfolding write_most
run_behind zero room s bs h = λ e. (refl, refl)
run_behind (suc n) room s [] h = λ e. (refl, refl)
run_behind (suc n) room s (b ∷ bs) h = go (read_block s (b ∷ bs)) refl (block_at s (b ∷ bs) h) (λ left t rest k. run_behind n left t rest k)
  where
    form : Block → List ℕ
    form v = normal_bytes blocks normal_block s v

    later : Block → List ℕ → WrittenRun Scene Block
    later v rest = write_most blocks (normal_bytes blocks normal_block) n (room - length (form v)) (after blocks s v) rest

    Keeps : Type 0
    Keeps = (left : ℕ) (t : Scene) (rest : List ℕ) → Bytes rest → Behind (write_most blocks (normal_bytes blocks normal_block) n left t rest)

    pick : (v : Block) (rest : List ℕ) → Behind (later v rest) → (x : Bool)
        → Behind (cond x (roomless s (b ∷ bs) (length (form v))) (led v (form v) (later v rest)))
    pick v rest k true = λ e. clash (cc)
    pick v rest k false = k

    go : (q : Result Block) → read_block s (b ∷ bs) ≡ q → AtBlock (b ∷ bs) q → Keeps
        → Behind (write_on (normal_bytes blocks normal_block) room s (b ∷ bs) q later)
    go (refused k left) e a keeps = λ l. (a l, refl)
    go (found v rest) e a keeps =
        let t : Taken blocks GoodBlock s (b ∷ bs) v rest = block_lawful.sound s (b ∷ bs) v rest h e in
        pick v rest (keeps (room - length (form v)) (after blocks s v) rest t.left) (ltb room (length (form v)))

-- What stands as no refusal.
none_lifted : (last : Bool) (n : ℕ) → standing last n ≡ 0 → lifted n ≡ true
none_lifted last n e = go last (eqb n (code cut_block)) (eqb n 0) (λ k. ap (λ (m : ℕ). eqb m 0) k) e
  where
    go : (x y z : Bool) → (n ≡ 0 → z ≡ true) → cond (not x && y) 0 n ≡ 0 → (z || y) ≡ true
    go x true true k e = refl
    go x true false k e = refl
    go true false z k e = rw (k e) refl
    go false false z k e = rw (k e) refl

-- Where a piece's blocks are told without a refusal, their place is that behind them.
pub place_next : (s t : Scene) (bytes : List ℕ) (last : Bool) (room out : List ℕ) (w : Rewriting) → Bytes bytes
    → written (reply t (result w)) out ≡ normal_blocks_at s bytes 0 room → standing last w.progress.refusal ≡ 0 → w.progress.place ≡ w.progress.next
unfolding written_at
place_next s t bytes last room out w h e z = go (in_range s) (ltb (length bytes) 0) (λ i. (e i).answer)
  where
    v : WrittenRun Scene Block
    v = write_most blocks (normal_bytes blocks normal_block) (length bytes) (length room) s (drop 0 bytes)

    go : (x y : Bool)
        → result w
        ≡ (cond (not x) (written (reply s (refusal (code wrong_scene) 0)) room)
        (cond y (written (reply s (refusal (code cut_message) 0)) room)
        (written (reply v.run.state (result (rewriting_of bytes v))) (v.bytes ++ drop (length v.bytes) room)))).answer
        → w.progress.place ≡ w.progress.next
    go false y e = clash (cc)
    go true true e = clash (cc)
    go true false e =
        let same : w ≡ rewriting_of bytes v = cc in
        let k = none_lifted last v.run.refusal (ap (λ (r : Rewriting). standing last r.progress.refusal) (sym same) ∙ z) in
        let p = run_behind (length bytes) (length room) s bytes h k in
        rw same (ap (λ (m : ℕ). cond (eqb m 0) (length bytes - length v.run.left) m) p.1 ∙ ap (λ (l : List ℕ). length bytes - length l) p.0)
