-- What a run that writes blocks in normal form answers, in the terms of the entries' definitions.
-- Assumes nothing.
use mathlib.Core.Path.{◌≡◌, refl, sym, ap, ◌∙◌}
use mathlib.Core.Logic.{◌≢◌}
use mathlib.Core.List.{List, [], ◌++◌, append-nil}
use mathlib.Core.Bool.{Bool, true, false, cond}
use Prim.Native.Nat.{ℕ, ◌+◌, ◌-◌, ◌<◌, ◌≤◌}
use native.Mathlib.Omega.{arith}
use borrow.Author.Tests.{eq-eqb, ne_eqb, eqb-true, eqb-false, le-leb}
use lib.Dec.{eqb}
use lib.ListN.{length, drop, length-drop}
use Rattle.format.specs.Bytes.{Bytes, found, refused}
use Rattle.dem.specs.Scene.{Scene, in_range}
use Rattle.format.specs.Codec.{after, stopped, preceded, run_most, WrittenRun, silent, roomless, write_most, normal_bytes}
use Rattle.std.specs.Prelude.{None, Some}
use Rattle.format.specs.Refusal.{code, short_room}
use Rattle.format.specs.Refusals.{number_of, refusal_in, place_in as place_by}
use Rattle.format.specs.declared.refusal.Refused.{Refused}
use Rattle.format.proofs.RefusalsBack.{number_some}
use Rattle.format.specs.Answer.{place_in, Answer, guarded, Item, Reply, Written, Rewriting, Normalised, result, at_end, refusal, reply, written, item_at, normal_of}
use Rattle.format.specs.Answer.{normal_at, written_at}
use Rattle.dem.specs.Recording.{Block, read_block, blocks, normal_block}
use Rattle.dem.specs.Answer.{count_messages, normal_blocks_at}
use Rattle.dem.specs.WellFormed.{GoodBlock}
use Rattle.format.proofs.ByteLaws.{drop-bytes}
use Rattle.format.proofs.WrittenLaws.{read_of, written-found, written-roomless, written-refused, written_again, written_fits, written-short-room}
use Rattle.format.proofs.WrittenLaws.{written_within, Normalises, call_written, call_short, call_refused, normalises}
use Rattle.dem.proofs.BlockLaws.{block_lawful}
use Rattle.format.proofs.ListLaws.{sets_front}
use Rattle.format.proofs.AnswerLaws.{item_end, item_refused_lem}
use Rattle.dem.proofs.RewritingLaws.{written_blocks, normal-blocks-at}
use Rattle.dem_scene.specs.Views.{scene_of}
use Rattle.dem_blocks.specs.Runs.{Told, refused_in, told_of, answered, Wrote, stored, put, wrote_of, wrote}
use Rattle.dem_blocks.specs.declared.BlocksAt.{BlocksAt}
use Rattle.dem_blocks.specs.declared.WrittenAt.{WrittenAt}
use Rattle.dem_messages.proofs.Asked.{asked-refused}
use Rattle.dem_recordings.proofs.Recordings.{refusal_at, place_at, met_at, Whole, run-blocks, run-refusal, run-next, run-place, run-whole}

-- ---- a run that writes

-- The place of the refusal that stops a run that writes: where room is short, the length needed.
abbrev pub place_of : List ℕ → WrittenRun Scene Block → Bool → ℕ
place_of d run enough = cond enough (place_in d run.run.left) run.needed

-- What is told of such a run whether or not its room is short.
pub record Counted (d : List ℕ) (b : BlocksAt) (run : WrittenRun Scene Block) : Type 0 where
  pub blocks : b.blocks ≡ length run.run.items
  pub next : b.next ≡ place_in d run.run.rest
  pub refusal : refusal_at b ≡ run.run.refusal
  pub place : place_at b ≡ place_of d run (eqb run.needed 0)

module _ (t : Scene) (d room : List ℕ) (w : WrittenAt) (out : List ℕ) (run : WrittenRun Scene Block)
    (q : wrote w out ≡ wrote_of t (length d) (stored room 0 (length room)) 0 0 0 0 room run) where
  told_by : Bool → Told
  told_by enough =
      cond enough (told_of t (length d) 0 0 run.run)
      (refused_in t (0 + length run.run.items) (place_in d run.run.rest) run.run.refusal run.needed)

  told_by_lem : (enough : Bool) → eqb run.needed 0 ≡ enough → answered w.read ≡ told_by enough
  unfolding told_by
  told_by_lem enough e = ap (λ (x : Wrote). x.told) q ∙ ap told_by e

  counted_by : (enough : Bool) → eqb run.needed 0 ≡ enough → Counted d w.read run
  unfolding told_by
  counted_by true e =
      let p = told_by_lem true e in
      record {
        blocks = run-blocks t d w.read run.run p;
        next = run-next t d w.read run.run p;
        refusal = run-refusal t d w.read run.run p;
        place = run-place t d w.read run.run p ∙ sym (ap (place_of d run) e);
      }
  counted_by false e =
      let p = told_by_lem false e in
      let k = ap (λ (x : Told). x.blocks) p in
      record {
        blocks = omega (arith, k);
        next = ap (λ (x : Told). x.next) p;
        refusal = ap (λ (x : Told). x.refusal) p;
        place = ap (λ (x : Told). x.place) p ∙ sym (ap (place_of d run) e);
      }

  pub counted : Counted d w.read run
  counted = counted_by _ refl

  -- Enough room: what is told is what a run that reads tells.
  pub enough-told : run.needed ≡ 0 → answered w.read ≡ told_of t (length d) 0 0 run.run
  unfolding told_by
  enough-told z = told_by_lem true (eq-eqb run.needed 0 z)

  pub length-written : w.written ≡ length run.bytes
  length-written = let k = ap (λ (x : Wrote). x.written) q in omega (arith, k)

  pub room-written : length run.bytes ≤ length room → out ≡ run.bytes ++ drop (length run.bytes) room
  room-written h =
      ap (λ (x : Wrote). x.room) q
      ∙ ap (λ (s : Bool). put s room 0 run.bytes) (le-leb (length room) (length room - 0) (omega arith))
      ∙ sets_front room run.bytes h

-- ---- blocks in normal form from a place on

pub rewrite_asked : (t : Scene) (d : List ℕ) (at : ℕ) (room : List ℕ) (r : Refused)
    → ◌≡◌ {A = Answer (Unit {0})} (refusal (number_of r.refusal) r.place) (guarded (in_range t) d at refusal (result tt))
    → written (reply t (refusal (number_of r.refusal) r.place)) room ≡ normal_blocks_at t d at room
unfolding written_at
rewrite_asked t d at room r e = asked-refused (in_range t) d at (λ n p. written (reply t (refusal n p)) room) _ (number_of r.refusal) r.place e

-- Blocks that were read, what stopped the run behind them, the number of their bytes and the room.
abbrev pub rewrite_reply : Scene → ℕ → ℕ → ℕ → ℕ → ℕ → ℕ → List ℕ → Written Scene Rewriting
rewrite_reply s k m n f p size out =
    written (reply s (result (record { progress = record { blocks = k; messages = m; next = n; refusal = f; place = p }; length = size }))) out

module _ (t : Scene) (d : List ℕ) (at : ℕ) (room : List ℕ) (h : Bytes d) (g : in_range t ≡ true) (l : at ≤ length d) (w : WrittenAt) (out : List ℕ)
    (q : wrote w out ≡ wrote_of t (length d) (stored room 0 (length room)) 0 0 0 0 room (written_blocks (length d) (length room) t (drop at d))) where
  abbrev all : WrittenRun Scene Block
  all = written_blocks (length d) (length room) t (drop at d)

  rewritten_all : (c : BlocksAt) → scene_of c.scene ≡ all.run.state → c.blocks ≡ length all.run.items
      → c.messages ≡ count_messages all.run.items → c.next ≡ place_in d all.run.rest
      → rewrite_reply (scene_of c.scene) c.blocks c.messages c.next (refusal_at w.read) (place_at w.read) w.written out
      ≡ normal_blocks_at t d at room
  rewritten_all c es eb em en =
      let k : Counted d w.read all = counted t d room w out all q in
      let size = length-written t d room w out all q in
      let held = room-written t d room w out all q (written_fits blocks (normal_bytes blocks normal_block) (length d) (length room) t (drop at d)) in
      (λ i. rewrite_reply (es i) (eb i) (em i) (en i) (k.refusal i) (k.place i) (size i) (held i))
      ∙ sym (normal-blocks-at t d at room g l)

  -- Nothing was refused inside a block and room was not short: all is told by the run.
  pub rewritten_once : w.read.next ≡ place_at w.read → refusal_at w.read ≢ code short_room
      → rewrite_reply (scene_of w.read.scene) w.read.blocks w.read.messages w.read.next (refusal_at w.read) (place_at w.read) w.written out
      ≡ normal_blocks_at t d at room
  rewritten_once same long =
      let k : Counted d w.read all = counted t d room w out all q in
      let p = enough-told t d room w out all q (enough (eqb all.needed 0) refl) in
      let i = written_within blocks GoodBlock block_lawful (normal_bytes blocks normal_block) (length d) (length room) t (drop at d) (drop-bytes at d h) in
      let x : Whole d w.read all.run = run-whole t d w.read all.run p
      (omega (arith, same, k.next, run-place t d w.read all.run p, i.0, i.1, length-drop at d)) in
      rewritten_all w.read x.scene k.blocks x.messages k.next
    where
      enough : (x : Bool) → eqb all.needed 0 ≡ x → all.needed ≡ 0
      enough true z = eqb-true all.needed 0 z
      enough false z =
          absurd
          (long ((counted t d room w out all q).refusal
          ∙ (written-short-room blocks (normal_bytes blocks normal_block) (length d) (length room) t (drop at d) (eqb-false all.needed 0 z)).0))

  -- The blocks before what stopped the run, read again.
  pub rewritten_twice : (k : Refused) → w.read.refused ≡ Some k → (c : BlocksAt)
      → answered c ≡ told_of t (length d) 0 0 (run_most blocks w.read.blocks t (drop at d))
      → rewrite_reply (scene_of c.scene) c.blocks c.messages c.next (refusal_at w.read) (place_by c.next w.read.refused) w.written out
      ≡ normal_blocks_at t d at room
  rewritten_twice j e c p =
      let k : Counted d w.read all = counted t d room w out all q in
      let p' = p ∙ ap (told_of t (length d) 0 0)
      (ap (λ (n : ℕ). run_most blocks n t (drop at d)) k.blocks ∙ written_again blocks (normal_bytes blocks normal_block) (length d) (length room) t (drop at d)) in
      let x : Whole d c (read_of all.run) = run-whole t d c (read_of all.run) p' refl in
      ap (λ (p : ℕ). rewrite_reply (scene_of c.scene) c.blocks c.messages c.next (refusal_at w.read) p w.written out) (met_at j w.read.refused e c.next w.read.next)
      ∙ rewritten_all c x.scene (run-blocks t d c (read_of all.run) p') x.messages (run-next t d c (read_of all.run) p')

-- ---- a block in normal form at a place

module _ (t : Scene) (d : List ℕ) (at : ℕ) (room : List ℕ) where
  by_item : (r : Reply Scene (Item Block Block)) → item_at blocks t d at ≡ r → normal_at blocks normal_block t d at room ≡ normal_of blocks normal_block t d r.scene room r.answer
  unfolding normal_at
  by_item r e = ap (λ (x : Reply Scene (Item Block Block)). normal_of blocks normal_block t d x.scene room x.answer) e

  pub normal_end : in_range t ≡ true → at ≡ length d → written (reply t at_end) room ≡ normal_at blocks normal_block t d at room
  normal_end g e = sym (by_item (reply t at_end) (item_end blocks t d at g e))

-- What is refused before a block is asked for.
pub normal_asked : (t : Scene) (d : List ℕ) (at : ℕ) (room : List ℕ) (r : Refused)
    → ◌≡◌ {A = Answer (Unit {0})} (refusal (number_of r.refusal) r.place) (guarded (in_range t) d at refusal (result tt))
    → written (reply t (refusal (number_of r.refusal) r.place)) room ≡ normal_at blocks normal_block t d at room
unfolding item_at
normal_asked t d at room r e =
    sym (by_item t d at room (reply t (refusal (number_of r.refusal) r.place))
    (sym (asked-refused (in_range t) d at (λ n p. reply t (refusal n p)) _ (number_of r.refusal) r.place e)))

-- A run of one block that fits the room.
abbrev one_written : Scene → Block → List ℕ → List ℕ → WrittenRun Scene Block
one_written s v rest bytes = record { run = preceded v (stopped s rest 0 rest); bytes = bytes; needed = 0 }

abbrev pub normal_reply : Scene → ℕ → ℕ → List ℕ → Written Scene Normalised
normal_reply s size next out = written (reply s (result (record { length = size; next = next }))) out

abbrev pub refused_reply : Scene → ℕ → ℕ → List ℕ → Written Scene Normalised
refused_reply s n p out = written (reply s (refusal n p)) out

module _ (t : Scene) (d : List ℕ) (at : ℕ) (room : List ℕ) (h : Bytes d) (g : in_range t ≡ true) (l : at < length d) (w : WrittenAt) (out : List ℕ)
    (q : wrote w out ≡ wrote_of t (length d) (stored room 0 (length room)) 0 0 0 0 room (written_blocks 1 (length room) t (drop at d))) where
  one_of : (run : WrittenRun Scene Block) → written_blocks 1 (length room) t (drop at d) ≡ run
      → wrote w out ≡ wrote_of t (length d) (stored room 0 (length room)) 0 0 0 0 room run
  one_of run e = q ∙ ap (wrote_of t (length d) (stored room 0 (length room)) 0 0 0 0 room) e

  some_left : 0 < length (drop at d)
  some_left = omega (arith, length-drop at d)

  one_written_lem : (v : Block) (rest : List ℕ) → read_block t (drop at d) ≡ found v rest → length (normal_bytes blocks normal_block t v) ≤ length room
      → written_blocks 1 (length room) t (drop at d) ≡ one_written (after blocks t v) v rest (normal_bytes blocks normal_block t v)
  unfolding write_most
  one_written_lem v rest e k =
      written-found blocks (normal_bytes blocks normal_block) 0 (length room) t (drop at d) v rest e some_left k
      ∙ ap (one_written (after blocks t v) v rest) (append-nil (normal_bytes blocks normal_block t v))

  one-short : (v : Block) (rest : List ℕ) → read_block t (drop at d) ≡ found v rest → length room < length (normal_bytes blocks normal_block t v)
      → written_blocks 1 (length room) t (drop at d) ≡ roomless t (drop at d) (length (normal_bytes blocks normal_block t v))
  one-short v rest e k = written-roomless blocks (normal_bytes blocks normal_block) 0 (length room) t (drop at d) v rest e some_left k

  one-refused : (n : ℕ) (left : List ℕ) → read_block t (drop at d) ≡ refused n left
      → written_blocks 1 (length room) t (drop at d) ≡ silent (stopped t (drop at d) n left)
  one-refused n left e = written-refused blocks (normal_bytes blocks normal_block) 0 (length room) t (drop at d) n left e some_left

  -- A run that wrote nothing.
  nothing_written_lem : (run : WrittenRun Scene Block) → written_blocks 1 (length room) t (drop at d) ≡ run → run.bytes ≡ []
      → (p : ℕ) → place_of d run (eqb run.needed 0) ≡ p
      → refused_reply t (refusal_at w.read) (place_at w.read) out ≡ refused_reply t run.run.refusal p room
  nothing_written_lem run e none p at_p =
      let o = one_of run e in
      let k : Counted d w.read run = counted t d room w out run o in
      let place = k.place ∙ at_p in
      let held = room-written t d room w out run o (omega (arith, ap length none)) ∙ ap (λ (bs : List ℕ). bs ++ drop (length bs) room) none in
      λ i. refused_reply t (k.refusal i) (place i) (held i)

  normal_refused_by : refusal_at w.read ≢ 0 → refused_reply t (refusal_at w.read) (place_at w.read) out ≡ normal_at blocks normal_block t d at room
  normal_refused_by z = go (normalises blocks GoodBlock block_lawful normal_block t d at room h g l)
    where
      go : {x : Written Scene Normalised} → Normalises blocks normal_block t d at room x → refused_reply t (refusal_at w.read) (place_at w.read) out ≡ x
      go (call_written {v} {rest} e k) =
          let run = one_written (after blocks t v) v rest (normal_bytes blocks normal_block t v) in
          absurd (z (counted t d room w out run (one_of run (one_written_lem v rest e k))).refusal)
      go (call_short {v} {rest} e k) =
          let size = length (normal_bytes blocks normal_block t v) in
          nothing_written_lem (roomless t (drop at d) size) (one-short v rest e k) refl size
          (ap (place_of d (roomless t (drop at d) size)) (ne_eqb size 0 (λ y. omega arith)))
      go (call_refused {k = n} {left} e) =
          nothing_written_lem (silent (stopped t (drop at d) n left)) (one-refused n left e) refl (place_in d left) refl

  pub normal-refused : (k : Refused) → w.read.refused ≡ Some k
      → refused_reply t (number_of k.refusal) k.place out ≡ normal_at blocks normal_block t d at room
  normal-refused k e =
      (λ i. refused_reply t (refusal_in (sym e i)) (place_by w.read.next (sym e i)) out)
      ∙ normal_refused_by (λ z. number_some k.refusal (sym (ap refusal_in e) ∙ z))

  pub normal-written : w.read.refused ≡ None
      → normal_reply (scene_of w.read.scene) w.written w.read.next out ≡ normal_at blocks normal_block t d at room
  normal-written none = go (normalises blocks GoodBlock block_lawful normal_block t d at room h g l)
    where
      go : {x : Written Scene Normalised} → Normalises blocks normal_block t d at room x
          → normal_reply (scene_of w.read.scene) w.written w.read.next out ≡ x
      go (call_written {v} {rest} e k) =
          let run = one_written (after blocks t v) v rest (normal_bytes blocks normal_block t v) in
          let o = one_of run (one_written_lem v rest e k) in
          let n : Counted d w.read run = counted t d room w out run o in
          let x : Whole d w.read run.run = run-whole t d w.read run.run (enough-told t d room w out run o refl) refl in
          let size = length-written t d room w out run o in
          let held = room-written t d room w out run o k in
          λ i. normal_reply (x.scene i) (size i) (n.next i) (held i)
      go (call_short {v} {rest} e k) =
          let run : WrittenRun Scene Block = roomless t (drop at d) (length (normal_bytes blocks normal_block t v)) in
          let f : ⊥ = omega (arith, ap refusal_in none, (counted t d room w out run (one_of run (one-short v rest e k))).refusal) in
          absurd f
      go (call_refused {k = n} {left} e) =
          let run : WrittenRun Scene Block = silent (stopped t (drop at d) n left) in
          let c = (counted t d room w out run (one_of run (one-refused n left e))).refusal in
          let f : ⊥ = omega (arith, ap refusal_in none, c, (item_refused_lem blocks t d at GoodBlock block_lawful h (omega arith) n left e).0) in
          absurd f
