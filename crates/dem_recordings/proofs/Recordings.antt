-- What the readers of track lines, heads and runs of blocks answer, in the terms of the entries' definitions.
-- Assumes nothing.
use mathlib.Core.Path.{◌≡◌, refl, sym, ap, ap₂, ◌∙◌, subst}
use mathlib.Core.Logic.{◌≢◌}
use mathlib.Core.List.{List, [], ◌∷◌}
use mathlib.Core.Bool.{Bool, true, false, cond}
use Prim.Native.Nat.{ℕ, suc, ◌+◌, ◌<◌, ◌≤◌}
use native.Mathlib.Nat.{le_refl}
use native.Mathlib.Omega.{arith}
use borrow.Author.Tests.{eq-eqb, ne_eqb, le-ltb}
use lib.Dec.{eqb}
use lib.ListN.{length, take, drop, get_or, length-drop}
use lib.Seq.{drop-cons}
use Rattle.std.specs.Prelude as Rust
use Rattle.std.specs.Prelude.{Option, None, Some, Ok, Err}
use Rattle.format.specs.Refusals.{number_of, refusal_in, place_in as place_by}
use Rattle.format.specs.declared.refusal.Refused.{Refused}
use Rattle.format.proofs.RefusalsBack.{number_some}
use Rattle.dem_messages.proofs.Asked.{asked-refused}
use Rattle.dem_recordings.specs.Replies.{track_answer_of}
use lib.IntN.{ℤ, pos, negsuc, nat_abs}
use mir.Syntax.{w16}
use mir.Val.{to_z, of_z, SFits}
use mir.ValLaws.{to_z-of_z}
use Rattle.dem_framing.proofs.NormalLaws.{number_range}
use Rattle.format.specs.Bytes.{Bytes, Result, found, refused, map_result}
use Rattle.format.specs.Layout.{Value, number}
use Rattle.dem.specs.Scene.{Scene, in_range, fresh}
use Rattle.dem.specs.Message.{Message}
use Rattle.format.specs.Codec.{after, read_all, Run, stopped, preceded, run_most, read_before, write_most}
use Rattle.format.proofs.RunLaws.{run_on, run_step, run_again, run-left, run_within}
use Rattle.dem.specs.Track.{TrackLine, read_track, track_number}
use Rattle.format.specs.Answer.{place_in, Answer, Item, Reply, Progress, item_of, item_at, result, refusal, reply, guarded, run_at}
use Rattle.dem.specs.Recording.{messages, Block, block_of, read_body, read_block, blocks}
use Rattle.dem.specs.Answer.{Outline, Summary, outline_of, whole, count_messages, outline_at, progress_of, blocks_at, track_of, track_at}
use Rattle.dem.specs.WellFormed.{GoodBlock}
use Rattle.format.proofs.ResultLaws.{clash, bind-found, Ranged}
use Rattle.format.proofs.ByteLaws.{drop-bytes}
use Rattle.format.proofs.WrittenLaws.{read_of}
use Rattle.dem.proofs.BlockLaws.{block_lawful}
use Rattle.format.proofs.AnswerLaws.{item-at, place_drop}
use Rattle.dem_framing.specs.Heads.{head_in, head_of}
use Rattle.dem_framing.specs.declared.Head.{Head}
use Rattle.dem_framing.proofs.HeadLaws.{block_head, block-ended}
use Rattle.dem_scene.specs.Views.{scene_of}
use Rattle.dem_blocks.specs.Runs.{Told, refused_in, told_of, answered}
use Rattle.dem_blocks.specs.declared.BlocksAt.{BlocksAt}
use Rattle.dem.proofs.PieceLaws.{summary, whole_run, whole_by-run, whole_by-track}
use Rattle.dem.proofs.RefusalLaws.{listed}

-- ---- a track line

-- A refusal, or a number and the bytes behind it, as the line's reader answers them.
module _ (s : List ℕ) where
  pub track-refused : (n : ℕ) (left : List ℕ) → refused n left ≡ map_result track_number (read_track s) → read_track s ≡ refused n left
  track-refused n left = go (read_track s)
    where
      go : (r : Result TrackLine) → refused n left ≡ map_result track_number r → r ≡ refused n left
      go (found l rest) e = clash (cc)
      go (refused m k) e = ap₂ refused (cc) (cc)

  pub track-found : (z : ℤ) (rest : List ℕ) → found z rest ≡ map_result track_number (read_track s)
      → (l : TrackLine) × (read_track s ≡ found l rest) × (track_number l ≡ z)
  track-found z rest = go (read_track s) refl
    where
      go : (r : Result TrackLine) → read_track s ≡ r → found z rest ≡ map_result track_number r
          → (l : TrackLine) × (read_track s ≡ found l rest) × (track_number l ≡ z)
      go (found l left) f e = let z : rest ≡ left = cc in (l, f ∙ ap (found l) (sym z), (cc))
      go (refused n left) f e = clash (cc)

  pub track_wrong : (r : Refused) → r.place ≤ length s → refused (number_of r.refusal) (drop r.place s) ≡ map_result track_number (read_track s)
      → track_answer_of (Err r) ≡ track_at s
  unfolding track_at
  track_wrong r h q = sym (ap (track_of s) (track-refused (number_of r.refusal) (drop r.place s) q) ∙ ap (refusal (number_of r.refusal)) (place_drop s r.place h))

  pub track-read : (z : ℤ) (next : ℕ) → next ≤ length s → found z (drop next s) ≡ map_result track_number (read_track s)
      → track_answer_of (Ok (record { number = z; next = next })) ≡ track_at s
  unfolding track_at
  track-read z next h q =
      let f = track-found z (drop next s) q in
      sym (ap (track_of s) f.1 ∙ (λ i. result (record { number = f.2 i; next = place_drop s next h i })))

small_fits : (z : ℤ) → nat_abs z < 1000 → SFits w16 z
small_fits (pos n) h = record { sfits = omega arith }
small_fits (negsuc n) h = record { sfits = omega arith }

-- A number that was read is one of 16 bits, as code hands it on.
pub track-number : (s : List ℕ) → Bytes s → (z : ℤ) (next : ℕ) → found z (drop next s) ≡ map_result track_number (read_track s)
    → to_z w16 (of_z w16 z) ≡ z
track-number s h z next q = to_z-of_z w16 z (small_fits z (number_range s z next h q))

-- ---- a run of blocks

-- The number of the refusal that an answer tells, 0 for none, and its place.
abbrev pub refusal_at : BlocksAt → ℕ
refusal_at b = refusal_in b.refused

abbrev pub place_at : BlocksAt → ℕ
place_at b = place_by b.next b.refused

-- A refusal stands at its own place, wherever the blocks end.
pub met_at : (k : Refused) (r : Option Refused) → r ≡ Some k → (m n : ℕ) → place_by m r ≡ place_by n r
met_at k r e m n = ap (place_by m) e ∙ sym (ap (place_by n) e)

-- An answer about a run: nothing was refused inside a block, or something was.
pub record Whole (input : List ℕ) (b : BlocksAt) (r : Run Scene Block) : Type 0 where
  pub scene : scene_of b.scene ≡ r.state
  pub messages : b.messages ≡ count_messages r.items
  pub left : length r.left ≡ length r.rest

module _ (given : Scene) (input : List ℕ) (b : BlocksAt) (r : Run Scene Block) (q : answered b ≡ told_of given (length input) 0 0 r) where
  -- What is told, by whether the refusal stands behind the blocks that were read.
  told_by : Bool → Told
  told_by g =
      cond g
      (record {
        scene = r.state;
        blocks = 0 + length r.items;
        messages = 0 + count_messages r.items;
        next = place_in input r.rest;
        refusal = r.refusal;
        place = place_in input r.left;
      })
      (refused_in given (0 + length r.items) (place_in input r.rest) r.refusal (place_in input r.left))

  part : {A : Type 0} (f : Told → A) (g : Bool) → eqb (length r.left) (length r.rest) ≡ g → f (answered b) ≡ f (told_by g)
  unfolding told_by
  part f g e = ap f q ∙ ap (λ (x : Bool). f (told_by x)) e

  told_blocks : (g : Bool) → eqb (length r.left) (length r.rest) ≡ g → b.blocks ≡ length r.items
  unfolding told_by
  told_blocks true e = let x = part (λ t. t.blocks) true e in omega arith
  told_blocks false e = let x = part (λ t. t.blocks) false e in omega arith

  told-refusal : (g : Bool) → eqb (length r.left) (length r.rest) ≡ g → (refusal_at b) ≡ r.refusal
  unfolding told_by
  told-refusal true e = part (λ t. t.refusal) true e
  told-refusal false e = part (λ t. t.refusal) false e

  told-next : (g : Bool) → eqb (length r.left) (length r.rest) ≡ g → b.next ≡ place_in input r.rest
  unfolding told_by
  told-next true e = part (λ t. t.next) true e
  told-next false e = part (λ t. t.next) false e

  told-place : (g : Bool) → eqb (length r.left) (length r.rest) ≡ g → (place_at b) ≡ place_in input r.left
  unfolding told_by
  told-place true e = part (λ t. t.place) true e
  told-place false e = part (λ t. t.place) false e

  pub run-blocks : b.blocks ≡ length r.items
  run-blocks = told_blocks _ refl

  pub run-refusal : (refusal_at b) ≡ r.refusal
  run-refusal = told-refusal _ refl

  pub run-next : b.next ≡ place_in input r.rest
  run-next = told-next _ refl

  pub run-place : (place_at b) ≡ place_in input r.left
  run-place = told-place _ refl

  pub run-whole : length r.left ≡ length r.rest → Whole input b r
  unfolding told_by
  run-whole z =
      let e = eq-eqb (length r.left) (length r.rest) z in
      let m = part (λ t. t.messages) true e in
      record { scene = part (λ t. t.scene) true e; messages = omega arith; left = z }

  pub run_inside : length r.left ≢ length r.rest → scene_of b.scene ≡ given
  unfolding told_by
  run_inside z = part (λ t. t.scene) false (ne_eqb (length r.left) (length r.rest) z)

-- ---- a block at a place

-- An answer about a head is a head, with the angles of a block.
abbrev HeadOf : Rust.Result Head Refused → Block → Type 0
HeadOf h v = (x : Head) × (h ≡ Ok x) × (v.angles ≡ number x.angle0 ∷ number x.angle1 ∷ number x.angle2 ∷ [])

module _ (t : Scene) (d : List ℕ) (at : ℕ) (in? : at < length d) where
  -- At most one block.
  pub one_block : run_most blocks 1 t (drop at d) ≡ run_on t (drop at d) (read_block t (drop at d)) (λ v rest. stopped (after blocks t v) rest 0 rest)
  unfolding write_most
  one_block =
      ap (run_most blocks 1 t) e
      ∙ run_step blocks 0 t (get_or d at 0) (drop (suc at) d)
      ∙ ap (λ (bs : List ℕ). run_on t bs (read_block t bs) (λ v rest. stopped (after blocks t v) rest 0 rest)) (sym e)
    where
      e : drop at d ≡ get_or d at 0 ∷ drop (suc at) d
      e = drop-cons d at 0 in?

  -- A block that is found has a head, and its angles.
  pub block-angles : (h : Rust.Result Head Refused) → head_of d at h ≡ head_in (drop at d) → (v : Block) (rest : List ℕ)
      → read_block t (drop at d) ≡ found v rest
      → HeadOf h v
  unfolding head_of
  block-angles h q v rest e = go t.ended refl
    where
      body : (a : List Value) (m : List ℕ) (r : Result (List Message)) → read_before m (block_of a) r ≡ found v rest → v.angles ≡ a
      body a m (found ms left) f = let z : block_of a ms ≡ v = cc in ap (λ (y : Block). y.angles) (sym z)
      body a m (refused n left) f = clash (cc)

      from : (k : Rust.Result Head Refused) → h ≡ k → (w : ℕ × List Value) (m : List ℕ) → head_of d at k ≡ found w m → v.angles ≡ w.1 → HeadOf h v
      from (Ok x) s w m f g =
          let z : w ≡ (x.size, number x.angle0 ∷ number x.angle1 ∷ number x.angle2 ∷ []) = cc in
          (x, s, g ∙ ap (λ (y : ℕ × List Value). y.1) z)
      from (Err r) s w m f g = clash (cc)

      go : (b : Bool) → t.ended ≡ b → HeadOf h v
      go true g = let z = sym (block-ended t (drop at d) g) ∙ e in clash (cc)
      go false g =
          let p = bind-found (head_in (drop at d)) (λ h rest. read_body t h.0 h.1 rest) v rest (sym (block_head t (drop at d) g) ∙ e) in
          from h refl p.value p.between (q ∙ p.first)
          (body p.value.1 (drop p.value.0 p.between) (read_all messages t (take p.value.0 p.between)) p.later)

-- ---- blocks from a place on

pub blocks_asked : (t : Scene) (d : List ℕ) (at : ℕ) (r : Refused)
    → ◌≡◌ {A = Answer (Unit {0})} (refusal (number_of r.refusal) r.place) (guarded (in_range t) d at refusal (result tt))
    → reply t (refusal (number_of r.refusal) r.place) ≡ blocks_at t d at
unfolding run_at
blocks_asked t d at r e = asked-refused (in_range t) d at (λ n p. reply t (refusal n p)) _ (number_of r.refusal) r.place e

pub blocks_at_lem : (t : Scene) (d : List ℕ) (at : ℕ) → in_range t ≡ true → at ≤ length d
    → blocks_at t d at
    ≡ reply (run_most blocks (length d) t (drop at d)).state (result (progress_of d (run_most blocks (length d) t (drop at d))))
unfolding run_at
blocks_at_lem t d at e l = rw (e, le-ltb (length d) at l)

-- ---- the entries

abbrev block_reply : ℕ → Scene → List Value → ℕ → ℕ → Reply Scene Outline
block_reply at s vs m n = reply s (result (record { angles = vs; start = at + 16; messages = m; next = n }))

pub outline_asked : (t : Scene) (d : List ℕ) (at : ℕ) (r : Refused)
    → ◌≡◌ {A = Answer (Unit {0})} (refusal (number_of r.refusal) r.place) (guarded (in_range t) d at refusal (result tt))
    → reply t (refusal (number_of r.refusal) r.place) ≡ outline_at t d at
unfolding item_at
outline_asked t d at r e =
    ap (λ (x : Reply Scene (Item Block Block)). reply x.scene (outline_of at x.answer))
    (asked-refused (in_range t) d at (λ n p. reply t (refusal n p)) _ (number_of r.refusal) r.place e)

-- What an item at a place says of a block.
abbrev pub outlined : ℕ → Reply Scene (Item Block Block) → Reply Scene Outline
outlined at r = reply r.scene (outline_of at r.answer)

module _ (t : Scene) (d : List ℕ) (at : ℕ) (h : Bytes d) (g : in_range t ≡ true) (b : BlocksAt) where
  module _ (in? : at < length d) (q : answered b ≡ told_of t (length d) 0 0 (run_most blocks 1 t (drop at d))) where
    run_of : (r : Result Block) → read_block t (drop at d) ≡ r
        → answered b ≡ told_of t (length d) 0 0 (run_on t (drop at d) r (λ v rest. stopped (after blocks t v) rest 0 rest))
    run_of r e =
        q
        ∙ ap (told_of t (length d) 0 0)
        (one_block t d at in? ∙ ap (λ (x : Result Block). run_on t (drop at d) x (λ v rest. stopped (after blocks t v) rest 0 rest)) e)

    abbrev one : Result Block → Run Scene Block
    one r = run_on t (drop at d) r (λ v rest. stopped (after blocks t v) rest 0 rest)

    outline_of_lem : (r : Result Block) → read_block t (drop at d) ≡ r → outline_at t d at ≡ outlined at (item_of blocks t d r)
    outline_of_lem r e = ap (outlined at) (item-at blocks t d at g in? ∙ ap (item_of blocks t d) e)

    pub outline-refused : (k : Refused) → b.refused ≡ Some k → reply t (refusal (number_of k.refusal) k.place) ≡ outline_at t d at
    outline-refused k z = go (read_block t (drop at d)) refl
      where
        go : (r : Result Block) → read_block t (drop at d) ≡ r → reply t (refusal (number_of k.refusal) k.place) ≡ outline_at t d at
        go (found v rest) e =
            absurd (number_some k.refusal (sym (ap refusal_in z) ∙ run-refusal t d b (one (found v rest)) (run_of (found v rest) e)))
        go (refused n left) e =
            let p = run_of (refused n left) e in
            let m : number_of k.refusal ≡ n = sym (ap refusal_in z) ∙ run-refusal t d b (one (refused n left)) p in
            let j : k.place ≡ place_in d left = sym (ap (place_by b.next) z) ∙ run-place t d b (one (refused n left)) p in
            (λ i. reply t (refusal (m i) (j i))) ∙ sym (outline_of_lem (refused n left) e)

    -- Where none is refused, a block was read.
    one_found : b.refused ≡ None → (v : Block) × (rest : List ℕ) × (read_block t (drop at d) ≡ found v rest)
    one_found z = go (read_block t (drop at d)) refl
      where
        go : (r : Result Block) → read_block t (drop at d) ≡ r → (v : Block) × (rest : List ℕ) × (read_block t (drop at d) ≡ found v rest)
        go (found v rest) e = (v, rest, e)
        go (refused n left) e =
            let k : refusal_at b ≡ n = run-refusal t d b (one (refused n left)) (run_of (refused n left) e) in
            let r : Ranged {A = Block} listed (drop at d) (refused n left) =
            subst (λ (x : Result Block). Ranged listed (drop at d) x) e (block_lawful.ranged t (drop at d) (drop-bytes at d h)) in
            let f : ⊥ = omega (arith, r.0, k, ap refusal_in z) in
            absurd f

    pub head_read : (a : Rust.Result Head Refused) → head_of d at a ≡ head_in (drop at d) → b.refused ≡ None → (x : Head) × (a ≡ Ok x)
    head_read a f z = let v = one_found z in let x = block-angles t d at in? a f v.0 v.1 v.2 in (x.0, x.1)

    pub outline-found : (a : Head) → head_of d at (Ok a) ≡ head_in (drop at d) → b.refused ≡ None
        → reply (scene_of b.scene)
        (result (record { angles = number a.angle0 ∷ number a.angle1 ∷ number a.angle2 ∷ []; start = at + 16; messages = b.messages; next = b.next }))
        ≡ outline_at t d at
    outline-found a f z =
        let found-one = one_found z in
        let v = found-one.0 in
        let rest = found-one.1 in
        let e = found-one.2 in
        let p = run_of (found v rest) e in
        let w : Whole d b (preceded v (stopped (after blocks t v) rest 0 rest)) = run-whole t d b (one (found v rest)) p refl in
        let m : length v.messages ≡ b.messages = omega (arith, w.messages) in
        let x = block-angles t d at in? (Ok a) f v rest e in
        let same : a ≡ x.0 = cc (x.1) in
        let angles : v.angles ≡ number a.angle0 ∷ number a.angle1 ∷ number a.angle2 ∷ [] =
        x.2 ∙ ap (λ (y : Head). number y.angle0 ∷ number y.angle1 ∷ number y.angle2 ∷ []) (sym same) in
        sym (outline_of_lem (found v rest) e
        ∙ (λ i. block_reply at (sym w.scene i) (angles i) (m i) (sym (run-next t d b (one (found v rest)) p) i)))

  module _ (l : at ≤ length d) (q : answered b ≡ told_of t (length d) 0 0 (run_most blocks (length d) t (drop at d))) where
    abbrev all : Run Scene Block
    all = run_most blocks (length d) t (drop at d)

    abbrev pub progress : Scene → ℕ → ℕ → ℕ → ℕ → ℕ → Reply Scene Progress
    progress s k m n f p = reply s (result (record { blocks = k; messages = m; next = n; refusal = f; place = p }))

    told_all : (c : BlocksAt) → scene_of c.scene ≡ all.state → c.blocks ≡ length all.items → c.messages ≡ count_messages all.items
        → c.next ≡ place_in d all.rest
        → blocks_at t d at ≡ progress (scene_of c.scene) c.blocks c.messages c.next (refusal_at b) (place_at b)
    told_all c es eb em en =
        blocks_at_lem t d at g l
        ∙ (λ i. progress (sym (es) i) (sym (eb) i) (sym (em) i) (sym (en) i) (sym (run-refusal t d b all q) i) (sym (run-place t d b all q) i))

    -- Nothing was refused inside a block: all is told by the run.
    pub blocks_once : b.next ≡ place_at b
        → progress (scene_of b.scene) b.blocks b.messages b.next (refusal_at b) (place_at b) ≡ blocks_at t d at
    blocks_once e =
        let k = run_within blocks GoodBlock block_lawful (length d) t (drop at d) (drop-bytes at d h) in
        let w : Whole d b all = run-whole t d b all q
        (omega (arith, e, run-next t d b all q, run-place t d b all q, k.0, k.1, length-drop at d)) in
        sym (told_all b w.scene (run-blocks t d b all q) w.messages (run-next t d b all q))

    -- The blocks before a refused message, read again.
    pub blocks_twice : (k : Refused) → b.refused ≡ Some k → (c : BlocksAt) → answered c ≡ told_of t (length d) 0 0 (run_most blocks b.blocks t (drop at d))
        → progress (scene_of c.scene) c.blocks c.messages c.next (refusal_at b) (place_by c.next b.refused) ≡ blocks_at t d at
    blocks_twice k e c p =
        let p' = p ∙ ap (told_of t (length d) 0 0)
        (ap (λ (n : ℕ). run_most blocks n t (drop at d)) (run-blocks t d b all q) ∙ run_again blocks (length d) t (drop at d)) in
        let w : Whole d c (read_of all) = run-whole t d c (read_of all) p' refl in
        ap (progress (scene_of c.scene) c.blocks c.messages c.next (refusal_at b)) (met_at k b.refused e c.next b.next)
        ∙ sym (told_all c w.scene (run-blocks t d c (read_of all) p') w.messages (run-next t d c (read_of all) p'))

-- ---- a whole recording

module _ (r : List ℕ) where
  pub recording_track : (k : Refused) → k.place ≤ length r → refused (number_of k.refusal) (drop k.place r) ≡ map_result track_number (read_track r)
      → reply fresh (refusal (number_of k.refusal) k.place) ≡ whole r
  recording_track k h q =
      sym (whole_by-track r (number_of k.refusal) (drop k.place r) (track-refused r (number_of k.refusal) (drop k.place r) q)
      ∙ ap (λ (p : ℕ). reply fresh (refusal (number_of k.refusal) p)) (place_drop r k.place h))

  module _ (h : Bytes r) (z : ℤ) (at : ℕ) (q : found z (drop at r) ≡ map_result track_number (read_track r)) (b : BlocksAt)
      (p : answered b ≡ told_of fresh (length r) 0 0 (run_most blocks (length r) fresh (drop at r))) where
    abbrev line : TrackLine
    line = (track-found r z (drop at r) q).0

    abbrev run : Run Scene Block
    run = run_most blocks (length r) fresh (drop at r)

    by-run : whole r ≡ whole_run r line run
    by-run = whole_by-run r (length r) h (le_refl (length r)) line (drop at r) (track-found r z (drop at r) q).1

    told_if : Bool → Reply Scene Summary
    told_if x = cond x (reply run.state (result (summary line (length run.items) (count_messages run.items)))) (reply fresh (refusal run.refusal (place_in r run.left)))

    pub recording-refused : (k : Refused) → b.refused ≡ Some k → reply fresh (refusal (number_of k.refusal) k.place) ≡ whole r
    unfolding told_if
    recording-refused k n =
        let e : number_of k.refusal ≡ run.refusal = sym (ap refusal_in n) ∙ run-refusal fresh r b run p in
        let j : k.place ≡ place_in r run.left = sym (ap (place_by b.next) n) ∙ run-place fresh r b run p in
        (λ i. reply fresh (refusal (e i) (j i)))
        ∙ sym (by-run ∙ ap told_if (ne_eqb run.refusal 0 (λ y. number_some k.refusal (e ∙ y))))

    pub recording-read : b.refused ≡ None
        → reply (scene_of b.scene) (result (record { track = z; blocks = b.blocks; messages = b.messages })) ≡ whole r
    unfolding told_if
    recording-read n =
        let e : run.refusal ≡ 0 = sym (run-refusal fresh r b run p) ∙ ap refusal_in n in
        let w : Whole r b run = run-whole fresh r b run p
        (ap length (run-left blocks GoodBlock block_lawful (length r) fresh (drop at r) (drop-bytes at r h) e)) in
        sym (by-run ∙ ap told_if (eq-eqb run.refusal 0 e)
        ∙ (λ i. reply (sym w.scene i) (result (record { track = (track-found r z (drop at r) q).2 i; blocks = sym (run-blocks fresh r b run p) i; messages = sym w.messages i }))))
