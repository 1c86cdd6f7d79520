-- What an outline tells, its block tells; the message bytes of a block; a recording's reading by its track line and the blocks behind it.
-- Assumes nothing.
use mathlib.Core.Path.{◌≡◌, refl, sym, ap, ap₂, ◌∙◌}
use mathlib.Core.List.{List, [], ◌++◌, append_assoc}
use mathlib.Core.Option.{none, some}
use Prim.Native.Nat.{ℕ, ◌+◌, ◌-◌, ◌≤◌}
use native.Mathlib.Omega.{arith}
use lib.IntN.{ℤ}
use lib.ListN.{length, take, drop, length-append}
use lib.Seq.{take-append_seam, drop-append_seam, drop-drop}
use Rattle.format.specs.Bytes.{Bytes, Result, found, refused, map_result, bind}
use Rattle.format.specs.Layout.{print}
use Rattle.format.specs.Codec.{read_all, write_all, fill_all}
use Rattle.format.specs.Answer.{place_in, Answer, result, at_end, refusal, reply, Item}
use Rattle.dem.specs.Limits.{head_size}
use Rattle.dem.specs.Scene.{Scene, fresh}
use Rattle.dem.specs.Track.{TrackLine, read_track, track_number, write_track}
use Rattle.dem.specs.Recording.{messages, angle_layout, Block, write_block, blocks, recording_of, read_recording, Reading, fill_recording, reading_of}
use Rattle.dem.specs.Recording.{reading}
use Rattle.dem.specs.WellFormed.{GoodBlock}
use Rattle.dem.specs.Answer.{block_at, Outline, outline_of, outline_at, Track, track_of, track_at}
use Rattle.format.proofs.ResultLaws.{clash}
use Rattle.format.proofs.ReadLaws.{all_sound}
use Rattle.format.proofs.LayoutLaws.{allows→}
use Rattle.format.proofs.CallLaws.{answer_of_lem, state_of, FoundItem}
use Rattle.dem.proofs.BlockLaws.{angles-length, block-length, block_lawful}
use Rattle.dem.proofs.TrackLaws.{TrackRead, track-sound}

-- ---- blocks

module _ (s : Scene) (input : List ℕ) (place : ℕ) (t : Scene) where
  -- What an outline tells, the block tells.
  pub outline_end : outline_at s input place ≡ reply t at_end → block_at s input place ≡ reply t at_end
  outline_end e = go (block_at s input place).answer (ap state_of e) (ap answer_of_lem e)
    where
      go : (a : Answer (Item Block Block)) → (block_at s input place).scene ≡ t → outline_of place a ≡ at_end
          → reply (block_at s input place).scene a ≡ reply t at_end
      go (result i) p q = clash (cc)
      go at_end p q = ap (λ (u : Scene). reply u at_end) p
      go (refusal n k) p q = clash (cc)

  pub outline-refused : (n k : ℕ) → outline_at s input place ≡ reply t (refusal n k) → block_at s input place ≡ reply t (refusal n k)
  outline-refused n k e = go (block_at s input place).answer (ap state_of e) (ap answer_of_lem e)
    where
      go : (a : Answer (Item Block Block)) → (block_at s input place).scene ≡ t → outline_of place a ≡ refusal n k
          → reply (block_at s input place).scene a ≡ reply t (refusal n k)
      go (result i) p q = clash (cc)
      go at_end p q = clash (cc)
      go (refusal m j) p q = let x : m ≡ n = cc in let y : j ≡ k = cc in λ i. reply (p i) (refusal (x i) (y i))

  pub outline-found : (o : Outline) → outline_at s input place ≡ reply t (result o)
      → (i : Item Block Block) × (block_at s input place ≡ reply t (result i)) × (outline_of place (result i) ≡ result o)
  outline-found o e = go (block_at s input place).answer refl (ap state_of e) (ap answer_of_lem e)
    where
      go : (a : Answer (Item Block Block)) → (block_at s input place).answer ≡ a → (block_at s input place).scene ≡ t → outline_of place a ≡ result o
          → (i : Item Block Block) × (block_at s input place ≡ reply t (result i)) × (outline_of place (result i) ≡ result o)
      go (result i) w p q = (i, ap₂ reply p w, q)
      go at_end w p q = clash (cc)
      go (refusal m j) w p q = clash (cc)

  -- The message bytes of a block that was found are its messages' bytes, one after the other.
  pub block_body : (i : Item Block Block) → FoundItem blocks GoodBlock s input place t i
      → (place + head_size ≤ i.next)
      × (take (i.next - (place + head_size)) (drop (place + head_size) input) ≡ write_all messages s i.sent.messages)
  unfolding write_block
  block_body i f =
      let size = block-length s i.sent f.good in
      let width : i.next - (place + head_size) ≡ length body = omega (arith, size, f.next) in
      let twelve : 12 ≡ length angles = sym (angles-length i.sent.angles (allows→ angle_layout i.sent.angles f.good.angles)) in
      let behind : drop (place + head_size) input ≡ body ++ drop i.next input =
      sym (drop-drop head_size place input) ∙ ap (drop head_size) (sym f.tiles)
      ∙ ap (drop 12) (append_assoc angles body (drop i.next input))
      ∙ ap (λ (k : ℕ). drop k (angles ++ (body ++ drop i.next input))) twelve
      ∙ drop-append_seam angles (body ++ drop i.next input) in
      (omega (arith, size, f.next), ap₂ take width behind ∙ take-append_seam body (drop i.next input))
    where
      body : List ℕ
      body = write_all messages s i.sent.messages

      angles : List ℕ
      angles = print angle_layout i.sent.angles

-- ---- the track line

module _ (r : List ℕ) (h : Bytes r) where
  pub behind-track : (t : TrackLine) (rest : List ℕ) → read_track r ≡ found t rest → (drop (place_in r rest) r ≡ rest) × (place_in r rest ≤ length r)
  behind-track t rest e =
      let k : TrackRead r t rest = track-sound r t rest h e in
      let n : place_in r rest ≡ length (write_track t) = omega (arith, simp length-append at (ap length k.tiles)) in
      (ap (λ (j : ℕ). drop j r) n ∙ ap (drop (length (write_track t))) (sym k.tiles) ∙ drop-append_seam (write_track t) rest, omega arith)

  pub track-told : (n : ℤ) (next : ℕ) → track_at r ≡ result (record { number = n; next = next })
      → (t : TrackLine) × (read_track r ≡ found t (drop next r)) × (track_number t ≡ n) × (next ≤ length r)
  unfolding track_at
  track-told n next = go (read_track r) refl
    where
      go : (q : Result TrackLine) → read_track r ≡ q → track_of r q ≡ result (record { number = n; next = next })
          → (t : TrackLine) × (read_track r ≡ found t (drop next r)) × (track_number t ≡ n) × (next ≤ length r)
      go (refused k left) e x = clash (cc)
      go (found t rest) e x =
          let b = behind-track t rest e in
          let told : ◌≡◌ {A = Track} (record { number = track_number t; next = place_in r rest }) (record { number = n; next = next }) = cc in
          let m : track_number t ≡ n = ap (λ (y : Track). y.number) told in
          let p : place_in r rest ≡ next = ap (λ (y : Track). y.next) told in
          (t, e ∙ ap (found t) (sym b.0 ∙ ap (λ (j : ℕ). drop j r) p), m, omega (arith, b.1, p))

  pub track-refusal-told : (n p : ℕ) → track_at r ≡ refusal n p → (left : List ℕ) × (read_track r ≡ refused n left)
  unfolding track_at
  track-refusal-told n p = go (read_track r) refl
    where
      go : (q : Result TrackLine) → read_track r ≡ q → track_of r q ≡ refusal n p → (left : List ℕ) × (read_track r ≡ refused n left)
      go (found t rest) e x = clash (cc)
      go (refused k left) e x = let m : k ≡ n = cc in (left, e ∙ ap (λ (j : ℕ). refused j left) m)

-- ---- the reading, by the track line and the blocks behind it

-- As sent.
pub recording-blocks : (r : List ℕ) (t : TrackLine) (rest : List ℕ) → read_track r ≡ found t rest → (q : Result (List Block))
    → read_all blocks fresh rest ≡ q → read_recording r ≡ map_result (recording_of t) q
unfolding read_recording
recording-blocks r t rest e q f =
    ap (λ (x : Result TrackLine). bind x (λ u m. map_result (recording_of u) (read_all blocks fresh m))) e ∙ ap (map_result (recording_of t)) f

pub reading-found : (r : List ℕ) (t : TrackLine) (rest : List ℕ) → read_track r ≡ found t rest → (vs : List Block)
    → read_all blocks fresh rest ≡ found vs [] → reading r ≡ some (record { track = track_number t; blocks = fill_all blocks fresh vs })
unfolding reading fill_recording
reading-found r t rest e vs f = ap reading_of (recording-blocks r t rest e (found vs []) f)

pub reading-refused : (r : List ℕ) (t : TrackLine) (rest : List ℕ) → read_track r ≡ found t rest → (n : ℕ) (left : List ℕ)
    → read_all blocks fresh rest ≡ refused n left → reading r ≡ none
unfolding reading
reading-refused r t rest e n left f = ap reading_of (recording-blocks r t rest e (refused n left) f)

pub reading_no-track : (r : List ℕ) (n : ℕ) (left : List ℕ) → read_track r ≡ refused n left → reading r ≡ none
unfolding reading read_recording
reading_no-track r n left e = ap (λ (q : Result TrackLine). reading_of (bind q (λ u m. map_result (recording_of u) (read_all blocks fresh m)))) e

-- An accepted recording: its track line and the blocks behind it are read.
pub record ReadBlocks (r : List ℕ) (t : TrackLine) (rest : List ℕ) (R : Reading) : Type 0 where
  pub items : List Block
  pub read : read_all blocks fresh rest ≡ found items []
  pub is : R ≡ record { track = track_number t; blocks = fill_all blocks fresh items }

pub blocks-read : (r : List ℕ) (t : TrackLine) (rest : List ℕ) → Bytes r → read_track r ≡ found t rest → (R : Reading) → reading r ≡ some R
    → ReadBlocks r t rest R
blocks-read r t rest h e R a = go (read_all blocks fresh rest) refl
  where
    go : (q : Result (List Block)) → read_all blocks fresh rest ≡ q → ReadBlocks r t rest R
    go (refused n left) f = let x = sym a ∙ reading-refused r t rest e n left f in clash (cc)
    go (found vs left) f =
        let k : TrackRead r t rest = track-sound r t rest h e in
        let g : read_all blocks fresh rest ≡ found vs [] =
        f ∙ ap (found vs) (all_sound blocks GoodBlock block_lawful fresh rest vs left k.left f).ends in
        let x : some R ≡ some (record { track = track_number t; blocks = fill_all blocks fresh vs }) = sym a ∙ reading-found r t rest e vs g in
        record { items = vs; read = g; is = cc }
