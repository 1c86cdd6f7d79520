-- A block is its head and then its body. And the head as code reads it: its size and its angles at cursors, then its tests.
-- Assumes nothing.
use mathlib.Core.Path.{◌≡◌, refl, sym, ap, ◌∙◌}
use mathlib.Core.List.{List}
use mathlib.Core.Bool.{Bool, true, false, not}
use Prim.Native.Nat.{ℕ, zero, suc, ◌+◌, ◌-◌, ◌≤◌}
use native.Mathlib.Omega.{arith}
use borrow.Author.Tests.{le-leb}
use lib.Dec.{leb}
use lib.ListN.{length, take, drop, length-drop}
use lib.Seq.{drop-drop, drop_at}
use Rattle.dem.specs.Limits.{block_limit, head_size}
use Rattle.format.specs.Refusal.{code, cut_block, long_block, after_disconnect}
use Rattle.format.specs.Bytes.{Bytes, Result, found, refused, map_result, bind, refused_at, unless, require, le_read}
use Rattle.format.specs.Layout.{Value, parse, print}
use Rattle.dem.specs.Scene.{Scene}
use Rattle.dem.specs.Recording.{Block, angle_layout, read_body, read_sized, read_block}
use Rattle.format.proofs.ResultLaws.{clash}
use Rattle.format.proofs.ByteLaws.{drop-bytes}
use Rattle.format.proofs.LayoutLaws.{Read, parse-sound}
use Rattle.dem.proofs.BlockLaws.{angles-length}
use Rattle.dem_framing.specs.Heads.{sized_head, head_in, size_in}

-- ---- in a scene

module _ (s : Scene) (bs : List ℕ) where
  pub block-ended : s.ended ≡ true → read_block s bs ≡ refused (code after_disconnect) bs
  unfolding read_block read_sized
  block-ended e = go s.ended e _
    where
      go : (b : Bool) → b ≡ true → (q : Result Block) → require (unless (not b) after_disconnect) bs q ≡ refused (code after_disconnect) bs
      go true e q = refl
      go false e q = clash (cc)

  pub block_head : s.ended ≡ false → read_block s bs ≡ bind (head_in bs) (λ h rest. read_body s h.0 h.1 rest)
  unfolding read_block read_sized head_in sized_head
  block_head e =
      going s.ended e _
      ∙ go (unless (leb head_size (length bs)) cut_block) (unless (leb size block_limit) long_block)
      (unless (leb (head_size + size) (length bs)) cut_block) (parse angle_layout (drop 4 bs))
    where
      size : ℕ
      size = le_read (take 4 bs)

      going : (b : Bool) → b ≡ false → (q : Result Block) → require (unless (not b) after_disconnect) bs q ≡ q
      going true e q = clash (cc)
      going false e q = refl

      sized : List Value → ℕ × List Value
      sized angles = (size, angles)

      go : (k l m : ℕ) (q : Result (List Value))
          → require k bs (require l bs (require m bs (bind (refused_at bs q) (read_body s size))))
          ≡ bind (require k bs (require l bs (require m bs (map_result sized (refused_at bs q)))))
          (λ h rest. read_body s h.0 h.1 rest)
      go (suc k) l m q = refl
      go zero (suc l) m q = refl
      go zero zero (suc m) q = refl
      go zero zero zero (found a rest) = refl
      go zero zero zero (refused n left) = refl

-- ---- at a place, as code reads it

module _ (bs : List ℕ) where
  abbrev with_angles : ℕ → List ℕ → Result (ℕ × List Value)
  with_angles size rest = map_result (λ vs. (size, vs)) (refused_at bs (parse angle_layout rest))

  -- Its size, then its angles.
  head_sized : head_in bs ≡ bind (size_in bs) with_angles
  unfolding head_in sized_head size_in
  head_sized =
      go (unless (leb head_size (length bs)) cut_block) (unless (leb size block_limit) long_block)
      (unless (leb (head_size + size) (length bs)) cut_block)
    where
      size : ℕ
      size = le_read (take 4 bs)

      go : (k l m : ℕ)
          → require k bs (require l bs (require m bs (with_angles size (drop 4 bs))))
          ≡ bind (require k bs (require l bs (require m bs (found size (drop 4 bs))))) with_angles
      go (suc k) l m = refl
      go zero (suc l) m = refl
      go zero zero (suc m) = refl
      go zero zero zero = refl

  pub size_refused : (n : ℕ) (left : List ℕ) → refused n left ≡ size_in bs → refused n left ≡ head_in bs
  size_refused n left e = sym (head_sized ∙ ap (λ (q : Result ℕ). bind q with_angles) (sym e))

  size_behind : (size : ℕ) (rest : List ℕ) → found size rest ≡ size_in bs → rest ≡ drop 4 bs
  unfolding size_in
  size_behind size rest e =
      go (unless (leb head_size (length bs)) cut_block) (unless (leb n block_limit) long_block)
      (unless (leb (head_size + n) (length bs)) cut_block) e
    where
      n : ℕ
      n = le_read (take 4 bs)

      go : (k l m : ℕ) → found size rest ≡ require k bs (require l bs (require m bs (found n (drop 4 bs)))) → rest ≡ drop 4 bs
      go (suc k) l m e = clash (cc)
      go zero (suc l) m e = clash (cc)
      go zero zero (suc m) e = clash (cc)
      go zero zero zero e = cc

  -- The head, by its size and by what its angles read to.
  by_angles : (size : ℕ) (rest : List ℕ) (q : Result (List Value)) → found size rest ≡ size_in bs → q ≡ parse angle_layout rest
      → map_result (λ vs. (size, vs)) (refused_at bs q) ≡ head_in bs
  by_angles size rest q e p =
      ap (λ (r : Result (List Value)). map_result (λ vs. (size, vs)) (refused_at bs r)) p
      ∙ sym (head_sized ∙ ap (λ (q : Result ℕ). bind q with_angles) (sym e))

module _ (bs : List ℕ) (h : Bytes bs) where
  -- The angles end where the head does.
  angles_end : (vs : List Value) (rest : List ℕ) → parse angle_layout (drop 4 bs) ≡ found vs rest → drop head_size bs ≡ rest
  angles_end vs rest e =
      let r : Read angle_layout (drop 4 bs) vs rest = parse-sound angle_layout (drop 4 bs) vs rest (drop-bytes 4 bs h) e in
      sym (drop-drop 12 4 bs) ∙ ap (drop 12) (sym r.tiles) ∙ drop_at (print angle_layout vs) rest 12 (angles-length vs r.fits)

module _ (s : List ℕ) (at size next : ℕ) (e : found size (drop next s) ≡ size_in (drop at s)) where
  pub angles_refused : (n : ℕ) (left : List ℕ) → refused n left ≡ parse angle_layout (drop next s)
      → refused n (drop at s) ≡ head_in (drop at s)
  angles_refused n left p = by_angles (drop at s) size (drop next s) (refused n left) e p

  pub head_found : Bytes s → (vs : List Value) (behind : ℕ) → found vs (drop behind s) ≡ parse angle_layout (drop next s)
      → found (size, vs) (drop (at + head_size) s) ≡ head_in (drop at s)
  head_found h vs behind p =
      let r : drop next s ≡ drop 4 (drop at s) = size_behind (drop at s) size (drop next s) e in
      let l = angles_end (drop at s) (drop-bytes at s h) vs (drop behind s) (sym (p ∙ ap (parse angle_layout) r)) in
      ap (λ (l : List ℕ). found (size, vs) l) (sym (drop-drop head_size at s) ∙ l)
      ∙ by_angles (drop at s) size (drop next s) (found vs (drop behind s)) e p

pub ruleset refused_heads = (size_refused, angles_refused)

-- A size that is tested, and what follows it.
pub size_found : (s : List ℕ) (at size : ℕ) → size ≡ le_read (take 4 (drop at s)) → at + (head_size + size) ≤ length s
    → size ≤ block_limit → found size (drop (at + 4) s) ≡ size_in (drop at s)
unfolding size_in
size_found s at size e h l =
    let n : length (drop at s) ≡ length s - at = length-drop at s in
    rw (
      ← e,
      le-leb head_size (length (drop at s)) (omega arith),
      le-leb size block_limit l,
      le-leb (head_size + size) (length (drop at s)) (omega arith),
    ) (ap (found size) (sym (drop-drop 4 at s)))
