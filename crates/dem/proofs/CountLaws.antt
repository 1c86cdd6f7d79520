-- The number that the scene keeps is that of its present marks: at the start, after every message, and so along every recording.
-- Assumes nothing.
use mathlib.Core.Path.{◌≡◌, refl, sym, ap, ◌∙◌}
use mathlib.Core.List.{List, [], ◌∷◌}
use mathlib.Core.Bool.{Bool, true, false, cond}
use Prim.Native.Nat.{ℕ, zero, suc, ◌+◌, ◌≤◌, ◌<◌}
use native.Mathlib.Omega.{arith}
use lib.Dec.{eqb}
use lib.ListN.{get_or, set, replicate, length, take, length-take}
use lib.Seq.{take-suc, take_all}
use Rattle.format.specs.Bytes.{bit_of}
use Rattle.format.specs.Layout.{numbers, first_number, tail}
use Rattle.format.specs.Codec.{apply_all}
use Rattle.dem.specs.Kind
use Rattle.dem.specs.Limits.{entity_count}
use Rattle.dem.specs.Scene.{Scene, at, cleared, fresh, count_marks}
use Rattle.dem.specs.Message.{Message, is_update, count_with, changed, apply}
use Rattle.dem.specs.Recording.{messages, Block, blocks, apply_block}
use Rattle.format.proofs.CodecLaws.{apply_keep}
use Rattle.format.proofs.ProgressLaws.{sum_append}

abbrev pub Counted : Scene → Type 0
Counted s = s.present_count ≡ count_marks s.present

-- ---- marks

pub count_set : (marks : List Bool) (i : ℕ) → count_marks (set marks i true) ≡ count_with marks i (count_marks marks)
count_set [] i = refl
count_set (true ∷ marks) zero = refl
count_set (false ∷ marks) zero = omega arith
count_set (mark ∷ marks) (suc i) = ap (λ (n : ℕ). bit_of mark + n) (count_set marks i) ∙ behind (get_or marks i true) (count_marks marks)
  where
    behind : (was : Bool) (n : ℕ) → bit_of mark + cond was n (n + 1) ≡ cond was (bit_of mark + n) (bit_of mark + n + 1)
    behind true n = refl
    behind false n = omega arith

-- Where there is a mark, the default does not matter.
pub mark_there : (marks : List Bool) (i : ℕ) (d e : Bool) → i < length marks → get_or marks i d ≡ get_or marks i e
mark_there (mark ∷ marks) zero d e h = refl
mark_there (mark ∷ marks) (suc i) d e h = mark_there marks i d e (omega arith)
mark_there [] i d e h = let z : ⊥ = omega arith in absurd z

-- One more, if it was not set; else as many.
pub record MarkCounted (marks : List Bool) (i before after : ℕ) : Type 0 where
  pub again : get_or marks i false ≡ true → after ≡ before
  pub new : get_or marks i false ≡ false → after ≡ before + 1

pub mark_counted : (marks : List Bool) (i count : ℕ) → i < length marks → MarkCounted marks i count (count_with marks i count)
mark_counted marks i count h =
    let there = mark_there marks i true false h in record { again = λ e. rw (there, e); new = λ e. rw (there, e) }

pub count_none : (n : ℕ) → count_marks (replicate n false) ≡ 0
count_none zero = refl
count_none (suc n) = omega (arith, count_none n)

pub count_bounded : (marks : List Bool) → count_marks marks ≤ length marks
count_bounded [] = omega arith
count_bounded (true ∷ marks) = omega (arith, count_bounded marks)
count_bounded (false ∷ marks) = omega (arith, count_bounded marks)

-- Marks that are counted one after the other: so many of the first i are set.
abbrev pub CountedTo : List Bool → ℕ → ℕ → Type 0
CountedTo marks i count = (i ≤ length marks) × (count ≡ count_marks (take i marks))

module _ (marks : List Bool) (i count : ℕ) (c : CountedTo marks i count) where
  pub counted_more : (d : Bool) → i < length marks → CountedTo marks (i + 1) (count + bit_of (get_or marks i d))
  counted_more d h =
      let next : i + 1 ≡ suc i = omega arith in
      let all = ap (λ (k : ℕ). count_marks (take k marks)) next ∙ ap count_marks (take-suc marks i d h) ∙ sum_append bit_of (take i marks) (get_or marks i d ∷ []) in
      (omega arith, omega (arith, all, c.1))

  pub counted_few : count ≤ i
  counted_few = omega (arith, c.1, count_bounded (take i marks), length-take i marks)

  pub counted_all : length marks ≤ i → count ≡ count_marks marks
  counted_all h = c.1 ∙ ap count_marks (take_all i marks h)

-- ---- scenes

pub cleared_counted : (limit : ℕ) → Counted (cleared limit)
cleared_counted limit = sym (count_none entity_count)

pub changed_counted : (s : Scene) (n : ℕ) (v : List ℕ) → Counted s → Counted (changed s n v)
changed_counted s n v c = go (is_update n) (eqb n Kind.time)
  where
    i : ℕ
    i = at v 0

    go : (update time : Bool)
        → cond update (count_with s.present i s.present_count) (cond time 0 s.present_count)
        ≡ count_marks (cond update (set s.present i true) (cond time (replicate entity_count false) s.present))
    go true time = ap (count_with s.present i) c ∙ sym (count_set s.present i)
    go false true = sym (count_none entity_count)
    go false false = c

-- After every message, whatever it is.
pub apply_counted : (s : Scene) (m : Message) → Counted s → Counted (apply s m)
unfolding apply
apply_counted s m c = go (eqb (first_number m) Kind.serverinfo)
  where
    v : List ℕ
    v = numbers (tail m)

    go : (b : Bool) → Counted (cond b (cleared (at v 1)) (changed s (first_number m) v))
    go true = cleared_counted (at v 1)
    go false = changed_counted s (first_number m) v c

block_counted : (s : Scene) (b : Block) → Counted s → Counted (apply_block s b)
unfolding apply_block
block_counted s b c = apply_keep messages Counted apply_counted s b.messages c

-- Every scene along a recording: after any blocks of it, and any messages of the block behind them.
pub recording_counted : (bs : List Block) (fs : List Message) → Counted (apply_all messages (apply_all blocks fresh bs) fs)
unfolding fresh
recording_counted bs fs =
    apply_keep messages Counted apply_counted (apply_all blocks fresh bs) fs (apply_keep blocks Counted block_counted fresh bs (cleared_counted 0))
