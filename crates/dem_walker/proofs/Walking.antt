-- A step hands out what the message reader answers and goes on behind a message that is found, at least one byte on and not past the end; and a walk over all messages of a block is its reading.
-- Assumes nothing.
use mathlib.Core.Path.{◌≡◌, refl, sym, ap, ap₂, ◌∙◌}
use mathlib.Core.List.{List, ◌∷◌}
use mathlib.Core.Bool.{Bool, true, false, cond, not}
use Prim.Native.Nat.{ℕ, ◌+◌, ◌<◌, ◌≤◌}
use native.Mathlib.Omega.{arith}
use lib.ListN.{length, drop}
use Rattle.format.specs.Bytes.{Bytes, Result, found, refused, map_result}
use Rattle.dem.specs.Scene.{Scene, in_range}
use Rattle.dem.specs.Message.{Message, fill, apply}
use Rattle.dem.specs.WellFormed.{GoodMessage}
use Rattle.format.specs.Codec.{read_all, fill_all, apply_all}
use Rattle.format.specs.Answer.{place_in, Answer, result, at_end, refusal, Item, Reply as Told, reply}
use Rattle.dem.specs.Recording.{messages}
use Rattle.dem.specs.Answer.{message_at}
use Rattle.format.proofs.ResultLaws.{clash}
use Rattle.format.proofs.CallLaws.{Asked, asked_wrong, asked_end, asked_past, asked_found, asked_refused, asked, FoundItem, found-told, all_end, all-refused, all_found}
use Rattle.dem.proofs.BlockLaws.{message_lawful}
use Rattle.dem.proofs.RangeLaws.{message_range}
use Rattle.dem_types.specs.Places.{values_to}
use Rattle.dem_types.specs.Values.{values_of}
use Rattle.dem_scene.specs.Views.{scene_of, filled_by}
use Rattle.dem_scene.specs.declared.Scene.{Scene as Held}
use Rattle.dem_messages.specs.Replies.{answer_of, reply_of}
use Rattle.std.specs.Prelude as Rust
use Rattle.std.specs.Prelude.{Option, None, Some, Ok, Err}
use Rattle.format.specs.declared.refusal.Refused.{Refused}
use Rattle.format.specs.Refusals.{number_of}
use Rattle.dem_messages.specs.declared.Found.{Found}
use Rattle.dem_messages.specs.declared.Reply.{Reply}
use Rattle.dem_messages.proofs.Messages.{found-reply-at}
use Rattle.dem_walker.specs.Walks.{moved_to, place_after, stepped, step_at, walk, walk_from, walk_all}

abbrev R : Type 0
R = Told Scene (Item Message Message)

abbrev A : Type 0
A = Answer (Item Message Message)

-- ---- one step

placed-after : (s : List ℕ) (at : ℕ) (a : Rust.Result (Option Found) Refused) → place_after at a ≡ moved_to at (answer_of s a)
placed-after s at (Ok (Some f)) = refl
placed-after s at (Ok None) = refl
placed-after s at (Err r) = refl

-- By what the reader answered, and the place that goes with it.
pub step_is : (t : Scene) (s : List ℕ) (at : ℕ) (r : Reply (Option Found)) → reply_of s r ≡ message_at t s at → (next : ℕ) → next ≡ place_after at r.answer
    → stepped (reply_of s r) next ≡ step_at t s at
step_is t s at r e next to =
    ap (stepped (reply_of s r)) (to ∙ placed-after s at r.answer) ∙ ap (λ (q : R). stepped q (moved_to at q.answer)) e

abbrev answer_of_lem : R → A
answer_of_lem r = r.answer

-- Each accepted message moves the walker on at least one byte, and not past the end.
pub moves_on : (t : Scene) (s : List ℕ) (at : ℕ) → Bytes s → (i : Item Message Message) → (step_at t s at).handed.answer ≡ result i
    → (at < (step_at t s at).at) × ((step_at t s at).at ≤ length s)
moves_on t s at bytes i e =
    let u = (message_at t s at).scene in
    let f = found-told messages t s at u GoodMessage message_lawful bytes i (ap (reply u) e) in
    let next : (step_at t s at).at ≡ i.next = ap (moved_to at) e in
    (omega (arith, next, f.on), omega (arith, next, f.within))

-- At the end and with a refusal it stays where it was.
pub stays-at_end : (t : Scene) (s : List ℕ) (at : ℕ) → (step_at t s at).handed.answer ≡ at_end → (step_at t s at).at ≡ at
stays-at_end t s at e = ap (moved_to at) e

pub stays-refused : (t : Scene) (s : List ℕ) (at n p : ℕ) → (step_at t s at).handed.answer ≡ refusal n p → (step_at t s at).at ≡ at
stays-refused t s at n p e = ap (moved_to at) e

-- ---- all messages of a block

-- A message in front of a reading: the walk goes on in the scene after it, with one message more.
counted : (given : Scene) (block : List ℕ) (s : Scene) (n : ℕ) (v : Message) (q : Result (List Message))
    → walk_from given block s n (map_result (λ vs. v ∷ vs) q) ≡ walk_from given block (apply s (fill s v)) (n + 1) q
unfolding fill_all apply_all
counted given block s n v (refused k left) = refl
counted given block s n v (found ms rest) =
    let e : n + length (v ∷ ms) ≡ n + 1 + length ms = omega arith in
    ap (λ (k : ℕ). walk (apply_all messages (apply s (fill s v)) (fill_all messages (apply s (fill s v)) ms)) k 0 (length block)) e

-- Behind n messages, at a place: what is left to read in this scene says what the walk from the scene given is.
pub record Going (given : Scene) (block : List ℕ) (s : Scene) (at n : ℕ) : Type 0 where
  pub range : in_range s ≡ in_range given
  pub within : at ≤ length block
  pub count : n ≤ at
  pub same : in_range given ≡ true → walk_all given block ≡ walk_from given block s n (read_all messages s (drop at block))

in_range_lem : (given : Scene) (block : List ℕ) (b : Bool) → in_range given ≡ b
    → walk_all given block ≡ cond (not b) (walk given 0 14 0) (walk_from given block given 0 (read_all messages given block))
unfolding walk_all
in_range_lem given block b e = ap (λ (x : Bool). cond (not x) (walk given 0 14 0) (walk_from given block given 0 (read_all messages given block))) e

pub goes : (given : Scene) (block : List ℕ) → Going given block given 0 0
goes given block = record { range = refl; within = omega arith; count = omega arith; same = λ e. in_range_lem given block true e }

module _ (given : Scene) (block : List ℕ) (bytes : Bytes block) (s : Scene) (at n : ℕ) (g : Going given block s at n) where
  pub goes_on : (u : Scene) (i : Item Message Message) → FoundItem messages GoodMessage s block at u i → Going given block u i.next (n + 1)
  goes_on u i f =
      let after : u ≡ apply s (fill s i.sent) = f.after ∙ ap (apply s) f.filled in
      let rest = read_all messages u (drop i.next block) in
      record {
        range = ap in_range after ∙ message_range s i.sent f.good f.range ∙ sym f.range ∙ g.range;
        within = f.within;
        count = omega (arith, g.count, f.on);
        same =
            λ e. g.same e ∙ ap (walk_from given block s n) (all_found messages s block at GoodMessage message_lawful bytes u i f)
            ∙ counted given block s n i.sent rest ∙ ap (λ (t : Scene). walk_from given block t (n + 1) rest) (sym after);
      }

  pub ends_well : (message_at s block at).answer ≡ at_end → walk s n 0 at ≡ walk_all given block
  unfolding fill_all apply_all
  ends_well = go (asked messages s block at)
    where
      go : {x : R} → Asked messages s block at x → x.answer ≡ at_end → walk s n 0 at ≡ walk_all given block
      go (asked_wrong p) q = clash (cc)
      go (asked_past h) q = clash (cc)
      go (asked_found p h e) q = clash (cc)
      go (asked_refused p h e) q = clash (cc)
      go (asked_end p h) q =
          let c : n ≡ n + 0 = omega arith in
          ap₂ (λ (k j : ℕ). walk s k 0 j) c h ∙ sym (g.same (sym g.range ∙ p) ∙ ap (walk_from given block s n) (all_end messages s block at h))

  pub ends-refused : (k p : ℕ) → (message_at s block at).answer ≡ refusal k p → walk given 0 k p ≡ walk_all given block
  ends-refused k p = go (asked messages s block at)
    where
      told : (j l : ℕ) → ◌≡◌ {A = A} (refusal j l) (refusal k p) → walk given 0 k p ≡ walk given 0 j l
      told j l x = let y : k ≡ j = cc in let z : p ≡ l = cc in ap₂ (λ (a b : ℕ). walk given 0 a b) y z

      go : {x : R} → Asked messages s block at x → x.answer ≡ refusal k p → walk given 0 k p ≡ walk_all given block
      go (asked_wrong r) q = told 14 0 q ∙ sym (in_range_lem given block false (sym g.range ∙ r))
      go (asked_past h) q = let z : ⊥ = omega (arith, h, g.within) in absurd z
      go (asked_end r h) q = clash (cc)
      go (asked_found r h e) q = clash (cc)
      go (asked_refused {n = j} {left} r h e) q =
          told j (place_in block left) q
          ∙ sym (g.same (sym g.range ∙ r)
          ∙ ap (walk_from given block s n) (all-refused messages s block at GoodMessage message_lawful bytes h j left e))

-- By what `read_message_at` answered behind n messages.
module _ (given : Held) (block : List ℕ) (bytes : Bytes block) (s : Held) (at n : ℕ) (g : Going (scene_of given) block (scene_of s) at n) (r : Reply (Option Found))
    (read : reply_of block r ≡ message_at (scene_of s) block at) where
  abbrev Ahead : ℕ → Type 0
  Ahead next = Going (scene_of given) block (scene_of r.scene) next (n + 1) × (at < next)

  pub found_ahead : (f : Found) → r.answer ≡ Ok (Some f) → Ahead f.next
  found_ahead f was =
      let i : Item Message Message = record { sent = values_of block f.message; filled = filled_by (values_to block f.next) f.filled; next = f.next } in
      let it = found-reply-at (scene_of s) block at bytes r f read was in
      (goes_on (scene_of given) block bytes (scene_of s) at n g (scene_of r.scene) i it, it.on)

  answered : (a : Rust.Result (Option Found) Refused) → r.answer ≡ a → (message_at (scene_of s) block at).answer ≡ answer_of block a
  answered a was = sym (ap answer_of_lem read) ∙ ap (answer_of block) was

  pub end-told : r.answer ≡ Ok None → walk (scene_of s) n 0 at ≡ walk_all (scene_of given) block
  end-told was = ends_well (scene_of given) block bytes (scene_of s) at n g (answered (Ok None) was)

  pub refusal-told : (q : Refused) → r.answer ≡ Err q → walk (scene_of given) 0 (number_of q.refusal) q.place ≡ walk_all (scene_of given) block
  refusal-told q was = ends-refused (scene_of given) block bytes (scene_of s) at n g (number_of q.refusal) q.place (answered (Err q) was)
