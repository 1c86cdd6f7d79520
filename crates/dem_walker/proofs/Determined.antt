-- The walker's promises fix every answer: a step's reply and place, and what is told of a walk over all messages; with a refusal the
-- scene handed back is the very scene given.
-- Assumes nothing.
use mathlib.Core.Path.{◌≡◌, refl, sym, ap, ◌∙◌}
use mathlib.Core.Logic.{◌≢◌}
use mathlib.Core.List.{List}
use mathlib.Core.Bool.{Bool, true, false, cond, not}
use Prim.Native.Nat.{ℕ}
use Rattle.format.specs.Bytes.{Bytes, Result, found, refused}
use Rattle.dem.specs.Scene.{Scene as Described, in_range}
use Rattle.dem.specs.Message.{Message}
use Rattle.format.specs.Codec.{read_all}
use Rattle.dem.specs.Recording.{messages}
use Rattle.wire.proofs.FieldLaws.{Held, Fixed}
use Rattle.dem_scene.specs.declared.Scene.{Scene}
use Rattle.dem_scene.specs.Views.{scene_of}
use Rattle.dem_scene.specs.contracts.Scene as SceneType
use Rattle.dem_scene.proofs.Back.{scene_fixed}
use Rattle.dem_messages.specs.Replies.{reply_of}
use Rattle.std.specs.Prelude as Rust
use Rattle.std.specs.Prelude.{Option, Ok, Err}
use Rattle.format.specs.Refusals.{number_of}
use Rattle.format.specs.declared.refusal.Refused.{Refused}
use Rattle.format.proofs.RefusalsBack.{refusal_from, refused_back, number_some}
use Rattle.dem_messages.specs.declared.Found.{Found}
use Rattle.dem_messages.specs.declared.Reply.{Reply}
use Rattle.dem_messages.proofs.Determined.{MessageRow, message_determined}
use Rattle.dem_walker.specs.declared.Walked.{Walked}
use Rattle.dem_walker.specs.Walks.{Stepped, stepped, step_at, walk, walk_from, walk_all, walked_in, walked_of}
use Rattle.dem_walker.specs.contracts.Walked as WalkedType

-- ---- one step

pub step_determined : (t : Described) (s : List ℕ) (at : ℕ) → Bytes s → (r q : Reply (Option Found)) (next next' : ℕ) → Held MessageRow r
    → Held MessageRow q → stepped (reply_of s r) next ≡ step_at t s at → stepped (reply_of s q) next' ≡ step_at t s at
    → (r ≡ q) × (next ≡ next')
step_determined t s at bytes r q next next' h k e f = (
  message_determined t s at bytes r q h k (λ i. (e i).handed) (λ i. (f i).handed),
  ap (λ (x : Stepped). x.at) (e ∙ sym f),
)

-- ---- all messages of a block

abbrev A : Type 0
A = Rust.Result ℕ Refused

-- The refusal's number, and its place or that behind the block, tell the answer.
answer_fixed : (s t : Described) (n m : ℕ) (a b : A) → walked_in s n a ≡ walked_in t m b → a ≡ b
answer_fixed s t n m (Ok p) (Ok q) e = λ i. Ok ((e i).place)
answer_fixed s t n m (Ok p) (Err q) e = absurd (number_some q.refusal (sym (λ i. (e i).refusal)))
answer_fixed s t n m (Err r) (Ok q) e = absurd (number_some r.refusal (λ i. (e i).refusal))
answer_fixed s t n m (Err r) (Err q) e =
    sym (ap Err (refused_back r)) ∙ (λ i. Err (record { refusal = refusal_from ((e i).refusal); place = (e i).place })) ∙ ap Err (refused_back q)

scene-seen : (s : Described) (n : ℕ) (a : A) → (walked_in s n a).scene ≡ s
scene-seen s n (Ok p) = refl
scene-seen s n (Err r) = refl

messages-seen : (s : Described) (n : ℕ) (a : A) → (walked_in s n a).messages ≡ n
messages-seen s n (Ok p) = refl
messages-seen s n (Err r) = refl

held_scene : (r : Walked) → Held WalkedType.the_row r → Held SceneType.the_row r.scene
held_scene r h = (_, h.1.1.1.0)

pub walked_fixed : Fixed WalkedType.the_row walked_of
walked_fixed r q h k e =
    let answer = answer_fixed (scene_of r.scene) (scene_of q.scene) r.messages q.messages r.answer q.answer e in
    let messages : r.messages ≡ q.messages =
    sym (messages-seen (scene_of r.scene) r.messages r.answer) ∙ (λ i. (e i).messages) ∙ messages-seen (scene_of q.scene) q.messages q.answer in
    let scene = scene_fixed r.scene q.scene (held_scene r h) (held_scene q k)
    (sym (scene-seen (scene_of r.scene) r.messages r.answer) ∙ (λ i. (e i).scene) ∙ scene-seen (scene_of q.scene) q.messages q.answer) in
    λ i. record { scene = scene i; messages = messages i; answer = answer i }

-- With a refusal the walk hands back the scene given.
walk_given : (s : Described) (block : List ℕ) → (walk_all s block).refusal ≢ 0 → (walk_all s block).scene ≡ s
unfolding walk_all
walk_given s block = go (in_range s) (read_all messages s block)
  where
    go : (b : Bool) (q : Result (List Message)) → (cond (not b) (walk s 0 14 0) (walk_from s block s 0 q)).refusal ≢ 0
        → (cond (not b) (walk s 0 14 0) (walk_from s block s 0 q)).scene ≡ s
    go false q some = refl
    go true (found ms rest) some = absurd (some refl)
    go true (refused n left) some = refl

pub walked_given : (scene : Scene) (r : Walked) (block : List ℕ) (q : Refused) → Held SceneType.the_row scene → Held WalkedType.the_row r
    → walked_of r ≡ walk_all (scene_of scene) block → r.answer ≡ Err q → r.scene ≡ scene
walked_given scene r block q h k e was =
    let wrong : (walk_all (scene_of scene) block).refusal ≡ number_of q.refusal =
    (λ i. (sym e i).refusal) ∙ ap (λ (a : A). (walked_in (scene_of r.scene) r.messages a).refusal) was in
    scene_fixed r.scene scene (held_scene r k) h
    (sym (scene-seen (scene_of r.scene) r.messages r.answer) ∙ (λ i. (e i).scene)
    ∙ walk_given (scene_of scene) block (λ z. number_some q.refusal (sym wrong ∙ z)))
