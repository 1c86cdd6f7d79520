-- The promises of lent lines fix every answer and every line: two answers that code can hold and that meet one promise are the same, and so
-- are the lines afterwards; with a refusal and at the end, scene and lines are the very ones given.
-- Assumes nothing.
use mathlib.Core.Path.{◌≡◌, refl, sym, ap, subst, ◌∙◌}
use mathlib.Core.List.{List, map}
use mathlib.Core.Bool.{Bool, true, false, cond, not}
use Prim.Native.Nat.{ℕ}
use lib.Dec.{eqb, ltb}
use lib.ListN.{length}
use Rattle.format.specs.Bytes.{Bytes}
use Rattle.dem.specs.Limits.{player_count}
use Rattle.dem.specs.Scene.{Scene as Described, PlayerLine as Line}
use Rattle.dem.specs.Message.{Message as Values}
use Rattle.dem.specs.Recording.{messages}
use Rattle.format.specs.Answer.{Answer, result, at_end, refusal, Item, Reply}
use Rattle.dem.specs.Answer.{message_at}
use Rattle.format.proofs.GivenLaws.{GivenBack, given_through, item_given}
use Rattle.wire.proofs.FieldLaws.{Held, Each}
use Rattle.dem_scene.specs.declared.PlayerLine.{PlayerLine}
use Rattle.dem_scene.specs.declared.Scene.{Scene}
use Rattle.dem_scene.specs.Views.{line_of, scene_of}
use Rattle.dem_scene.specs.contracts.PlayerLine as LineType
use Rattle.dem_scene.specs.contracts.Scene as SceneType
use Rattle.dem_scene.proofs.Back.{lines_fixed, scene_fixed}
use Rattle.dem_messages.specs.Replies.{reply_of}
use Rattle.dem_messages.specs.Replies.{answer_of as message_answer_of}
use denote.RattleType.{RattleType}
use Rattle.std.specs.Prelude.{Option, Result}
use Rattle.std.specs.contracts.option.Option as OptionType
use Rattle.format.specs.declared.refusal.Refused.{Refused}
use Rattle.dem_messages.specs.declared.Found.{Found}
use Rattle.dem_messages.specs.declared.Reply.{Reply as Answered}
use Rattle.dem_messages.specs.contracts.Found as FoundType
use Rattle.dem_messages.proofs.Answers.{answer_from, answer_back}
use Rattle.dem_messages.proofs.Determined.{answer_fixed, MessageRow, held_scene, held_answer}
use Rattle.dem_messages.proofs.FoundBack.{answer_determined}
use Rattle.dem_lines.specs.Lent.{Lent, lent, answer_of, changed_lines, player_of, change_lent, with_lines, message_lent}
use Rattle.dem_lines.specs.declared.LineChange.{LineChange}

abbrev R : RattleType
R = OptionType.the_row FoundType.the_row

-- Lines that code can hold.
abbrev AllHeld : List PlayerLine → Type 0
AllHeld = Each (Held LineType.the_row)

-- ---- one change

pub change_fixed : (a b : Result (Unit {0}) Refused) (xs ys : List PlayerLine) → AllHeld xs → AllHeld ys
    → lent (answer_of a) (map line_of xs) ≡ lent (answer_of b) (map line_of ys) → (a ≡ b) × (xs ≡ ys)
change_fixed a b xs ys h k e = (
  answer_fixed answer_of (answer_from (λ (u : Unit {0}). u)) (answer_back (λ (u : Unit {0}). u) (λ u. u) (λ u. refl)) a b (λ i. (e i).answer),
  lines_fixed xs ys h k (λ i. (e i).lines),
)

-- With a refusal every line is as it was.
change_given : (c : LineChange) (lines : List Line) → GivenBack lines (change_lent c lines).lines (change_lent c lines).answer
unfolding change_lent
change_given c lines = go (eqb (length lines) player_count) (ltb (player_of c) player_count)
  where
    chosen : Bool → Bool → Lent (Answer (Unit {0}))
    chosen all one =
        cond (not all) (lent (refusal 14 0) lines) (cond (not one) (lent (refusal 9 0) lines) (lent (result tt) (changed_lines c lines)))

    go : (all one : Bool) → GivenBack lines (chosen all one).lines (chosen all one).answer
    go false one = refl
    go true false = refl
    go true true = tt

pub lines_given : (c : LineChange) (a : Result (Unit {0}) Refused) (xs ys : List PlayerLine) → AllHeld xs → AllHeld ys
    → lent (answer_of a) (map line_of ys) ≡ change_lent c (map line_of xs) → GivenBack xs ys (answer_of a)
lines_given c a xs ys h k e =
    given_through (map line_of) xs ys (lines_fixed ys xs k h) (answer_of a)
    (subst (λ (r : Lent (Answer (Unit {0}))). GivenBack (map line_of xs) r.lines r.answer) (sym e) (change_given c (map line_of xs)))

-- ---- a message with the lines lent

abbrev Told : Type 0
Told = Lent (Reply Described (Item Values Values))

pub lent_determined : (t : Described) (lines : List Line) (s : List ℕ) (at : ℕ) → Bytes s → (r q : Answered (Option Found)) (xs ys : List PlayerLine)
    → Held MessageRow r → Held MessageRow q → AllHeld xs → AllHeld ys
    → lent (reply_of s r) (map line_of xs) ≡ message_lent t lines s at → lent (reply_of s q) (map line_of ys) ≡ message_lent t lines s at → (r ≡ q) × (xs ≡ ys)
lent_determined t lines s at bytes r q xs ys h k hs ks e f =
    let both = e ∙ sym f in
    let a = answer_determined (with_lines lines t) s at bytes r.answer q.answer (held_answer R r h) (held_answer R q k)
    (λ i. (e i).answer.answer) (λ i. (f i).answer.answer) in
    let u = scene_fixed r.scene q.scene (held_scene R r h) (held_scene R q k) (λ i. (both i).answer.scene) in
    ((λ i. record { answer = a i; scene = u i }), lines_fixed xs ys hs ks (λ i. (both i).lines))

-- With a refusal and at the end.
abbrev Given : Described → List Line → Told → Type 0
Given t lines d = GivenBack t d.answer.scene d.answer.answer × GivenBack lines d.lines d.answer.answer

message_given : (t : Described) (lines : List Line) (s : List ℕ) (at : ℕ) → Given t lines (message_lent t lines s at)
message_given t lines s at = let r = message_at (with_lines lines t) s at in go r.answer r.scene (item_given messages (with_lines lines t) s at)
  where
    go : (a : Answer (Item Values Values)) (u : Described) → GivenBack (with_lines lines t) u a
        → GivenBack t (with_lines t.players u) a × GivenBack lines u.players a
    go (result i) u g = (tt, tt)
    go at_end u g = (ap (with_lines t.players) g, ap (λ (x : Described). x.players) g)
    go (refusal n p) u g = (ap (with_lines t.players) g, ap (λ (x : Described). x.players) g)

pub lent_given : (scene : Scene) (s : List ℕ) (at : ℕ) (r : Answered (Option Found)) (xs ys : List PlayerLine) → Held SceneType.the_row scene
    → Held MessageRow r → AllHeld xs → AllHeld ys → lent (reply_of s r) (map line_of ys) ≡ message_lent (scene_of scene) (map line_of xs) s at
    → GivenBack scene r.scene (message_answer_of s r.answer) × GivenBack xs ys (message_answer_of s r.answer)
lent_given scene s at r xs ys h k hs ks e =
    let t = scene_of scene in
    let a = message_answer_of s r.answer in
    let g = subst (Given t (map line_of xs)) (sym e) (message_given t (map line_of xs) s at) in (
      given_through scene_of scene r.scene (scene_fixed r.scene scene (held_scene R r k) h) a g.0,
      given_through (map line_of) xs ys (lines_fixed ys xs ks hs) a g.1,
    )
