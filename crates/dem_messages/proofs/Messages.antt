-- A message at a place, by the ways in which its reader answers; and one that was found.
-- Assumes nothing.
use mathlib.Core.Path.{◌≡◌, refl, sym, ap, ap₂, ◌∙◌, subst}
use mathlib.Core.List.{List, [], ◌∷◌}
use mathlib.Core.Bool.{Bool, true, false, not}
use Prim.Native.Nat.{ℕ, ◌<◌}
use native.Mathlib.Omega.{arith}
use lib.ListN.{length, drop, length-drop}
use Rattle.std.specs.Prelude.{min}
use Rattle.std.specs.Prelude as Rust
use Rattle.std.specs.Prelude.{Option, None, Some, Ok, Err}
use Rattle.format.specs.declared.refusal.Refused.{Refused}
use Rattle.format.specs.Refusals.{number_of}
use Rattle.format.specs.Refusal.{code, after_disconnect}
use Rattle.format.specs.Bytes.{Bytes, Result, found, refused, unless, require, refused_but, read_number}
use Rattle.format.specs.Layout.{number, parse, put}
use Rattle.dem.specs.Scene.{Scene, Context, context_of, in_range}
use Rattle.dem.specs.Message.{Message, number_rule, kind_layout, layout, layout_in}
use Rattle.dem.specs.WellFormed.{GoodMessage}
use Rattle.format.specs.Answer.{place_in, Answer, result, refusal, reply, guarded, item_of, item_at}
use Rattle.dem.specs.Recording.{keeps_place, read_message, messages}
use Rattle.dem.specs.Answer.{message_at}
use Rattle.dem.proofs.BlockLaws.{message_lawful}
use Rattle.format.proofs.ResultLaws.{clash, bind-found, map_found, but-found, require-found}
use Rattle.format.proofs.AnswerLaws.{item-at, place_drop}
use Rattle.format.proofs.CallLaws.{FoundItem, found-told}
use Rattle.dem_types.specs.declared.Message.{Message as Sent}
use Rattle.dem_types.specs.Values.{values_of}
use Rattle.dem_types.specs.Places.{values_to}
use Rattle.dem_types.proofs.InPlace.{some_values}
use Rattle.dem_parts.specs.Kinds.{message_of}
use Rattle.dem_scene.specs.Views.{scene_of, filled_by}
use Rattle.dem_messages.specs.Replies.{answer_of, reply_of}
use Rattle.dem_messages.specs.Steps.{read_step}
use Rattle.dem_messages.proofs.Asked.{asked-refused}
use Rattle.dem_messages.specs.declared.Found.{Found}
use Rattle.dem_messages.specs.declared.Reply.{Reply}

-- ---- what is read

-- A message that was read has values.
parse-some : (x : Context) (bs rest : List ℕ) → parse (layout x) bs ≡ found [] rest → ⊥
unfolding layout parse
parse-some x bs rest p =
    let f = bind-found (read_number 1 (number_rule x) bs) (λ v rest. put (number v) (parse (kind_layout x v) rest)) [] rest p in
    let g = map_found (λ vs. number f.value ∷ vs) (parse (kind_layout x f.value) f.between) [] rest f.later in
    let z : number f.value ∷ g.0 ≡ [] = g.2 in
    clash (cc)

pub message-some : (t : Scene) (bs rest : List ℕ) → read_message t bs ≡ found [] rest → ⊥
unfolding read_message
message-some t bs rest e =
    let a = require-found (unless (not t.ended) after_disconnect) bs (refused_but keeps_place bs (parse (layout_in t) bs)) [] rest e in
    parse-some (context_of t) bs rest (but-found keeps_place bs (parse (layout_in t) bs) [] rest a.1)

-- What the layout reads to, by whether the scene is ended.
read-by : (t : Scene) (bs : List ℕ) (b : Bool) (q : Result Message) → t.ended ≡ b → parse (layout_in t) bs ≡ q
    → read_message t bs ≡ require (unless (not b) after_disconnect) bs (refused_but keeps_place bs q)
unfolding read_message
read-by t bs b q e p = ap₂ (λ (x : Bool) (y : Result Message). require (unless (not x) after_disconnect) bs (refused_but keeps_place bs y)) e p

-- ---- what is answered

-- What is refused before a message is asked for.
pub asked_message : (t : Scene) (s : List ℕ) (at : ℕ) (r : Refused) → ◌≡◌ {A = Answer (Unit {0})} (refusal (number_of r.refusal) r.place) (guarded (in_range t) s at refusal (result tt))
    → read_step t s (Err r) ≡ message_at t s at
unfolding item_at
asked_message t s at r e = asked-refused (in_range t) s at (λ n p. reply t (refusal n p)) _ (number_of r.refusal) r.place e

module _ (t : Scene) (s : List ℕ) (at : ℕ) (r : in_range t ≡ true) (h : at < length s) where
  replied : (q : Result Message) → read_message t (drop at s) ≡ q → message_at t s at ≡ item_of messages t s q
  replied q e = item-at messages t s at r h ∙ ap (item_of messages t s) e

  refused-at : (n : ℕ) → read_message t (drop at s) ≡ refused n (drop at s) → message_at t s at ≡ reply t (refusal n at)
  refused-at n e = replied (refused n (drop at s)) e ∙ ap (λ (p : ℕ). reply t (refusal n p)) (place_drop s at (omega arith))

  pub ended-reply : t.ended ≡ true → message_at t s at ≡ reply t (refusal (code after_disconnect) at)
  ended-reply e = refused-at (code after_disconnect) (read-by t (drop at s) true _ e refl)

  module _ (going : t.ended ≡ false) where
    pub refused-reply : (q : Refused) → message_of s (Err q) ≡ parse (layout_in t) (drop at s) → message_at t s at ≡ reply t (refusal (number_of q.refusal) at)
    refused-reply q e = refused-at (number_of q.refusal) (read-by t (drop at s) false _ going (sym e))

    pub found-reply : (m : Sent) (next k : ℕ) → k ≡ min next (length s) → message_of s (Ok (m, next)) ≡ parse (layout_in t) (drop at s)
        → message_at t s at ≡ read_step t s (Ok (Some (m, k)))
    found-reply m next k e q =
        let same : place_in s (drop next s) ≡ k = omega (arith, e, length-drop next s) in
        replied _ (read-by t (drop at s) false _ going (sym q))
        ∙ ap (λ (j : ℕ). read_step t s (Ok (Some (m, j)))) same

-- ---- a message that was found

-- Its strings are in place, so it has the values that it has anywhere.
module _ (t : Scene) (s : List ℕ) (at : ℕ) (bytes : Bytes s) (u : Scene) (m : Sent) (fs : Message) (next : ℕ)
    (told : message_at t s at ≡ reply u (result (record { sent = values_to s next m; filled = fs; next = next }))) where
  first : FoundItem messages GoodMessage t s at u (record { sent = values_to s next m; filled = fs; next = next })
  first = found-told messages t s at u GoodMessage message_lawful bytes (record { sent = values_to s next m; filled = fs; next = next }) told

  pub found-values : values_to s next m ≡ values_of s m
  found-values =
      some_values s next m (λ n. message-some t (drop at s) (drop next s) (first.read ∙ ap (λ (vs : Message). found vs (drop next s)) n))

  pub found-item : FoundItem messages GoodMessage t s at u (record { sent = values_of s m; filled = fs; next = next })
  found-item = subst (λ (vs : Message). FoundItem messages GoodMessage t s at u (record { sent = vs; filled = fs; next = next })) found-values first

-- By what `read_message_at` answered.
pub found-reply-at : (t : Scene) (s : List ℕ) (at : ℕ) → Bytes s → (r : Reply (Option Found)) (f : Found)
    → reply_of s r ≡ message_at t s at → r.answer ≡ Ok (Some f)
    → FoundItem messages GoodMessage t s at (scene_of r.scene)
    (record { sent = values_of s f.message; filled = filled_by (values_to s f.next) f.filled; next = f.next })
found-reply-at t s at bytes r f read was =
    found-item t s at bytes (scene_of r.scene) f.message (filled_by (values_to s f.next) f.filled) f.next
    (sym read ∙ ap (λ (a : Rust.Result (Option Found) Refused). reply (scene_of r.scene) (answer_of s a)) was)
