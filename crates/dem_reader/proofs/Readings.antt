-- What a reader's answer says of a message's reading in a scene.
-- Assumes nothing.
use mathlib.Core.Path.{◌≡◌, sym, ap, ap₂, ◌∙◌, subst}
use mathlib.Core.Logic.{◌≢◌}
use mathlib.Core.List.{List, [], ◌∷◌}
use mathlib.Core.Bool.{Bool, true, false, not}
use Prim.Native.Nat.{ℕ, ◌+◌, ◌<◌}
use native.Mathlib.Omega.{arith}
use borrow.Author.Tests.{le-leb}
use lib.Dec.{leb}
use lib.ListN.{length, take, drop, get_or}
use Rattle.dem.specs.Kind
use Rattle.format.specs.Refusal.{cut_message, after_disconnect}
use Rattle.format.specs.Bytes.{Bytes, Result, found, refused, refused_at, unless, require, le_read, read_number}
use Rattle.format.specs.Layout.{Value, number, Layout, parse, put}
use Rattle.format.specs.Answer.{place_in}
use Rattle.dem.specs.Scene.{Scene, Context, context_of}
use Rattle.dem.specs.Message.{Message, is_update, is_message, number_rule, kind_layout, layout, layout_in}
use Rattle.dem.specs.Recording.{read_message}
use Rattle.format.proofs.ResultLaws.{clash, bind-found, map_found, at-found, require-found}
use Rattle.format.proofs.AtLaws.{one_at, parse-good}
use Rattle.format.proofs.ByteLaws.{drop-bytes}
use Rattle.format.proofs.LayoutLaws.{Allowed, parse-sound}
use Rattle.dem_types.specs.declared.Message.{Message as Sent}
use Rattle.dem_types.specs.declared.Message.TheVariants as M
use Rattle.dem_types.specs.declared.Update.{Update}
use Rattle.dem_types.specs.Values.{values_of}
use Rattle.dem_types.specs.Places.{in_place, values_to}
use Rattle.dem_types.proofs.InPlace.{in_place_lem, placed_values}
use Rattle.dem_parts.specs.Kinds.{kind_in}
use Rattle.dem_reader.proofs.Numbers.{rule-good}
use Rattle.dem.proofs.ShapeLaws.{update_numbered}

-- What was read is allowed.
pub read-allowed : (s : List ℕ) (at : ℕ) (l : Layout) (vs : List Value) (rest : List ℕ) → found vs rest ≡ parse l (drop at s) → Bytes s
    → Allowed l vs
read-allowed s at l vs rest q h = (parse-sound l (drop at s) vs rest (drop-bytes at s h) (sym q)).fits

-- A message that was read has values.
pub parse-some : (x : Context) (bs rest : List ℕ) → parse (layout x) bs ≡ found [] rest → ⊥
unfolding layout parse
parse-some x bs rest p =
    let f = bind-found (read_number 1 (number_rule x) bs) (λ v rest. put (number v) (parse (kind_layout x v) rest)) [] rest p in
    let g = map_found (λ vs. number f.value ∷ vs) (parse (kind_layout x f.value) f.between) [] rest f.later in
    let z : number f.value ∷ g.0 ≡ [] = g.2 in
    clash (cc)

-- So its strings are in place, and it has the values that it has anywhere.
module _ (s : List ℕ) (at : ℕ) (x : Context) (m : Sent) (next : ℕ)
    (q : found (values_to s (place_in s (drop next s)) m) (drop next s) ≡ parse (layout x) (drop at s)) where
  end : ℕ
  end = place_in s (drop next s)

  pub read_in-place : in_place (place_in s (drop next s)) m ≡ true
  unfolding end
  read_in-place =
      in_place_lem s end m
      (λ n. parse-some x (drop at s) (drop next s) (sym q ∙ ap (λ (vs : List Value). found vs (drop next s)) n))

  pub read_values : found (values_of s m) (drop next s) ≡ parse (layout x) (drop at s)
  unfolding end
  read_values = ap (λ (vs : List Value). found vs (drop next s)) (sym (placed_values s end m read_in-place)) ∙ q

-- The first number that was read is the one that stands there.
pub read_number_lem : (s : List ℕ) (at n : ℕ) (x : Context) (us : List Value) (rest : List ℕ) → at < length s
    → found (number n ∷ us) rest ≡ parse (layout x) (drop at s) → n ≡ get_or s at 0
unfolding layout parse read_number
read_number_lem s at n x us rest h q =
    let bs : List ℕ = drop at s in
    let v : ℕ = le_read (take 1 bs) in
    let f = bind-found (read_number 1 (number_rule x) bs) (λ v rest. put (number v) (parse (kind_layout x v) rest)) (number n ∷ us) rest
    (sym q) in
    let g = map_found (λ vs. number f.value ∷ vs) (parse (kind_layout x f.value) f.between) (number n ∷ us) rest f.later in
    let a = require-found (unless (leb 1 (length bs)) cut_message) bs (require (number_rule x v) bs (found v (drop 1 bs))) f.value f.between
    f.first in
    let b = require-found (number_rule x v) bs (found v (drop 1 bs)) f.value f.between a.1 in
    let z : found v (drop 1 bs) ≡ found f.value f.between = b.1 in
    let y : number f.value ∷ g.0 ≡ number n ∷ us = g.2 in
    let w : f.value ≡ n = cc in
    let k : v ≡ f.value = cc in
    sym w ∙ sym k ∙ one_at at s h

-- An update that was read has an update's number.
pub read_numbered : (s : List ℕ) (at : ℕ) (x : Context) (m : Sent) (rest : List ℕ) → Bytes s
    → found (values_of s m) rest ≡ parse (layout x) (drop at s) → (u : Update) → m ≡ M.Update u → is_update u.number ≡ true
read_numbered s at x m rest h q u f =
    le-leb 128 u.number (update_numbered x _ _ _ _ _ _ _ _ _ _ _ _ _ u.number
    (subst (λ (k : Sent). Allowed (layout x) (values_of s k)) f (read-allowed s at (layout x) (values_of s m) rest q h)))

-- A message of kind n, of which the number stands here.
pub kind-read : (s : List ℕ) (at n : ℕ) (x : Context) (r : Result (List Value)) → at < length s → n ≡ get_or s at 0 → is_message n ≡ true
    → n ≢ Kind.static → r ≡ kind_in x n (drop (at + 1) s) → r ≡ parse (layout x) (drop at s)
unfolding kind_in layout
kind-read s at n x r h e m k q =
    q ∙ sym (parse-good 1 (number_rule x) (kind_layout x) at s n (omega arith) (one_at at s h ∙ sym e) (rule-good x n m k))

-- ---- in a scene

pub message-some : (t : Scene) (bs rest : List ℕ) → read_message t bs ≡ found [] rest → ⊥
unfolding read_message
message-some t bs rest e =
    let a = require-found (unless (not t.ended) after_disconnect) bs (refused_at bs (parse (layout_in t) bs)) [] rest e in
    parse-some (context_of t) bs rest (at-found bs (parse (layout_in t) bs) [] rest a.1)

module _ (t : Scene) (s : List ℕ) (at : ℕ) where
  pub message-ended : t.ended ≡ true → read_message t (drop at s) ≡ refused 11 (drop at s)
  unfolding read_message
  message-ended e =
      ap (λ (b : Bool). require (unless (not b) after_disconnect) (drop at s) (refused_at (drop at s) (parse (layout_in t) (drop at s)))) e

  -- What the layout reads to, where the scene is not ended.
  message_going : t.ended ≡ false → (r : Result Message) → r ≡ parse (layout_in t) (drop at s)
      → read_message t (drop at s) ≡ refused_at (drop at s) r
  unfolding read_message
  message_going going r q =
      ap₂ (λ (b : Bool) (z : Result Message). require (unless (not b) after_disconnect) (drop at s) (refused_at (drop at s) z)) going
      (sym q)

  pub message-found : t.ended ≡ false → (vs : List Value) (rest : List ℕ) → found vs rest ≡ parse (layout_in t) (drop at s)
      → read_message t (drop at s) ≡ found vs rest
  message-found going vs rest q = message_going going (found vs rest) q

  pub message-refused : t.ended ≡ false → (n : ℕ) (left : List ℕ) → refused n left ≡ parse (layout_in t) (drop at s)
      → read_message t (drop at s) ≡ refused n (drop at s)
  message-refused going n left q = message_going going (refused n left) q

  pub message_parsed : t.ended ≡ false → (vs : List Value) (rest : List ℕ) → parse (layout_in t) (drop at s) ≡ found vs rest
      → read_message t (drop at s) ≡ found vs rest
  message_parsed going vs rest q = message-found going vs rest (sym q)
