-- Lent lines beside lines by value: what a change of lent lines answers, way by way, and that a message with the lines lent is the message in the scene that has them.
-- Assumes nothing.
use mathlib.Core.Path.{◌≡◌, refl, sym, ap, ◌∙◌}
use mathlib.Core.List.{List, [], ◌∷◌}
use mathlib.Core.Bool.{Bool, true, false, cond, not, ◌&&◌}
use Prim.Native.Nat.{ℕ, ◌<◌}
use native.Mathlib.Omega.{arith}
use borrow.Author.Tests.{eq-eqb, eqb-true, eqb-false, ltb-false}
use lib.Dec.{eqb, leb, ltb}
use lib.IntN.{ℤ}
use lib.ListN.{length, set, get_or, drop}
use lib.Seq.{set_out, get_or-set_same, get_or-set_other}
use mir.Syntax.{w16}
use mir.Val.{of_z}
use Rattle.dem.specs.Limits.{entity_count, player_count, static_limit}
use Rattle.dem.specs.Kind
use Rattle.format.specs.Bytes.{Result, found, refused}
use Rattle.format.specs.Layout.{Value, number, numbers, first_number, tail}
use Rattle.format.specs.Floats.{time_in_range}
use Rattle.dem.specs.Scene.{PlayerLine, Scene, zero_line, at, cleared, count_marks, in_range}
use Rattle.dem.specs.Message.{Message, fill, changed, apply}
use Rattle.format.specs.Answer.{place_in, Answer, result, at_end, refusal, Item, Reply, reply, item_of, item_at}
use Rattle.dem.specs.Recording.{read_message, messages}
use Rattle.dem.specs.Answer.{message_at}
use Rattle.format.proofs.ResultLaws.{clash}
use Rattle.dem.proofs.RangeLaws.{range→}
use Rattle.format.proofs.ListLaws.{SetAt}
use Rattle.format.proofs.AnswerLaws.{item_wrong}
use Rattle.dem_types.specs.declared.Player.{Player}
use Rattle.dem_lines.specs.declared.LineChange.{LineChange}
use Rattle.dem_lines.specs.declared.LineChange.TheVariants as C
use Rattle.dem_lines.specs.Lent.{Lent, lent, changed_lines, player_of, change_lent, with_lines, message_lent}

-- ---- one change

module _ (c : LineChange) (lines : List PlayerLine) where
  pub not_sixteen : eqb (length lines) 16 ≡ false → change_lent c lines ≡ lent (refusal 14 0) lines
  unfolding change_lent
  not_sixteen e = rw e

  pub no_line : eqb (length lines) 16 ≡ true → ltb (player_of c) 16 ≡ false → change_lent c lines ≡ lent (refusal 9 0) lines
  unfolding change_lent
  no_line e f = rw (e, f)

  pub changes : eqb (length lines) 16 ≡ true → ltb (player_of c) 16 ≡ true → change_lent c lines ≡ lent (result tt) (changed_lines c lines)
  unfolding change_lent
  changes e f = rw (e, f)

-- A player that has no line changes none.
past-lines : (c : LineChange) (lines : List PlayerLine) → length lines ≡ 16 → ltb (player_of c) 16 ≡ false → lines ≡ changed_lines c lines
past-lines C.Nothing lines e f = refl
past-lines (C.Frags p v) lines e f = sym (set_out lines p.0 _ (omega (arith, e, ltb-false p.0 16 f)))
past-lines (C.Colours p v) lines e f = sym (set_out lines p.0 _ (omega (arith, e, ltb-false p.0 16 f)))
past-lines C.Clear lines e f = clash (cc)

pub lines-changed : (c : LineChange) (lines : List PlayerLine) → length lines ≡ 16 → (change_lent c lines).lines ≡ changed_lines c lines
lines-changed c lines e = go (ltb (player_of c) 16) refl
  where
    sixteen : eqb (length lines) 16 ≡ true
    sixteen = eq-eqb (length lines) 16 e

    go : (b : Bool) → ltb (player_of c) 16 ≡ b → (change_lent c lines).lines ≡ changed_lines c lines
    go true f = ap (λ (l : Lent (Answer (Unit {0}))). l.lines) (changes c lines sixteen f)
    go false f = ap (λ (l : Lent (Answer (Unit {0}))). l.lines) (no_line c lines sixteen f) ∙ past-lines c lines e f

-- A refusal leaves every line as it was.
pub refusal_keeps : (c : LineChange) (lines : List PlayerLine) (n p : ℕ) → (change_lent c lines).answer ≡ refusal n p → (change_lent c lines).lines ≡ lines
refusal_keeps c lines n p e = go (eqb (length lines) 16) refl (ltb (player_of c) 16) refl
  where
    go : (a : Bool) → eqb (length lines) 16 ≡ a → (b : Bool) → ltb (player_of c) 16 ≡ b → (change_lent c lines).lines ≡ lines
    go false f b g = ap (λ (l : Lent (Answer (Unit {0}))). l.lines) (not_sixteen c lines f)
    go true f false g = ap (λ (l : Lent (Answer (Unit {0}))). l.lines) (no_line c lines f g)
    go true f true g =
        let x : ◌≡◌ {A = Answer (Unit {0})} (result tt) (refusal n p) = sym (ap (λ (l : Lent (Answer (Unit {0}))). l.answer) (changes c lines f g)) ∙ e in clash (cc)

-- Frags and colours set one field of one line: the other field, and the other lines, stay.
module _ (lines : List PlayerLine) (e : length lines ≡ 16) (p : Player) (h : p.0 < 16) where
  set-lent : (c : LineChange) (l : PlayerLine) → changed_lines c lines ≡ set lines p.0 l → SetAt lines (change_lent c lines).lines p.0 l zero_line
  set-lent c l f =
      let g = lines-changed c lines e ∙ f in
      record {
        here = ap (λ (k : List PlayerLine). get_or k p.0 zero_line) g ∙ get_or-set_same lines p.0 l zero_line (omega (arith, e, h));
        others = λ j d. ap (λ (k : List PlayerLine). get_or k j zero_line) g ∙ get_or-set_other lines p.0 j l zero_line d;
      }

  pub frags-lent : (v : ℤ) → SetAt lines (change_lent (C.Frags p v) lines).lines p.0 (record { frags = of_z w16 v; colours = (get_or lines p.0 zero_line).colours }) zero_line
  frags-lent v = set-lent (C.Frags p v) _ refl

  pub colours-lent : (v : ℕ) → SetAt lines (change_lent (C.Colours p v) lines).lines p.0 (record { frags = (get_or lines p.0 zero_line).frags; colours = v }) zero_line
  colours-lent v = set-lent (C.Colours p v) _ refl

-- What a change does to the lines that are lent, the message by value does to the scene that has them.
pub frags_by_value : (s : Scene) (lines : List PlayerLine) (p : Player) (v : ℤ)
    → changed_lines (C.Frags p v) lines ≡ (apply (with_lines lines s) (number Kind.frags ∷ number p.0 ∷ number (of_z w16 v) ∷ [])).players
unfolding apply
frags_by_value s lines p v = refl

pub colours_by_value : (s : Scene) (lines : List PlayerLine) (p : Player) (v : ℕ)
    → changed_lines (C.Colours p v) lines ≡ (apply (with_lines lines s) (number Kind.colours ∷ number p.0 ∷ number v ∷ [])).players
unfolding apply
colours_by_value s lines p v = refl

pub clear_by_value : (s : Scene) (lines : List PlayerLine) (us : List Value) → changed_lines C.Clear lines ≡ (apply (with_lines lines s) (number Kind.serverinfo ∷ us)).players
unfolding apply
clear_by_value s lines us = refl

-- ---- a message with the lines lent

abbrev R : Type 0
R = Reply Scene (Item Message Message)

module _ (s : Scene) (lines : List PlayerLine) where
  -- The scene that has them.
  abbrev s' : Scene
  s' = with_lines lines s

  -- Lines that are not sixteen are out of range.
  pub out_of_range : (length lines ≡ 16 → ⊥) → in_range s' ≡ false
  out_of_range n = go (in_range s') refl
    where
      go : (b : Bool) → in_range s' ≡ b → in_range s' ≡ false
      go true e = absurd (n (range→ s' e).players)
      go false e = e

  same_range : length s.players ≡ 16 → length lines ≡ 16 → in_range s' ≡ in_range s
  unfolding in_range
  same_range p l =
      ap (λ (n : ℕ). ltb s.view entity_count && leb s.statics static_limit && leb s.limit player_count && time_in_range s.time && eqb n player_count
      && eqb s.present_count (count_marks s.present))
      (l ∙ sym p)

  -- No message is read or filled in by the lines.
  same_read : (bs : List ℕ) → read_message s' bs ≡ read_message s bs
  unfolding read_message
  same_read bs = refl

  pub same-fill : (m : Message) → fill s' m ≡ fill s m
  unfolding fill
  same-fill m = refl

  -- A message does the same to all but the lines.
  same_rest : (m : Message) → apply s' m ≡ with_lines (apply s' m).players (apply s m)
  unfolding apply
  same_rest m = go (eqb n Kind.serverinfo)
    where
      n : ℕ
      n = first_number m

      v : List ℕ
      v = numbers (tail m)

      go : (b : Bool) → cond b (cleared (at v 1)) (changed s' n v) ≡ with_lines (cond b (cleared (at v 1)) (changed s' n v)).players (cond b (cleared (at v 1)) (changed s n v))
      go true = refl
      go false = refl

  -- The lent lines after an answer.
  abbrev pub left_by : Answer (Item Message Message) → List PlayerLine
  left_by (result i) = (apply s' i.filled).players
  left_by at_end = lines
  left_by (refusal n p) = lines

  -- What is answered by value, as it is answered in the scene that has the lent lines.
  abbrev over : R → R
  over r = reply (with_lines (left_by r.answer) r.scene) r.answer

  module _ (input : List ℕ) (place : ℕ) where
    item_over : (q : Result Message) → item_of messages s' input q ≡ over (item_of messages s input q)
    item_over (found v rest) =
        ap (λ (m : Message). reply (apply s' m) (result (record { sent = v; filled = m; next = place_in input rest }))) (same-fill v)
        ∙ ap (λ (t : Scene). reply t (result (record { sent = v; filled = fill s v; next = place_in input rest }))) (same_rest (fill s v))
    item_over (refused n left) = refl

    abbrev chosen : Scene → R → Bool → Bool → Bool → R
    chosen t item wrong past ended = cond wrong (reply t (refusal 14 0)) (cond past (reply t (refusal 5 place)) (cond ended (reply t at_end) item))

    chosen_over : (wrong past ended : Bool) → chosen s' (item_of messages s' input (read_message s (drop place input))) wrong past ended ≡ over (chosen s (item_of messages s input (read_message s (drop place input))) wrong past ended)
    chosen_over true past ended = refl
    chosen_over false true ended = refl
    chosen_over false false true = refl
    chosen_over false false false = item_over (read_message s (drop place input))

    message_over : length s.players ≡ 16 → length lines ≡ 16 → message_at s' input place ≡ over (message_at s input place)
    unfolding item_at read_message
    message_over p l =
        let past = ltb (length input) place in
        let ended = eqb place (length input) in
        ap (λ (b : Bool). chosen s' (item_of messages s' input (read_message s (drop place input))) (not b) past ended) (same_range p l)
        ∙ chosen_over (not (in_range s)) past ended

    -- Sixteen lines that are lent: what the scene by value answers is answered, all but the lines is its scene after, and the lines are what the message makes of them.
    pub message-lent : length s.players ≡ 16 → length lines ≡ 16 →
        message_lent s lines input place ≡ lent (reply (with_lines s.players (message_at s input place).scene) (message_at s input place).answer) (left_by (message_at s input place).answer)
    message-lent p l = ap (λ (r : R). lent (reply (with_lines s.players r.scene) r.answer) r.scene.players) (message_over p l)

    -- Other lines are 14 at 0, and stay.
    pub message-refused : (length lines ≡ 16 → ⊥) → message_lent s lines input place ≡ lent (reply s (refusal 14 0)) lines
    message-refused n = ap (λ (r : R). lent (reply (with_lines s.players r.scene) r.answer) r.scene.players) (item_wrong messages s' input place (out_of_range n))

    -- A refusal leaves every line as it was.
    pub message_keeps : length s.players ≡ 16 → (n p : ℕ) → (message_lent s lines input place).answer.answer ≡ refusal n p → (message_lent s lines input place).lines ≡ lines
    message_keeps own n p e = go (eqb (length lines) 16) refl
      where
        go : (b : Bool) → eqb (length lines) 16 ≡ b → (message_lent s lines input place).lines ≡ lines
        go true f =
            let m = message-lent own (eqb-true (length lines) 16 f) in
            ap (λ (l : Lent R). l.lines) m ∙ ap left_by (sym (ap (λ (l : Lent R). l.answer.answer) m) ∙ e)
        go false f = ap (λ (l : Lent R). l.lines) (message-refused (eqb-false (length lines) 16 f))
