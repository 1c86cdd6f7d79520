-- What a message brings to the lines: frags, colours and serverinfo a change, every other message none; and what is told of a message with the lines lent.
-- Assumes nothing.
use mathlib.Core.Path.{◌≡◌, refl, sym, ap, ap₂, ◌∙◌}
use mathlib.Core.Logic.{◌⊎◌, inl, inr}
use mathlib.Core.Bool.{◌||◌}
use mathlib.Core.List.{List, [], ◌∷◌}
use Prim.Native.Nat.{ℕ}
use borrow.Author.Tests.{ne_eqb}
use types.Run.{OneOf}
use lib.ListN.{length}
use Rattle.format.specs.Bytes.{Bytes}
use Rattle.format.specs.Layout.{Value, tail}
use Rattle.dem.specs.Scene.{PlayerLine, Scene, context_of}
use Rattle.dem.specs.Message.{Message as Values, apply, fill}
use Rattle.format.specs.Answer.{Answer, refusal, Item, Reply, reply}
use Rattle.dem.specs.Recording.{messages}
use Rattle.dem.specs.WellFormed.{GoodMessage}
use Rattle.dem.specs.Answer.{message_at}
use Rattle.format.proofs.CallLaws.{FoundItem}
use Rattle.dem.proofs.MessageLaws.{fill-update}
use Rattle.dem.proofs.SceneLaws.{players, filled_frame}
use Rattle.wire.specs.Reads.{placed}
use Rattle.wire.specs.declared.Text.{Text}
use Rattle.dem_types.proofs.ByNumber.{place_of, ByNumber, told, not_among}
use Rattle.dem_types.specs.declared.Update.{Update}
use Rattle.dem_types.specs.declared.Message.{Message}
use Rattle.dem_types.specs.declared.Message.TheVariants as M
use Rattle.dem_types.specs.Places.{values_to}
use Rattle.dem_types.specs.Values.{values_by, values_of, update_values}
use Rattle.dem_scene.specs.Views.{Numbered, scene_of, filled_by}
use Rattle.dem_scene.specs.declared.Scene.{Scene as Held}
use Rattle.dem_messages.specs.Replies.{answer_of, reply_of}
use Rattle.std.specs.Prelude.{Option, None, Some, Result, Ok, Err}
use Rattle.format.specs.declared.refusal.Refused.{Refused}
use Rattle.dem_messages.specs.declared.Found.{Found}
use Rattle.dem_messages.specs.declared.Reply.{Reply as Answered}
use Rattle.dem_messages.proofs.Messages.{found-reply-at}
use Rattle.dem_messages.proofs.Writing.{allowed_numbered}
use Rattle.dem_lines.specs.declared.LineChange.{LineChange}
use Rattle.dem_lines.specs.Lent.{Lent, lent, change_lent, with_lines, message_lent}
use Rattle.dem_lines.specs.Turns.{NumberedIn, lines_after, Brings}
use Rattle.dem_lines.proofs.Lending.{not_sixteen, message-refused, lines-changed, same-fill, left_by, message-lent}

-- ---- messages that change no line, by their place in the list of messages

abbrev others : List ℕ
others = 0 ∷ 1 ∷ 2 ∷ 3 ∷ 4 ∷ 5 ∷ 6 ∷ 7 ∷ 8 ∷ 9 ∷ 11 ∷ 12 ∷ 14 ∷ 15 ∷ 17 ∷ 18 ∷ 19 ∷ 20 ∷ 21 ∷ 22 ∷ 23 ∷ 24 ∷ 25 ∷ 26 ∷ 27 ∷ 28 ∷ 29 ∷ 30 ∷ 31 ∷ 32 ∷ 33 ∷ []

pub others_bring : (m : Message) → OneOf others (place_of m) → (s : Scene) (t : Text → List ℕ) → Numbered m
    → s.players ≡ (apply s (fill s (values_by t m))).players
unfolding apply
others_bring m h s t n = go (told t m)
  where
    go : ((u : Update) × (m ≡ M.Update u)) ⊎ ByNumber t m → s.players ≡ (apply s (fill s (values_by t m))).players
    go (inl (u, q)) =
        ap (λ (v : List Value). (apply s v).players) (sym (fill-update s u.number (tail (update_values u)) (n u q)))
        ∙ ap (λ (k : Message). (apply s (fill s (values_by t k))).players) (sym q)
    go (inr k) =
        let serverinfo = k.other 10 (not_among others m h 10 tt) in
        let frags = k.other 13 (not_among others m h 13 tt) in
        let colours = k.other 16 (not_among others m h 16 tt) in
        sym (ap (λ (vs : List Value). (apply s (fill s vs)).players) k.is
        ∙ filled_frame players s k.n k.us k.low (ap₂ ◌||◌ frags colours) serverinfo)

-- ---- what is told of a message with the lines lent

-- Of lines that are not sixteen.
pub refused-lent : (s : Scene) (bytes : List ℕ) (at : ℕ) (c : LineChange) (lines : List PlayerLine) → (length lines ≡ 16 → ⊥)
    → lent (reply s (refusal 14 0)) (change_lent c lines).lines ≡ message_lent s lines bytes at
refused-lent s bytes at c lines n =
    ap (λ (l : Lent (Answer (Unit {0}))). lent (reply s (refusal 14 0)) l.lines) (not_sixteen c lines (ne_eqb (length lines) 16 n))
    ∙ sym (message-refused s lines bytes at n)

module _ (s : Scene) (bytes : List ℕ) (in_bytes : Bytes bytes) (at : ℕ) (r : Answered (Option Found)) (read : reply_of bytes r ≡ message_at s bytes at) where
  -- A message that is found.
  module _ (f : Found) (was : r.answer ≡ Ok (Some f)) where
    abbrev item : Item Values Values
    item = record { sent = values_of bytes f.message; filled = filled_by (values_to bytes f.next) f.filled; next = f.next }

    it : FoundItem messages GoodMessage s bytes at (scene_of r.scene) item
    it = found-reply-at s bytes at in_bytes r f read was

    numbered : Numbered f.message
    numbered = allowed_numbered (context_of s) (placed bytes) f.message it.good.allowed

  -- Its number tells an update.
  numbered_in : (a : Result (Option Found) Refused) → r.answer ≡ a → NumberedIn a
  numbered_in (Ok (Some f)) e = numbered f e
  numbered_in (Ok None) e = tt
  numbered_in (Err q) e = tt

  -- What code says of the lines after an answer is what the answer says of them.
  left_by_lem : (lines : List PlayerLine) (a : Result (Option Found) Refused) → r.answer ≡ a → lines_after (with_lines lines s) (placed bytes) a ≡ left_by s lines (answer_of bytes a)
  left_by_lem lines (Ok (Some f)) e =
      ap (λ (v : Values). (apply (with_lines lines s) v).players) (same-fill s lines (values_of bytes f.message) ∙ sym (it f e).filled)
  left_by_lem lines (Ok None) e = refl
  left_by_lem lines (Err q) e = refl

  -- By the change that the answer brings, and the scene after it with its own lines.
  pub told-lent : length s.players ≡ 16 → (c : LineChange) → Brings c r.answer
      → (u : Held) → scene_of u ≡ with_lines s.players (scene_of r.scene) → (lines : List PlayerLine) → length lines ≡ 16
      → lent (reply (scene_of u) (answer_of bytes r.answer)) (change_lent c lines).lines ≡ message_lent s lines bytes at
  told-lent own c brought u kept lines l =
      let after = lines-changed c lines l ∙ brought (with_lines lines s) (placed bytes) (numbered_in r.answer refl) ∙ left_by_lem lines r.answer refl in
      (λ i. lent (reply (kept i) (answer_of bytes r.answer)) (after i))
      ∙ ap (λ (q : Reply Scene (Item Values Values)). lent (reply (with_lines s.players q.scene) q.answer) (left_by s lines q.answer)) read
      ∙ sym (message-lent s lines bytes at own l)
