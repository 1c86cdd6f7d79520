-- The answer for a message is read back from what the definitions see of it: what was found lies in the input, is allowed there and ends
-- where it says.
-- Assumes nothing.
use mathlib.Core.Path.{◌≡◌, refl, sym, ap, ◌∙◌}
use mathlib.Core.Logic.{◌≢◌}
use mathlib.Core.List.{List, []}
use mathlib.Core.Bool.{true}
use Prim.Native.Nat.{ℕ}
use lib.ListN.{drop}
use denote.RattleType.{RattleType}
use denote.Enum.Laws.{owed}
use Rattle.format.specs.Bytes.{Bytes, found}
use Rattle.format.specs.Layout.{allows}
use Rattle.dem.specs.Scene.{Scene as Described, context_of}
use Rattle.dem.specs.Message.{Message as Values, layout_in, fill}
use Rattle.dem.specs.Recording.{messages}
use Rattle.dem.specs.WellFormed.{GoodMessage}
use Rattle.format.specs.Answer.{result, reply, Item}
use Rattle.dem.specs.Answer.{message_at}
use Rattle.format.proofs.LayoutLaws.{allows→}
use Rattle.format.proofs.CallLaws.{FoundItem, found-told}
use Rattle.dem.proofs.BlockLaws.{message_lawful}
use Rattle.wire.specs.Reads.{placed}
use Rattle.wire.proofs.FieldLaws.{Held}
use Rattle.dem_types.specs.declared.Message.{Message}
use Rattle.dem_types.specs.Values.{values_of}
use Rattle.dem_types.specs.Places.{values_to}
use Rattle.dem_types.proofs.InPlace.{in_place_lem, placed_values}
use Rattle.dem_types.specs.contracts.Message as MessageType
use Rattle.dem_types.proofs.Back.{message_from, Read, message_back}
use Rattle.dem_scene.specs.declared.Filled.{Filled}
use Rattle.dem_scene.specs.declared.Filled.TheVariants as F
use Rattle.dem_scene.specs.Views.{filled_by}
use Rattle.dem_scene.specs.contracts.Filled as FilledType
use Rattle.dem_scene.proofs.Filled.TheLaws as FilledLaws
use Rattle.dem_scene.proofs.FilledBack.{plain-sent, fill-some, filled_from, ReadPlain, filled_back}
use Rattle.std.specs.Prelude.{Option, None, Some, Result, Ok, Err}
use Rattle.std.specs.contracts.option.Option as OptionType
use Rattle.std.specs.contracts.result.Result as ResultType
use Rattle.format.specs.declared.refusal.Refused.{Refused}
use Rattle.format.specs.contracts.refusal.Refused as RefusedType
use Rattle.format.proofs.RefusalsBack.{refused_back}
use Rattle.dem_messages.specs.Replies.{item_of, answer_of}
use Rattle.dem_messages.specs.declared.Found.{Found}
use Rattle.dem_messages.specs.contracts.Found as FoundType
use Rattle.dem_messages.proofs.Answers.{item_from, held_ok, held_some}
use Rattle.dem_messages.proofs.Messages.{message-some}
use Rattle.dem_messages.proofs.Writing.{allowed_numbered}

-- The row of an answer for a message.
abbrev pub Row : RattleType
Row = ResultType.the_row (OptionType.the_row FoundType.the_row) RefusedType.the_row

abbrev found_from : Item Values Values → Found
found_from i = record { message = message_from i.next i.sent; filled = filled_from i.next i.filled; next = i.next }

module _ (t : Described) (s : List ℕ) (at : ℕ) (bytes : Bytes s) where
  module _ (found_there : Found) (e : result (item_of s found_there) ≡ (message_at t s at).answer) where
    abbrev m : Message
    m = found_there.message

    abbrev f : Filled
    f = found_there.filled

    abbrev next : ℕ
    next = found_there.next

    abbrev item : Item Values Values
    item = item_of s found_there

    it : FoundItem messages GoodMessage t s at (message_at t s at).scene item
    it = found-told messages t s at (message_at t s at).scene GoodMessage message_lawful bytes item (ap (reply (message_at t s at).scene) (sym e))

    some : values_to s next m ≢ []
    some z = message-some t (drop at s) (drop next s) (it.read ∙ ap (λ (vs : Values). found vs (drop next s)) z)

    -- A message that has the values which were read.
    read : (n : Message) → Held MessageType.the_row n → values_to s next n ≡ values_to s next m → Read (context_of t) s next it.within n
    read n h same =
        let place = in_place_lem s next n (λ z. some (sym same ∙ z)) in
        let allowed : allows (layout_in t) (values_of s n) ≡ true =
        ap (allows (layout_in t)) (sym (placed_values s next n place) ∙ same) ∙ it.good.allowed in
        record {
          held = h;
          at = place;
          allowed = allows→ (layout_in t) (values_of s n) allowed;
          numbered = allowed_numbered (context_of t) (placed s) n allowed;
        }

    plain : (g : Filled) → Held FilledType.the_row g → filled_by (values_to s next) g ≡ fill t (values_to s next m)
        → ReadPlain (context_of t) s next it.within g
    plain (F.Plain n) h q =
        let fields = owed FilledType.the_type FilledLaws.the_laws (F.Plain n) h.0 h.1 in
        read n (_, fields.0) (plain-sent (values_to s next n) (values_to s next m) t some q)
    plain (F.Sound d) h q = tt
    plain (F.Clientdata c) h q = tt
    plain (F.Update i r) h q = tt

    found_back : Held FoundType.the_row found_there → found_from (item_of s found_there) ≡ found_there
    found_back h =
        let r = read m (_, h.1.1.1.0) refl in
        let sent = ap (message_from next) (placed_values s next m r.at) ∙ message_back (context_of t) s next it.within m r in
        let filled = filled_back (context_of t) s next it.within f (_, h.1.1.1.1.0) (plain f (_, h.1.1.1.1.0) it.filled)
        (λ z. fill-some t (values_to s next m) some (sym it.filled ∙ z)) in
        λ i. record { message = sent i; filled = filled i; next = next }

  answer_back : (a : Result (Option Found) Refused) → Held Row a → answer_of s a ≡ (message_at t s at).answer → item_from found_from (answer_of s a) ≡ a
  answer_back (Ok (Some f)) h e =
      ap (λ (x : Found). Ok (Some x))
      (found_back f e (held_some FoundType.the_row f (held_ok (OptionType.the_row FoundType.the_row) (Some f) h)))
  answer_back (Ok None) h e = refl
  answer_back (Err r) h e = ap Err (refused_back r)

  -- Two answers for the same message are the same.
  pub answer_determined : (a b : Result (Option Found) Refused) → Held Row a → Held Row b
      → answer_of s a ≡ (message_at t s at).answer → answer_of s b ≡ (message_at t s at).answer → a ≡ b
  answer_determined a b h k e f = sym (answer_back a h e) ∙ ap (item_from found_from) (e ∙ sym f) ∙ answer_back b k f
