-- No message is refused with the number of a block that is cut.
-- Assumes nothing.
use mathlib.Core.Path.{◌≡◌, refl}
use mathlib.Core.List.{List, [], ◌∷◌}
use mathlib.Core.Bool.{Bool, true, false, cond, not, ◌&&◌}
use mathlib.Core.Option.{Option}
use Prim.Native.Nat.{ℕ, zero, suc}
use lib.Dec.{eqb, ltb, leb}
use lib.ListN.{get_or}
use Rattle.format.specs.Refusal.{code, cut_block, after_disconnect, wrong_number, wrong_time, unknown_message}
use Rattle.format.specs.Bytes.{refused_but, unless, bit}
use Rattle.format.specs.Floats.{is_time, not_before, time_rule}
use Rattle.format.specs.Layout.{Layout, done, parse}
use Rattle.format.specs.Masked.{Mask, reserved}
use Rattle.dem.specs.Limits.{entity_count, player_count, stat_count, style_count, protocol, name_limit, temporary_type_count}
use Rattle.dem.specs.Scene.{Scene, Context, context_of, zero_baseline}
use Rattle.dem.specs.Kind
use Rattle.dem.specs.Message.{below, Field, byte, short, long, chars, entity, player, stat_index, style, version, limit}
use Rattle.dem.specs.Message.{channel_entity, time_bits, is_empty, names, temporary_kind, temporary_fields, is_update, is_message, too_many_statics}
use Rattle.dem.specs.Message.{field_layout, row, rows, sound_slots, sound_tail, client_tail, client_slots, update_slots, update_mask, update_layout}
use Rattle.dem.specs.Message.{kind_layout, layout, layout_in}
use Rattle.dem.specs.Recording.{read_message, messages, keeps_place}
use Rattle.dem.specs.WellFormed.{GoodMessage}
use Rattle.format.proofs.ResultLaws.{Answers, Ranged, unless_within, require_ranged, but_ranged}
use Rattle.format.proofs.LayoutLaws.{Rules, either_rules, parse_ranged}
use Rattle.format.proofs.MaskedLaws.{reserved_within, slot_rules}
use Rattle.format.proofs.CodecLaws.{Lawful}
use Rattle.dem.proofs.BlockLaws.{message_lawful}

-- Not the number of a block that is cut.
abbrev pub uncut : ℕ → Bool
uncut n = not (eqb n (code cut_block))

answers : Answers uncut
answers = record { met = refl; cut = refl; string = refl }

wrong_uncut : (b : Bool) → uncut (unless b wrong_number) ≡ true
wrong_uncut b = unless_within uncut b wrong_number refl refl

below_uncut : (m v : ℕ) → uncut (below m v) ≡ true
below_uncut m v = wrong_uncut (ltb v m)

time_uncut : (before : Option ℕ) (v : ℕ) → uncut (time_rule before v) ≡ true
time_uncut before v = unless_within uncut (is_time v && not_before before v) wrong_time refl refl

reserved_uncut : (ks : List ℕ) (mask : Mask) → uncut (reserved ks mask) ≡ true
reserved_uncut = reserved_within answers refl

field_rules : (c : Context) (f : Field) (k : Layout) → Rules uncut k → Rules uncut (field_layout c f k)
field_rules c byte k r = (λ v. refl, λ v. r)
field_rules c short k r = (λ v. refl, λ v. r)
field_rules c long k r = (λ v. refl, λ v. r)
field_rules c chars k r = (λ t. refl, λ t. r)
field_rules c entity k r = (below_uncut entity_count, λ v. r)
field_rules c player k r = (below_uncut c.limit, λ v. r)
field_rules c stat_index k r = (below_uncut stat_count, λ v. r)
field_rules c style k r = (below_uncut style_count, λ v. r)
field_rules c version k r = (λ v. wrong_uncut (eqb v protocol), λ v. r)
field_rules c limit k r = (λ v. wrong_uncut (leb 1 v && leb v player_count), λ v. r)
field_rules c channel_entity k r = (below_uncut entity_count, r)
field_rules c time_bits k r = (time_uncut c.time, λ v. r)

row_rules : (c : Context) (fs : List Field) (k : Layout) → Rules uncut k → Rules uncut (row c fs k)
row_rules c [] k r = r
row_rules c (f ∷ fs) k r = field_rules c f (row c fs k) (row_rules c fs k r)

names_rules : (n : ℕ) (k : Layout) → Rules uncut k → Rules uncut (names n k)
names_rules zero k r = (λ t. wrong_uncut (is_empty t), λ t. r)
names_rules (suc n) k r = (λ t. refl, λ t. either_rules uncut (is_empty t) k (names n k) r (names_rules n k r))

update_rules : (n : ℕ) → Rules uncut (update_layout n)
update_rules n = (
  λ h. reserved_uncut (7 ∷ []) (bit h),
  λ h. (below_uncut entity_count, λ e. slot_rules answers (update_slots zero_baseline) (update_mask n h) done tt),
)

kind_rules : (c : Context) (n : ℕ) → Rules uncut (kind_layout c n)
unfolding kind_layout
kind_rules c n =
    either_rules uncut (is_update n) _ _ (update_rules n)
    (either_rules uncut (eqb n Kind.sound) _ _ (
      λ m. reserved_uncut (2 ∷ 3 ∷ 4 ∷ 5 ∷ 6 ∷ 7 ∷ []) (bit m),
      λ m. slot_rules answers sound_slots (bit m) (row c sound_tail done) (row_rules c sound_tail done tt),
    )
    (either_rules uncut (eqb n Kind.clientdata) _ _ (
      λ m. reserved_uncut (8 ∷ 15 ∷ []) (bit m),
      λ m. slot_rules answers client_slots (bit m) (row c client_tail done) (row_rules c client_tail done tt),
    )
    (either_rules uncut (eqb n Kind.temporary) _ _ (
      λ k. wrong_uncut (ltb k temporary_type_count),
      λ k. row_rules c (temporary_fields (temporary_kind k)) done tt,
    )
    (row_rules c (get_or rows n []) (cond (eqb n Kind.serverinfo) (names name_limit (names name_limit done)) done)
    (either_rules uncut (eqb n Kind.serverinfo) (names name_limit (names name_limit done)) done
    (names_rules name_limit (names name_limit done) (names_rules name_limit done tt)) tt)))))

layout_rules : (c : Context) → Rules uncut (layout c)
unfolding layout
layout_rules c = (λ n. go (is_message n) (too_many_statics c n), kind_rules c)
  where
    go : (b x : Bool) → uncut (cond b (unless (not x) wrong_number) (code unknown_message)) ≡ true
    go true x = wrong_uncut (not x)
    go false x = refl

message_ranged : (s : Scene) (bs : List ℕ) → Ranged uncut bs (read_message s bs)
unfolding read_message
message_ranged s bs =
    require_ranged uncut (unless (not s.ended) after_disconnect) bs (refused_but keeps_place bs (parse (layout_in s) bs))
    (unless_within uncut (not s.ended) after_disconnect refl refl)
    (but_ranged uncut keeps_place bs (parse (layout_in s) bs) (parse_ranged answers (layout_in s) bs (layout_rules (context_of s))))

-- Messages are lawful, and their refusals are of other numbers.
pub uncut_lawful : Lawful messages GoodMessage uncut
uncut_lawful =
    record {
      sound = message_lawful.sound;
      complete = message_lawful.complete;
      some = message_lawful.some;
      bytes = message_lawful.bytes;
      ranged = λ s bs h. message_ranged s bs;
    }
