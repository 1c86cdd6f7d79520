-- A message with a mask, part by part, each as its reader answers it.
-- Assumes nothing.
use mathlib.Core.Path.{◌≡◌, refl, sym, ap, ◌∙◌}
use mathlib.Core.List.{List, ◌++◌}
use mathlib.Core.Bool.{Bool, cond, not}
use Prim.Native.Nat.{ℕ, suc, ◌+◌, ◌*◌, ◌<◌}
use Rattle.std.proofs.lemmas.Bool.Decides.{nat_tests}
use native.Mathlib.Omega.{arith}
use lib.Dec.{leb, ltb}
use Rattle.format.specs.Refusal.{reserved_bit}
use Rattle.format.specs.Bytes.{Result, found, refused, map_result, bind, unless, free, bit, bit_of, read_number}
use Rattle.format.specs.Layout.{Value, number, Layout, done, field, put, parse}
use Rattle.format.specs.Masked.{Mask, slot_layout}
use Rattle.dem.specs.Kind
use Rattle.dem.specs.Scene.{Context, zero_baseline}
use Rattle.dem.specs.Message.{sound_rule, client_rule, high_bit, high_rule, entity_rule}
use Rattle.dem.specs.Message.{update_mask, update_slots, update_layout, kind_layout}
use Rattle.dem.proofs.SoundLaws.{from_four}
use Rattle.dem.proofs.UpdateLaws.{update_mask_lem}
use Rattle.wire.proofs.Parsing.{and_then, then_found, then_refused}
use Rattle.dem_parts.specs.Kinds.{vector_layout, source_layout, kind_in}
use Rattle.dem_masked.specs.Slots.{slot_in, slots, motion_layout, arms_layout, supplies_layout, entity_in, look_layout, pose_layout}

-- Values that were read, then those that are read behind them.
abbrev pub after : Result (List Value) → (List ℕ → Result (List Value)) → Result (List Value)
after q next = bind q (λ us rest. map_result (λ ws. us ++ ws) (next rest))

behind : (l k : Layout) (bs : List ℕ) → parse (and_then l k) bs ≡ after (parse l bs) (parse k)
behind l k bs = go (parse l bs) refl
  where
    go : (q : Result (List Value)) → parse l bs ≡ q → parse (and_then l k) bs ≡ after q (parse k)
    go (found us rest) e = sym (then_found l k bs us rest (parse k rest) (sym e) refl)
    go (refused n left) e = sym (then_refused l k bs n left (sym e))

-- A sound's mask, as code tests it.
pub sound_ruled : (m : ℕ) → m < 256 → sound_rule m ≡ unless (ltb m 4) reserved_bit
sound_ruled m l =
    let below : not (leb 4 m) ≡ ltb m 4 = grind (arith, nat_tests) in
    ap (λ (b : Bool). unless b reserved_bit) (ap not (sym (from_four m l)) ∙ below)

pub sound_parts : (x : Context) (bs : List ℕ)
    → kind_in x Kind.sound bs
    ≡ put (number Kind.sound) (bind (read_number 1 sound_rule bs) (λ m rest. put (number m)
    (bind (slot_in m 0 1 rest) (λ v rest. put (number v)
    (bind (slot_in m 1 1 rest) (λ a rest. put (number a)
    (after (parse source_layout rest) (λ rest. bind (read_number 1 free rest) (λ n rest. put (number n)
    (parse (vector_layout done) rest))))))))))
unfolding kind_in kind_layout parse slot_in
sound_parts x bs =
    λ i. put (number Kind.sound) (bind (read_number 1 sound_rule bs) (λ m rest. put (number m)
    (bind (slot_in m 0 1 rest) (λ v rest. put (number v)
    (bind (slot_in m 1 1 rest) (λ a rest. put (number a) (behind source_layout (field 1 free (λ n. vector_layout done)) rest i)))))))

pub client_parts : (x : Context) (bs : List ℕ)
    → kind_in x Kind.clientdata bs
    ≡ put (number Kind.clientdata) (bind (read_number 2 client_rule bs) (λ m rest. put (number m)
    (after (parse (motion_layout m) rest) (λ rest. bind (read_number 4 free rest) (λ n rest. put (number n)
    (after (parse (arms_layout m) rest) (parse supplies_layout)))))))
unfolding kind_in kind_layout parse
client_parts x bs =
    λ i. put (number Kind.clientdata) (bind (read_number 2 client_rule bs) (λ m rest. put (number m)
    ((behind (motion_layout m) (field 4 free (λ n. and_then (arms_layout m) supplies_layout)) rest
    ∙ (λ j. after (parse (motion_layout m) rest) (λ rest. bind (read_number 4 free rest) (λ n rest. put (number n)
    (behind (arms_layout m) supplies_layout rest j))))) i)))

pub update_parts : (low : ℕ) (bs : List ℕ) → low < 256
    → parse (update_layout low) bs
    ≡ bind (read_number (cond (bit low high_bit) 1 0) high_rule bs) (λ h rest. put (number h)
    (bind (entity_in (bit (h * 256 + low) 14) rest) (λ e rest. put (number e)
    (after (parse (look_layout (h * 256 + low)) rest) (λ rest. bind (slot_in (h * 256 + low) 13 1 rest) (λ f rest. put (number f)
    (parse (pose_layout (h * 256 + low)) rest)))))))
unfolding parse slot_in entity_in
update_parts low bs l =
    λ i. bind (read_number (cond (bit low high_bit) 1 0) high_rule bs) (λ h rest. put (number h)
    ((sym (masked h rest)
    ∙ (λ j. bind (entity_in (bit (h * 256 + low) 14) rest) (λ e rest. put (number e)
    (behind (look_layout (h * 256 + low)) (slots (update_slots zero_baseline) 4 7 (h * 256 + low)) rest j)))) i))
  where
    fields : Mask → List ℕ → Result (List Value)
    fields mask = parse (field (suc (bit_of (mask 14))) entity_rule (λ e. slot_layout (update_slots zero_baseline) mask done))

    masked : (h : ℕ) (rest : List ℕ) → fields (bit (h * 256 + low)) rest ≡ fields (update_mask low h) rest
    masked h rest = ap (λ (mask : Mask). fields mask rest) (update_mask_lem h low l)
