-- `dem_direct::client_fields` meets its contract: motion, items, arms and supplies follow the slots in turn.
use mathlib.Core.Path.{◌≡◌, sym, ap, ◌∙◌}
use mathlib.Core.Bool.{true}
use mathlib.Core.List.{◌∷◌, ◌++◌}
use Prim.Native.Nat.{ℕ, ◌+◌}
use lib.ListN.{take, drop}
use mir.Syntax.{w32}
use mir.Val.{of_z, to_z}
use Rattle.format.specs.Bytes.{bit, bit_of}
use Rattle.format.specs.Layout.{number}
use Rattle.dem.specs.Message.{client_slots}
use Rattle.dem_direct.specs.Spread.{field_or, behind, spread, passed, supplies_slots}
use Rattle.dem_direct.proofs.Fields.{handed_on, field_sent, behind_sent}
use Rattle.dem_direct.proofs.client_fields.Goals as goal

pub returns-clause-client_value : goal.returns-clause-client_value
returns-clause-client_value c =
    let d = c.args.d.now in
    let b = bit c.args.mask in
    let m = c.motion_or-m in
    let a = c.arms_or-a in
    let q = m.result.next in
    let z = c.load-items in
    let after : q + 4 ≡ behind (passed (take 8 client_slots) b c.args.at) true 4 = sym (behind_sent q 4) ∙ ap (λ (p : ℕ). behind p true 4) m.ensures.place in
    let items : of_z w32 (to_z w32 (of_z w32 z.result)) ≡ field_or d (passed (take 8 client_slots) b c.args.at) true 4 0 =
    ap (of_z w32) (handed_on w32 z.result z.type_inv) ∙ z.ensures ∙ sym (field_sent d q 4 0) ∙ ap (λ (p : ℕ). field_or d p true 4 0) m.ensures.place in
    let arms = a.ensures.arms_value ∙ ap (spread d (drop 9 client_slots) b) after in
    let supplies = c.supplies_in-supplies.ensures b ∙ ap (spread d supplies_slots b) (a.ensures.place ∙ ap (passed (drop 9 client_slots) b) after) in
    λ i. number (bit_of (c.has.ensures i)) ∷ number (bit_of (c.has-2.ensures i)) ∷ (m.ensures.motion_value i ++ (number (items i) ∷ (arms i ++ supplies i)))
