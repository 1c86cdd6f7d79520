-- `dem_direct::client_at` meets its contract: what was loaded is what is read, and else the other reader's answer is filled in.
use mathlib.Core.Path.{◌≡◌, sym, ap, ◌∙◌}
use mathlib.Core.Bool.{false, not}
use mathlib.Core.List.{List}
use Prim.Native.Nat.{◌+◌, ◌≤◌}
use native.Mathlib.Omega.{arith}
use lib.ListN.{length, drop}
use Rattle.format.specs.Bytes.{found, map_result, bit}
use Rattle.format.specs.Layout.{Value, tail}
use Rattle.dem.specs.Message.{fill_client}
use Rattle.dem_direct.specs.Spread.{passed, needless_in, client_fields}
use Rattle.dem_direct.proofs.ClientLaws.{client-good, client-found, client_again}
use Rattle.dem_direct.proofs.client_at.Goals as goal

pub returns-then-mask-lt-MASK_BOUND-clause-value : goal.returns-then-mask-lt-MASK_BOUND-clause-value
returns-then-mask-lt-MASK_BOUND-clause-value c =
    let a = c.args in
    let m = c.mask_in-mask in
    let f = c.client_fields-f.ensures in
    let eight : bit m.result 8 ≡ false = sym (c.if-not-has.ensures) in
    let inside : passed client_fields (bit m.result) (a.at + 2) ≤ length a.s.now = omega (arith, f.place, f.near) in
    client-found a.s.now a.at m.result (omega arith) (sym m.ensures) (client-good m.result eight c.if-mask-lt-MASK_BOUND.true) inside _ _ f.client_value f.place

pub returns-then-mask-lt-MASK_BOUND-clause-kept : goal.returns-then-mask-lt-MASK_BOUND-clause-kept
returns-then-mask-lt-MASK_BOUND-clause-kept c x none =
    let a = c.args in
    let m = c.mask_in-mask in
    let f = c.client_fields-f.ensures in
    let low = c.if-mask-lt-MASK_BOUND.true in
    let eight : bit m.result 8 ≡ false = sym (c.if-not-has.ensures) in
    let inside : passed client_fields (bit m.result) (a.at + 2) ≤ length a.s.now = omega (arith, f.place, f.near) in
    let nine = ap not c.has-then-mask-lt-MASK_BOUND.ensures in
    let every = ap (needless_in a.s.now client_fields (bit m.result) (a.at + 2)) (sym nine) ∙ sym f.flag ∙ none in
    client_again a.s.now a.at m.result (omega arith) (sym m.ensures) (client-good m.result eight low) inside _ _ f.client_value f.place x low eight every

pub returns-clause-value : goal.returns-clause-value
returns-clause-value c x =
    ap (λ (vs : List Value). found vs (drop c.in_ok-data.next c.args.s.now)) c.fill_client.ensures
    ∙ ap (map_result (λ vs. fill_client (tail vs))) (c.in_ok-data.ensures x)
