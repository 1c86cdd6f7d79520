-- `dem_framing::read_digits` meets its contract. The loop keeps what the line from its start on reads to: the line from here on, behind the
-- digits passed.
use mathlib.Core.Path.{◌≡◌, sym, ap, ◌∙◌}
use mathlib.Core.Bool.{Bool, true, ◌&&◌}
use Prim.Native.Nat.{◌+◌, ◌-◌}
use lib.Dec.{ltb}
use lib.ListN.{get_or}
use native.Mathlib.Omega.{arith}
use Rattle.format.specs.Digits.{digit_zero}
use Rattle.dem.specs.Track.{most_digits, is_digit}
use Rattle.dem_framing.proofs.TrackLaws.{line_wrong, line_digit, digit_test, another_digit, value_grows}
use Rattle.dem_framing.proofs.read_digits.Goals as goal

pub returns-then-not-another-clause-value : goal.returns-then-not-another-clause-value
returns-then-not-another-clause-value c =
    let l = c.loop-at in
    let t = ap (λ (b : Bool). ltb (l.at - c.args.start) most_digits && b)
    (c.is_ascii_digit.ensures.value ∙ digit_test (get_or c.args.s.now l.at 0)) in
    line_wrong c.args.s.now l.at (l.at - c.args.start) l.value c.loop-at-test.true c.if-digits-b.false (sym t ∙ c.if-not-another.true)
    ∙ sym l.invariant.2

pub loop-at-preserved : goal.loop-at-preserved
loop-at-preserved c =
    let l = c.loop-at in
    let t = ap (λ (b : Bool). ltb (l.at - c.args.start) most_digits && b)
    (c.is_ascii_digit.ensures.value ∙ digit_test (get_or c.args.s.now l.at 0)) in
    let another : (ltb (l.at - c.args.start) most_digits && is_digit (get_or c.args.s.now l.at 0)) ≡ true = sym t ∙ c.if-not-another.false in
    let d = another_digit (l.at - c.args.start) (get_or c.args.s.now l.at 0) another in
    let n : l.at + 1 - c.args.start ≡ l.at - c.args.start + 1 = omega arith in
    rw (n, c.from.ensures) (
      omega (arith, d),
      value_grows (l.at - c.args.start) l.value (get_or c.args.s.now l.at 0 - digit_zero) l.invariant.1 (omega (arith, d)),
      l.invariant.2 ∙ line_digit c.args.s.now l.at (l.at - c.args.start) l.value c.loop-at-test.true c.if-digits-b.false another,
    )
