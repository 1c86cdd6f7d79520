-- `strings::read_list` meets its contract: each name moves the place on from which what is left of the list is read.
use mathlib.Core.Path.{◌≡◌, sym, ap, ◌∙◌}
use Prim.Native.Nat.{ℕ, suc, ◌+◌, ◌-◌}
use native.Mathlib.Omega.{arith}
use lib.ListN.{drop}
use Rattle.format.specs.Refusal.{code, wrong_number}
use Rattle.format.specs.Bytes.{refused}
use Rattle.dem.specs.Limits.{name_limit}
use Rattle.strings.specs.Names.{names_then, end_at}
use Rattle.strings.proofs.NameLoops.{list_goes_on, list_over}
use Rattle.strings.proofs.read_list.Goals as goal

pub loop-preserved : goal.loop-preserved
loop-preserved c =
    let s = c.args.s.now in
    let l = c.loop in
    let r = c.in_ok-name in
    let m : name_limit - l.counter ≡ suc (name_limit - (l.counter + 1)) = omega arith in (
      omega (arith, r.ensures.place),
      λ k.
          l.invariant.1 k ∙ ap (λ (m : ℕ). end_at s (names_then m k) l.at) m
          ∙ list_goes_on s l.at r.name r.next r.ensures.value r.ensures.place c.if-name-eq0.false (name_limit - (l.counter + 1)) k,
    )

pub returns-then-name-ne0-clause-value : goal.returns-then-name-ne0-clause-value
returns-then-name-ne0-clause-value c = λ k.
    let s = c.args.s.now in
    let l = c.loop in
    let r = c.in_ok-name-2 in
    let m : name_limit - l.counter ≡ 0 = omega arith in
    ap (λ (i : ℕ). refused (code wrong_number) (drop i s)) r.ensures.place.0
    ∙ sym (l.invariant.1 k ∙ ap (λ (m : ℕ). end_at s (names_then m k) l.at) m
    ∙ list_over s l.at r.name r.next r.ensures.value r.ensures.place c.if-name-ne0.true k)
