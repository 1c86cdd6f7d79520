-- Before the place that is found stands no such byte: none stands before it in the part that is searched.
use Rattle.std.proofs.Common.{◌≡◌, ◌≤◌, ◌<◌, ℕ, List, true, ◌-◌, ◌+◌, length, get_or, drop, take, ◌==◌, eq-eqb, ◌∙◌, ap, arith, rules}
use Rattle.std.proofs.lemmas.List.{get_or-drop, get_or-take}
use Rattle.run_show.proofs.find.Goals as goal

-- A byte that stands behind a place stands in the part from there.
passes : (xs : List ℕ) (from k b : ℕ) → from ≤ k → k < length xs → get_or xs k 0 ≡ b
    → (get_or (take (length xs - from) (drop from xs)) (k - from) 0 == b) ≡ true
passes xs from k b low high e =
    let place : from + (k - from) ≡ k = omega arith in
    let within : k - from < length xs - from = omega arith in
    eq-eqb _ b (get_or-take (length xs - from) (drop from xs) (k - from) 0 within ∙ get_or-drop from xs (k - from) 0 ∙ ap (λ i. get_or xs i 0) place ∙ e)

pub returns-in-Some-clause-before : goal.returns-in-Some-clause-before
returns-in-Some-clause-before c k low high e =
    let first = c.in-Some.ensures.0 in
    first.before (k - c.args.from) (omega arith) (omega arith) (passes c.args.bytes.now c.args.from k c.args.b low (search rules) e)

pub returns-in-None-clause-before : goal.returns-in-None-clause-before
returns-in-None-clause-before c k low high e =
    c.in-None.ensures (k - c.args.from) (omega arith) (search rules) (passes c.args.bytes.now c.args.from k c.args.b low high e)
