-- `dem_allowed::names_are_lists` meets its contract: outside the text there are no lists.
use mathlib.Core.Path.{ap, sym, ◌∙◌}
use mathlib.Core.List.{List, []}
use Prim.Native.Nat.{ℕ}
use Rattle.dem.specs.Limits.{name_limit}
use Rattle.format.specs.Layout.{done, allows}
use Rattle.dem.specs.Message.{names}
use Rattle.strings.specs.Names.{names_in}
use Rattle.strings.proofs.Places.{placed_inside}
use Rattle.dem_allowed.proofs.NameTests.{lists_outside}
use Rattle.dem_allowed.proofs.names_are_lists.Goals as goal

pub returns-in-Some : goal.returns-in-Some
returns-in-Some c =
    let a = c.args in
    let e = c.in-Some.ensures in
    c.are_lists.ensures
    ∙ ap (λ (l : List ℕ). allows (names name_limit (names name_limit done)) (names_in [] l)) (e.1 ∙ sym (placed_inside a.text.now a.p e.0))

pub returns-in-None : goal.returns-in-None
returns-in-None c = lists_outside name_limit c.args.text.now c.args.p c.in-None.ensures
