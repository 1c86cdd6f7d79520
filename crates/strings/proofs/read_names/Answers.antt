-- `strings::read_names` meets its contract: two lists, one behind the other.
use mathlib.Core.Path.{◌∙◌}
use native.Mathlib.Omega.{arith}
use Rattle.format.specs.Layout.{done, parse}
use Rattle.format.proofs.ByteLaws.{bytes_of}
use Rattle.dem.specs.Limits.{name_limit}
use Rattle.strings.specs.Names.{names_then}
use Rattle.strings.proofs.NameLoops.{names-refused, names-found}
use Rattle.std.proofs.lemmas.Result.{err_from_is_err_and}
use Rattle.strings.proofs.read_names.Goals as goal

pub returns-in_err-next-clause-value : goal.returns-in_err-next-clause-value
returns-in_err-next-clause-value c =
    let p = err_from_is_err_and c.from_residual.result c.from_residual.ensures.1 in
    rw (p.1, p.2) (names-refused c.args.s.now name_limit c.args.at _ _ (c.in_err-next.ensures.value (names_then name_limit done)))

pub returns-in_err-end-clause-value : goal.returns-in_err-end-clause-value
returns-in_err-end-clause-value c =
    let p = err_from_is_err_and c.from_residual-in_err-end.result c.from_residual-in_err-end.ensures.1 in
    rw (p.1, p.2) (names-refused c.args.s.now name_limit c.args.at _ _
    (c.in_err-end.ensures.value done ∙ c.in_ok-next.ensures.value (names_then name_limit done)))

pub returns-clause-value : goal.returns-clause-value
unfolding parse
returns-clause-value c =
    let bytes = c.type_inv.s in
    names-found c.args.s.now name_limit c.args.at (bytes_of c.args.s.now (λ i. (bytes i).fits)) c.in_ok-end.end
    (c.in_ok-end.ensures.value done ∙ c.in_ok-next.ensures.value (names_then name_limit done))
    (omega (arith, c.in_ok-next.ensures.place, c.in_ok-end.ensures.place))
    (omega (arith, c.in_ok-end.ensures.place))
