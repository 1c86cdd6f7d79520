-- `dem_allowed::text_is_string` meets its contract: a place outside the text has no string's bytes.
use mathlib.Core.Path.{ap, sym, ◌∙◌}
use Rattle.format.specs.Limits.{string_limit}
use Rattle.format.specs.Layout.{string_bytes}
use Rattle.strings.proofs.Places.{placed_inside}
use Rattle.dem_allowed.proofs.StringTests.{placed_outside}
use Rattle.dem_allowed.proofs.text_is_string.Goals as goal

pub returns-in-Some : goal.returns-in-Some
returns-in-Some c =
    let a = c.args in
    let e = c.in-Some.ensures in
    c.is_string.ensures ∙ ap (string_bytes string_limit) (e.1 ∙ sym (placed_inside a.text.now a.p e.0))

pub returns-in-None : goal.returns-in-None
returns-in-None c = sym (ap (string_bytes string_limit) (placed_outside c.args.text.now c.args.p c.in-None.ensures))
