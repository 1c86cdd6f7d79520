-- `dem_framing::read_track` meets its contract.
use mathlib.Core.Path.{ap, ◌∙◌}
use mathlib.Core.Bool.{true, false}
use mir.Syntax.{w16}
use mir.Val.{bool_byte}
use mir.ValLaws.{to_z-of_z}
use lib.IntN.{ℤ}
use lib.ListN.{drop}
use Rattle.format.specs.Bytes.{found}
use Rattle.dem_framing.proofs.TrackLaws.{track_found, plain-number, minus_number}
use Rattle.dem_framing.proofs.read_track.Goals as goal

pub returns-then-negative-clause-value : goal.returns-then-negative-clause-value
returns-then-negative-clause-value c =
    let s = c.args.s.now in
    let d = c.in_ok-value in
    let z = c.cast_signed-number in
    rw (to_z-of_z w16 z.result (record { sfits = z.type_inv }), z.ensures)
    (ap (λ (z : ℤ). found z (drop d.at s)) (minus_number d.value d.ensures.small)
    ∙ track_found s true c.from.result c.if-negative.ensures.value (c.from.ensures ∙ ap bool_byte c.if-negative.true) d.value
    (drop d.at s) d.ensures.value)

pub returns-else-negative-clause-value : goal.returns-else-negative-clause-value
returns-else-negative-clause-value c =
    let s = c.args.s.now in
    let d = c.in_ok-value in
    let z = c.cast_signed-number in
    rw (to_z-of_z w16 z.result (record { sfits = z.type_inv }), z.ensures)
    (ap (λ (z : ℤ). found z (drop d.at s)) (plain-number d.value d.ensures.small)
    ∙ track_found s false c.from.result c.if-negative.ensures.value (c.from.ensures ∙ ap bool_byte c.if-negative.false) d.value
    (drop d.at s) d.ensures.value)
