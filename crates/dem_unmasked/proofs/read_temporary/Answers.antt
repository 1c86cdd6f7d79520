-- `dem_unmasked::read_temporary` meets its contract: a type with its rule, then the fields of its kind.
use Rattle.std.proofs.Common.{◌≡◌, refl, sym, ap, ◌∙◌, ℕ, true, false, drop}
use borrow.Author.Tests.{eq-eqb, ne_eqb}
use Rattle.dem.specs.Message.{explosion2, explosion2_type}
use Rattle.dem_parts.specs.Kinds.{temporary_in}
use Rattle.dem_unmasked.proofs.Types.{type_found}
use Rattle.dem_unmasked.proofs.read_temporary.Goals as goal

pub returns-then-is_line : goal.returns-then-is_line
returns-then-is_line c =
    λ x. c.read_line.ensures x
    ∙ type_found x _ _ c.in_ok-kind.kind true _ c.in_ok-kind.ensures (sym c.is_line.ensures ∙ c.if-is_line.true) refl

pub returns-then-kind-eq-EXPLOSION2 : goal.returns-then-kind-eq-EXPLOSION2
returns-then-kind-eq-EXPLOSION2 c =
    let k : c.in_ok-kind.kind ≡ explosion2_type = c.if-kind-eq-EXPLOSION2.true in
    λ x. c.read_explosion2.ensures x ∙ ap (λ (k : ℕ). temporary_in x k explosion2 (drop c.in_ok-kind.at c.args.s.now)) (sym k)
    ∙ type_found x _ _ c.in_ok-kind.kind false true c.in_ok-kind.ensures (sym c.is_line.ensures ∙ c.if-is_line.false) (eq-eqb _ _ k)

pub returns-else-kind-eq-EXPLOSION2 : goal.returns-else-kind-eq-EXPLOSION2
returns-else-kind-eq-EXPLOSION2 c =
    let e = ne_eqb c.in_ok-kind.kind explosion2_type c.if-kind-eq-EXPLOSION2.false in
    λ x. c.read_point.ensures x
    ∙ type_found x _ _ c.in_ok-kind.kind false false c.in_ok-kind.ensures (sym c.is_line.ensures ∙ c.if-is_line.false) e
