-- `dem_writer::temporary` meets its contract: what the layout allows of a point is a point's type, and so for a line; type 12 is its own case.
use mathlib.Core.Path.{◌≡◌, sym, ap, ◌∙◌, subst}
use mathlib.Core.List.{◌∷◌}
use mathlib.Core.Bool.{true}
use Rattle.dem.specs.Kind
use Rattle.format.specs.Layout.{number, print, allows}
use Rattle.dem.specs.Message.{layout}
use Rattle.format.proofs.LayoutLaws.{allows→}
use Rattle.dem_types.specs.Values.{temporary_values}
use Rattle.dem_types.specs.declared.Temporary.{Temporary}
use Rattle.dem_writer.specs.Bytes.{bytes_of, list_of}
use Rattle.dem_writer.proofs.KindLaws.{point-print, line-print, explosion2-print}
use Rattle.dem_writer.proofs.temporary.Goals as goal

pub returns-in-Point : goal.returns-in-Point
returns-in-Point c x t =
    subst (λ (m : Temporary). allows (layout x) (number Kind.temporary ∷ temporary_values m) ≡ true
    → bytes_of t (list_of c.point.result) ≡ print (layout x) (number Kind.temporary ∷ temporary_values m)) (sym c.in-Point.is)
    (λ a. ap (bytes_of t) c.point.ensures ∙ point-print x t c.in-Point.n c.in-Point.v (allows→ (layout x) _ a))

pub returns-in-Line : goal.returns-in-Line
returns-in-Line c x t =
    subst (λ (m : Temporary). allows (layout x) (number Kind.temporary ∷ temporary_values m) ≡ true
    → bytes_of t (list_of c.line.result) ≡ print (layout x) (number Kind.temporary ∷ temporary_values m)) (sym c.in-Line.is)
    (λ a. ap (bytes_of t) c.line.ensures ∙ line-print x t c.in-Line.n c.in-Line.e c.in-Line.v c.in-Line.w (allows→ (layout x) _ a))

pub returns-in-Explosion2 : goal.returns-in-Explosion2
returns-in-Explosion2 c x t =
    subst (λ (m : Temporary). allows (layout x) (number Kind.temporary ∷ temporary_values m) ≡ true
    → bytes_of t (list_of c.explosion2.result) ≡ print (layout x) (number Kind.temporary ∷ temporary_values m)) (sym c.in-Explosion2.is)
    (λ a. ap (bytes_of t) c.explosion2.ensures ∙ explosion2-print x t c.in-Explosion2.v c.in-Explosion2.first c.in-Explosion2.count)
