-- `dem_lines::change_of` meets its contract: three messages by their arms, every other by the list of those that change no line.
use mathlib.Core.Path.{◌≡◌, sym, ap, ◌∙◌}
use lib.IntN.{ℤ}
use mir.Syntax.{w16}
use mir.Val.{of_z, to_z}
use borrow.Author.Rules.{rules}
use borrow.Enum.Refused.{opened}
use Rattle.dem.specs.Message.{set_frags, apply, fill}
use Rattle.dem_types.specs.declared.Message.{Message}
use Rattle.dem_types.specs.Values.{values_by}
use Rattle.dem_lines.proofs.Brought.{others_bring}
use Rattle.dem_lines.proofs.change_of.Goals as goal

pub returns-in-Serverinfo : goal.returns-in-Serverinfo
unfolding apply fill
returns-in-Serverinfo c s t n = ap (λ (k : Message). (apply s (fill s (values_by t k))).players) (sym c.in-Serverinfo.is)

pub returns-in-Frags : goal.returns-in-Frags
unfolding apply fill
returns-in-Frags c s t n =
    let f : to_z w16 (of_z w16 c.in-Frags.frags) ≡ c.in-Frags.frags = search rules in
    ap (λ (v : ℤ). set_frags s.players c.in-Frags.player.0 (of_z w16 v)) f ∙ ap (λ (k : Message). (apply s (fill s (values_by t k))).players) (sym c.in-Frags.is)

pub returns-in-Colours : goal.returns-in-Colours
unfolding apply fill
returns-in-Colours c s t n = ap (λ (k : Message). (apply s (fill s (values_by t k))).players) (sym c.in-Colours.is)

pub returns-in_default : goal.returns-in_default
returns-in_default c = others_bring c.args.message (opened c.in_default.in_default-own.keys4)
