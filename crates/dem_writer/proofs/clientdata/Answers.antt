-- `dem_writer::clientdata` meets its contract: each piece has the bytes of its field.
use mathlib.Core.Path.{ap, ◌∙◌}
use mathlib.Core.List.{◌∷◌}
use borrow.Author.Rules.{rules}
use mir.Syntax.{w8, w16, w32}
use Rattle.dem.specs.Message.{layout, kind_layout}
use Rattle.dem.specs.Kind
use Rattle.format.specs.Layout.{number}
use Rattle.dem_types.specs.Values.{client_values}
use Rattle.dem_writer.specs.Bytes.{bytes_of}
use Rattle.dem_writer.proofs.PrintLaws.{bits_of, Prints, prints-done, prints-field}
use Rattle.dem_writer.proofs.clientdata.Goals as goal

pub returns : goal.returns
unfolding layout kind_layout
returns c x t =
    let all : Prints t _ (layout x) (number Kind.clientdata ∷ client_values c.args.c) =
    prints-field c.number_of.ensures
    (prints-field c.number_of-2.ensures
    (prints-field (bits_of w8 c.args.c.motion.view_height (search rules) c.sent.ensures)
    (prints-field (bits_of w8 c.args.c.motion.pitch (search rules) c.sent-2.ensures)
    (prints-field (bits_of w8 c.args.c.motion.punch0 (search rules) c.sent-3.ensures)
    (prints-field (bits_of w8 c.args.c.motion.velocity0 (search rules) c.sent-4.ensures)
    (prints-field (bits_of w8 c.args.c.motion.punch1 (search rules) c.sent-5.ensures)
    (prints-field (bits_of w8 c.args.c.motion.velocity1 (search rules) c.sent-6.ensures)
    (prints-field (bits_of w8 c.args.c.motion.punch2 (search rules) c.sent-7.ensures)
    (prints-field (bits_of w8 c.args.c.motion.velocity2 (search rules) c.sent-8.ensures)
    (prints-field (bits_of w32 c.args.c.items (search rules) c.number_of-3.ensures)
    (prints-field c.sent-9.ensures
    (prints-field c.sent-10.ensures
    (prints-field c.sent-11.ensures
    (prints-field (bits_of w16 c.args.c.supplies.health (search rules) c.number_of-4.ensures)
    (prints-field c.number_of-5.ensures
    (prints-field c.number_of-6.ensures
    (prints-field c.number_of-7.ensures
    (prints-field c.number_of-8.ensures
    (prints-field c.number_of-9.ensures
    (prints-field c.number_of-10.ensures
    prints-done)))))))))))))))))))) in ap (bytes_of t) c.of.ensures ∙ all.same
