-- `dem_writer::pieces_of` meets its contract where a string's place, or what the layout allows, decides the bytes, or a kind has a
-- function of its own.
use mathlib.Core.Path.{refl, ◌∙◌}
use Rattle.format.specs.Bytes.{write_string}
use Rattle.format.specs.Layout.{print}
use Rattle.dem.specs.Message.{layout, kind_layout}
use Rattle.format.proofs.LayoutLaws.{allows→}
use Rattle.dem_writer.specs.Bytes.{bytes_of}
use Rattle.dem_writer.proofs.KindLaws.{arm, update-print, serverinfo-written}
use Rattle.dem_writer.proofs.TextLaws.{string_inside}
use Rattle.dem_writer.proofs.pieces_of.Goals as goal

pub returns-in-Sound : goal.returns-in-Sound
returns-in-Sound c = arm c.in-Sound.is refl (λ x t f i a. c.sound.ensures x t)

pub returns-in-Print : goal.returns-in-Print
unfolding layout kind_layout print bytes_of write_string
returns-in-Print c =
    arm c.in-Print.is c.with_string.ensures (λ x t f i a. rw (string_inside t f i c.in-Print.t (allows→ (layout x) _ a).2.0))

pub returns-in-Stufftext : goal.returns-in-Stufftext
unfolding layout kind_layout print bytes_of write_string
returns-in-Stufftext c =
    arm c.in-Stufftext.is c.with_string-in-Stufftext.ensures (λ x t f i a. rw (string_inside t f i c.in-Stufftext.t (allows→ (layout x) _ a).2.0))

pub returns-in-Serverinfo : goal.returns-in-Serverinfo
returns-in-Serverinfo c = arm c.in-Serverinfo.is c.serverinfo.ensures (serverinfo-written c.in-Serverinfo.s)

pub returns-in-Style : goal.returns-in-Style
unfolding layout kind_layout print bytes_of write_string
returns-in-Style c =
    arm c.in-Style.is c.of-in-Style.ensures (λ x t f i a. rw (
      c.number_of-in-Style.ensures,
      c.number_of-in-Style-2.ensures,
      c.string.ensures,
      string_inside t f i c.in-Style.t (allows→ (layout x) _ a).2.2.0,
    ))

pub returns-in-Name : goal.returns-in-Name
unfolding layout kind_layout print bytes_of write_string
returns-in-Name c =
    arm c.in-Name.is c.of-in-Name.ensures (λ x t f i a. rw (
      c.number_of-in-Name.ensures,
      c.number_of-in-Name-2.ensures,
      c.string-in-Name.ensures,
      string_inside t f i c.in-Name.t (allows→ (layout x) _ a).2.2.0,
    ))

pub returns-in-Clientdata : goal.returns-in-Clientdata
returns-in-Clientdata c = arm c.in-Clientdata.is refl (λ x t f i a. c.clientdata.ensures x t)

pub returns-in-Particle : goal.returns-in-Particle
returns-in-Particle c = arm c.in-Particle.is refl (λ x t f i a. c.particle.ensures x t f)

pub returns-in-Static : goal.returns-in-Static
unfolding layout kind_layout print bytes_of
returns-in-Static c = arm c.in-Static.is c.placed.ensures (λ x t f i a. rw c.number.ensures)

pub returns-in-Baseline : goal.returns-in-Baseline
unfolding layout kind_layout print bytes_of
returns-in-Baseline c = arm c.in-Baseline.is c.placed-in-Baseline.ensures (λ x t f i a. rw c.number_of-in-Baseline.ensures)

pub returns-in-Centerprint : goal.returns-in-Centerprint
unfolding layout kind_layout print bytes_of write_string
returns-in-Centerprint c =
    arm c.in-Centerprint.is c.with_string-in-Centerprint.ensures (λ x t f i a. rw (string_inside t f i c.in-Centerprint.t (allows→ (layout x) _ a).2.0))

pub returns-in-Finale : goal.returns-in-Finale
unfolding layout kind_layout print bytes_of write_string
returns-in-Finale c =
    arm c.in-Finale.is c.with_string-in-Finale.ensures (λ x t f i a. rw (string_inside t f i c.in-Finale.t (allows→ (layout x) _ a).2.0))

pub returns-in-Cutscene : goal.returns-in-Cutscene
unfolding layout kind_layout print bytes_of write_string
returns-in-Cutscene c =
    arm c.in-Cutscene.is c.with_string-in-Cutscene.ensures (λ x t f i a. rw (string_inside t f i c.in-Cutscene.t (allows→ (layout x) _ a).2.0))

pub returns-in-Update : goal.returns-in-Update
returns-in-Update c =
    arm c.in-Update.is refl (λ x t f i a. c.update.ensures t ∙ update-print x c.in-Update.u (allows→ (layout x) _ a))
