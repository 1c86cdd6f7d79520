-- `dem_writer::update` meets its contract: each piece has the bytes of its field; the number and the byte behind it make one mask.
use mathlib.Core.Path.{◌≡◌, ap, ap₂, ◌∙◌}
use Prim.Native.Nat.{suc}
use mathlib.Core.Bool.{cond}
use mathlib.Core.List.{◌++◌}
use Rattle.format.specs.Bytes.{le_write, bit, bit_of}
use Rattle.format.specs.Layout.{print, tail}
use Rattle.format.specs.Masked.{Mask}
use borrow.Author.Rules.{rules}
use mir.Syntax.{w8, w16}
use Rattle.dem.specs.Scene.{zero_baseline}
use Rattle.dem.specs.Message.{update_mask, update_slots, update_layout, high_bit, wide_bit}
use Rattle.dem.proofs.UpdateLaws.{update_mask_lem}
use Rattle.dem_types.specs.Values.{update_values}
use Rattle.dem_writer.specs.Bytes.{number_piece, bytes_of}
use Rattle.dem_writer.proofs.PrintLaws.{bits_of, prints-done, prints-field, prints-behind, prints-slots}
use Rattle.dem_writer.proofs.update.Goals as goal

pub returns : goal.returns
returns c t =
    let u = c.args.u in
    let same : bit c.mask-mask.result ≡ update_mask u.number u.high =
    ap bit c.mask-mask.ensures ∙ update_mask_lem u.high u.number c.well_formed.0.1.1.0.1 in
    let wide = c.entity_width.ensures ∙ ap (λ (mask : Mask). suc (bit_of (mask wide_bit))) same in
    let all : bytes_of t _ ≡ le_write 1 u.number ++ print (update_layout u.number) (tail (update_values u)) =
    prints-behind c.number_of.ensures
    (prints-field (c.sent.ensures ∙ ap (λ (mask : Mask). number_piece (cond (mask high_bit) 1 0) u.high) same)
    (prints-field (c.number.ensures ∙ ap₂ number_piece wide c.from.ensures)
    (prints-slots (update_slots zero_baseline) same
    (prints-field c.sent-2.ensures
    (prints-field c.sent-3.ensures
    (prints-field c.sent-4.ensures
    (prints-field c.sent-5.ensures
    (prints-field c.sent-6.ensures
    (prints-field (bits_of w16 u.pose.x (search rules) c.sent-7.ensures)
    (prints-field (bits_of w8 u.pose.angle0 (search rules) c.sent-8.ensures)
    (prints-field (bits_of w16 u.pose.y (search rules) c.sent-9.ensures)
    (prints-field (bits_of w8 u.pose.angle1 (search rules) c.sent-10.ensures)
    (prints-field (bits_of w16 u.pose.z (search rules) c.sent-11.ensures)
    (prints-field (bits_of w8 u.pose.angle2 (search rules) c.sent-12.ensures)
    prints-done)))))))))))))) in ap (bytes_of t) c.of.ensures ∙ all
