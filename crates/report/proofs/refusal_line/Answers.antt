-- `report::refusal_line` meets its contract: the parts stored one after the other are the line, all of it has room, and zeros are behind it.
use mathlib.Core.Path.{refl}
use mathlib.Core.List.{[], ◌∷◌}
use borrow.Author.Rules.{rules}
use lib.ListN.{replicate}
use Rattle.format.specs.Digits.{line_feed}
use Rattle.report.specs.Lines.{refused_text, at_text, decimal_text, refusal_line, line_room}
use Rattle.report.proofs.RoomLaws.{stored_none, stored_more, stored_all}
use Rattle.report.proofs.refusal_line.Goals as goal

pub returns : goal.returns
unfolding refusal_line
returns c =
    let a = c.args in
    let s0 = stored_more (stored_none (replicate line_room 0)) _ refused_text _ c.put_text-number.ensures.put c.put_text-number.ensures.next in
    let s1 = stored_more s0 _ (decimal_text a.refusal) _
    (rw c.from.ensures at c.put_number-word.ensures.put) (rw c.from.ensures at c.put_number-word.ensures.next) in
    let s2 = stored_more s1 _ at_text _ c.put_text-at.ensures.put c.put_text-at.ensures.next in
    let s3 = stored_more s2 _ (decimal_text a.place) _ c.put_number-end.ensures.put c.put_number-end.ensures.next in
    let s4 = stored_more s3 _ (line_feed ∷ []) _ c.put_text-len.ensures.put c.put_text-len.ensures.next in record { value = stored_all s4 (search rules) _ refl refl; within = search rules }
