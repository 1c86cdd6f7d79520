-- `dem_framing::put_digits` meets its contract: the end of a line of three digits is the number's, and is stored.
use mathlib.Core.Path.{ap, ◌∙◌}
use mathlib.Core.List.{List}
use Prim.Native.Nat.{ℕ, ◌+◌}
use native.Mathlib.Omega.{arith}
use borrow.Rule.Slice.PartMut.{put_mid}
use lib.ListN.{length}
use Rattle.format.proofs.StoreLaws.{put_mid-sets}
use Rattle.dem.specs.Track.{digits_of, digit_bytes}
use Rattle.dem_framing.proofs.NormalLaws.{digits-most, digits_line}
use Rattle.dem_framing.proofs.put_digits.Goals as goal

pub overflow_sub-line : goal.overflow_sub-line
overflow_sub-line c = omega (arith, c.digit_count.ensures, digits-most c.args.v)

pub slice_bounds-copy_from_slice-end : goal.slice_bounds-copy_from_slice-end
slice_bounds-copy_from_slice-end c =
    let e = digits_line c.args.v c.requires.0 c.digit_count.result _ _ _
    c.digit_count.ensures c.digit.ensures c.digit-2.ensures c.digit-3.ensures in
    omega (arith, c.requires.1, ap length e)

pub returns-clause-put : goal.returns-clause-put
returns-clause-put c =
    let a = c.args in
    let e = digits_line c.args.v c.requires.0 c.digit_count.result _ _ _
    c.digit_count.ensures c.digit.ensures c.digit-2.ensures c.digit-3.ensures in
    ap (put_mid a.at _ a.room.now) (c.copy_from_slice.ensures.after ∙ e)
    ∙ put_mid-sets a.room.now (digit_bytes (digits_of a.v)) a.at _ (omega (arith, ap length e)) c.requires.1

pub returns-clause-next : goal.returns-clause-next
returns-clause-next c =
    let e = digits_line c.args.v c.requires.0 c.digit_count.result _ _ _
    c.digit_count.ensures c.digit.ensures c.digit-2.ensures c.digit-3.ensures in
    ap (λ (l : List ℕ). c.args.at + length l) e
