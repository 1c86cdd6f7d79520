-- `strings::text_from` meets its contract. The loop keeps that the bytes passed are neither the string's end nor wrong, and each way out of
-- it says what the whole string is.
use mathlib.Core.Path.{sym, ap, ◌∙◌}
use mathlib.Core.List.{List}
use Prim.Native.Nat.{ℕ, ◌+◌}
use borrow.Author.Tests.{ne_eqb}
use native.Mathlib.Omega.{arith}
use lib.ListN.{drop}
use Rattle.format.specs.Limits.{string_limit}
use Rattle.format.specs.Bytes.{free, found}
use Rattle.format.proofs.AtLaws.{scan_step, scan-found, scan_wrong}
use Rattle.strings.proofs.StringLaws.{scan_out}
use Rattle.strings.proofs.Places.{placed_inside}
use Rattle.strings.proofs.text_from.Goals as goal

pub returns-in-0-clause-value : goal.returns-in-0-clause-value
returns-in-0-clause-value c =
    let s = c.args.s.now in
    let start = c.args.start in
    let len = c.loop-len.len in
    ap (λ (t : List ℕ). found t (drop (start + len + 1) s)) (placed_inside s (record { start = start; len = len }) (omega arith))
    ∙ sym (scan-found s string_limit start free len (omega arith) (omega arith) c.in-0.is c.loop-len.invariant)

pub returns-in-255-clause-value : goal.returns-in-255-clause-value
returns-in-255-clause-value c =
    let s = c.args.s.now in
    sym (scan_wrong s string_limit c.args.start free c.loop-len.len (omega arith) (omega arith) c.in-255.is c.loop-len.invariant)

pub loop-len-preserved : goal.loop-len-preserved
loop-len-preserved c =
    let s = c.args.s.now in
    scan_step s string_limit c.args.start c.loop-len.len (omega arith) (omega arith)
    (ne_eqb _ _ (λ z. omega arith)) (ne_eqb _ _ (λ z. omega arith)) c.loop-len.invariant

pub returns-clause-value : goal.returns-clause-value
returns-clause-value c =
    sym (scan_out c.args.s.now c.args.start c.room_at-room.result c.loop-len.len _ free
    c.room_at-room.ensures.value (omega arith) c.no_zero.ensures c.loop-len.invariant)
