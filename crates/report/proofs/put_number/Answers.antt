-- `report::put_number` meets its contract: the digits left, put from the first place on, make the room that is asked for.
use mathlib.Core.Path.{◌≡◌, sym, ap, ◌∙◌}
use Prim.Native.Nat.{ℕ, ◌+◌, ◌-◌}
use native.Mathlib.Omega.{arith}
use lib.ListN.{length}
use lib.Seq.{sets}
use Rattle.report.proofs.DigitLaws.{last_text, last-length, text-last}
use Rattle.report.proofs.RoomLaws.{number_down, number_none}
use Rattle.report.proofs.put_number.Goals as goal

pub loop-k-init : goal.loop-k-init
loop-k-init c =
    let a = c.args in
    let n = c.digit_count.result in
    let e : a.at + n - a.at ≡ n = omega arith in
    ap (λ (k : ℕ). sets a.room.now a.at (last_text k a.v)) e ∙ ap (sets a.room.now a.at) (sym (text-last a.v n c.digit_count.ensures.value))

pub loop-k-preserved : goal.loop-k-preserved
loop-k-preserved c = let l = c.loop-k in number_down l.room c.args.at l.k l.rest (omega arith) ∙ l.invariant

pub returns-clause-put : goal.returns-clause-put
returns-clause-put c = let l = c.loop-k in sym (number_none l.room c.args.at (l.k - c.args.at) l.rest (omega arith)) ∙ l.invariant

pub returns-clause-next : goal.returns-clause-next
returns-clause-next c =
    let a = c.args in
    let n = c.digit_count.result in
    ap (λ (k : ℕ). a.at + k) (sym (ap length (text-last a.v n c.digit_count.ensures.value) ∙ last-length n a.v))
