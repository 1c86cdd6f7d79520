-- `strings::plain_run` meets its contract: the bytes passed are plain, also where the last sixteen begin among those passed before.
use mathlib.Core.Path.{◌≡◌, subst}
use Prim.Native.Nat.{◌+◌, ◌-◌, ◌≤◌}
use borrow.Author.Tests.{leb-true}
use native.Mathlib.Omega.{arith}
use Rattle.format.proofs.LayoutLaws.{and_true}
use Rattle.strings.specs.Scans.{Plain}
use Rattle.strings.proofs.Scans.{plain_join, run_scanned}
use Rattle.strings.proofs.Ends.{ends_none, ends_some}
use Rattle.strings.proofs.plain_run.Goals as goal

-- The bytes before the end that is found.
pub returns-then-ends-ne0 : goal.returns-then-ends-ne0
returns-then-ends-ne0 c =
    let a = c.args in
    let n = c.loop-n.n in
    let p = ends_some a.s.now (a.start + n) 16 16 _ c.sixteen_ends-ends.ensures c.if-ends-ne0.true in
    run_scanned a.s.now _ _ _ c.room_at-room.ensures.value (omega arith, plain_join a.s.now a.start n n _ (omega arith) c.loop-n.invariant.1 p.1)

pub loop-n-preserved : goal.loop-n-preserved
loop-n-preserved c =
    let a = c.args in
    let n = c.loop-n.n in
    let p = ends_none a.s.now (a.start + n) 16 _ c.sixteen_ends-ends.ensures c.if-ends-ne0.false in
    (omega arith, plain_join a.s.now a.start n n 16 (omega arith) c.loop-n.invariant.1 p)

-- The room's last sixteen begin at a byte that is passed or at the next.
pub returns-then-ends-eq0 : goal.returns-then-ends-eq0
returns-then-ends-eq0 c =
    let a = c.args in
    let room = c.room_at-room.result in
    let h : 16 ≤ room = leb-true 16 room (and_true _ _ c.if-room-n.true).0 in
    let e : room - 16 + 16 ≡ room = omega arith in
    let p = ends_none a.s.now (a.start + (room - 16)) 16 _ c.sixteen_ends-ends-then-room-n.ensures c.if-ends-eq0.true in
    let q = plain_join a.s.now a.start c.loop-n.n (room - 16) 16 (omega arith) c.loop-n.invariant.1 p in
    run_scanned a.s.now _ _ _ c.room_at-room.ensures.value (omega arith, subst (Plain a.s.now a.start) e q)

pub returns-then-room-n : goal.returns-then-room-n
returns-then-room-n c =
    let a = c.args in
    let room = c.room_at-room.result in
    let h : 16 ≤ room = leb-true 16 room (and_true _ _ c.if-room-n.true).0 in
    let p = ends_some a.s.now (a.start + (room - 16)) 16 16 _ c.sixteen_ends-ends-then-room-n.ensures c.if-ends-eq0.false in
    run_scanned a.s.now _ _ _ c.room_at-room.ensures.value
    (omega arith, plain_join a.s.now a.start c.loop-n.n (room - 16) _ (omega arith) c.loop-n.invariant.1 p.1)

pub returns : goal.returns
returns c = run_scanned c.args.s.now _ _ _ c.room_at-room.ensures.value c.loop-n.invariant
