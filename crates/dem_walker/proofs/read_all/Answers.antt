-- `dem_walker::read_all` meets its contract: before each message, what is left to read in the current scene says what the whole walk is; each message that is found is one more and at least one byte on, so the walk ends.
use mathlib.Core.Path.{ap, ◌∙◌}
use Prim.Native.Nat.{◌+◌, ◌<◌}
use Rattle.std.specs.Prelude.{Ok}
use native.Mathlib.Omega.{arith}
use Rattle.format.proofs.ByteLaws.{bytes_of}
use Rattle.dem_scene.specs.Views.{scene_of}
use Rattle.dem_walker.proofs.Walking.{Going, goes, found_ahead, end-told, refusal-told}
use Rattle.dem_walker.proofs.read_all.Goals as goal

pub loop-found-init : goal.loop-found-init
loop-found-init c = goes (scene_of c.args.scene) c.args.block.now

-- What is left behind a message that is found, which ends at least one byte on.
ahead : (c : goal.After-current-1)
    → Going (scene_of c.args.scene) c.args.block.now (scene_of c.read_message_at-reply.result.scene) c.in-Ok-Some.found.next (c.loop-found.messages + 1)
    × (c.loop-found.at < c.in-Ok-Some.found.next)
ahead c =
    let a = c.args in
    let l = c.loop-found in
    let r = c.read_message_at-reply in
    found_ahead a.scene a.block.now (bytes_of a.block.now (λ i. (c.type_inv.block i).fits)) l.current l.at l.messages l.invariant r.result r.ensures c.in-Ok-Some.found
    (let e = rw c.in-Ok-Some.is at c.in-Ok-Some.field-0-is in c.in-Ok-Some.is ∙ ap Ok e)

pub loop-found-smaller : goal.loop-found-smaller
loop-found-smaller c = let h = ahead c in omega (arith, h.0.within, h.1)

pub loop-found-preserved : goal.loop-found-preserved
loop-found-preserved c = (ahead c).0

pub returns-in-Ok-None : goal.returns-in-Ok-None
returns-in-Ok-None c =
    let a = c.args in
    let l = c.loop-found in
    let r = c.read_message_at-reply in
    end-told a.scene a.block.now (bytes_of a.block.now (λ i. (c.type_inv.block i).fits)) l.current l.at l.messages l.invariant r.result r.ensures
    (let e = rw c.in-Ok-None.is at c.in-Ok-None.field-0-is in c.in-Ok-None.is ∙ ap Ok e)

pub returns-in-Err : goal.returns-in-Err
returns-in-Err c =
    let a = c.args in
    let l = c.loop-found in
    let r = c.read_message_at-reply in
    refusal-told a.scene a.block.now (bytes_of a.block.now (λ i. (c.type_inv.block i).fits)) l.current l.at l.messages l.invariant r.result r.ensures c.in-Err.r c.in-Err.is
