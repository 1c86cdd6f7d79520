-- `dem_direct::supplies_in` meets its contract: its fields follow the slots one by one.
use Prim.Native.Nat.{◌+◌}
use native.Mathlib.Omega.{arith}
use mir.Syntax.{w16}
use Rattle.dem_direct.specs.Spread.{field_or, behind}
use Rattle.dem_direct.proofs.Fields.{handed_on, byte_sent}
use Rattle.dem_direct.proofs.supplies_in.Goals as goal

pub returns : goal.returns
unfolding field_or behind
returns c mask =
    let a = c.args in
    let d = a.d.now in
    let at = a.at in
    let health = handed_on w16 c.load.result c.load.type_inv in
    let ammo = byte_sent d (at + 2) (at + 2) 0 (omega arith) (omega arith) in
    let zero = byte_sent d (at + 3) (at + 2 + 1) 0 (omega arith) (omega arith) in
    let one = byte_sent d (at + 4) (at + 2 + 1 + 1) 0 (omega arith) (omega arith) in
    let two = byte_sent d (at + 5) (at + 2 + 1 + 1 + 1) 0 (omega arith) (omega arith) in
    let three = byte_sent d (at + 6) (at + 2 + 1 + 1 + 1 + 1) 0 (omega arith) (omega arith) in
    let weapon = byte_sent d (at + 7) (at + 2 + 1 + 1 + 1 + 1 + 1) 0 (omega arith) (omega arith) in
    cc
