-- `dem_recordings::normal_block_at` meets its contract: what is asked first, then a run that writes at most one block.
use mathlib.Core.Path.{◌≡◌}
use mathlib.Core.Bool.{true}
use Prim.Native.Nat.{ℕ, ◌<◌, ◌≤◌}
use native.Mathlib.Omega.{arith}
use lib.ListN.{length}
use Rattle.format.specs.Bytes.{Bytes}
use Rattle.dem.specs.Scene.{in_range}
use Rattle.format.proofs.ByteLaws.{bytes_of}
use Rattle.dem_scene.specs.Views.{scene_of}
use Rattle.dem_messages.proofs.Asked.{asked-ok}
use Rattle.dem_recordings.proofs.NormalForms.{normal_end, normal-refused, normal-written}
use Rattle.dem_recordings.proofs.normal_block_at.Goals.{Else-at-bytes}
use Rattle.dem_recordings.proofs.normal_block_at.Goals as goal

before_end : {m n : ℕ} → (m ≡ n → ⊥) → m ≤ n → m < n
before_end {m} {n} p h = omega arith

-- The scene is in range, and the place before the end.
asked : (c : Else-at-bytes) → (in_range (scene_of c.args.scene) ≡ true) × (c.args.at < length c.args.bytes.now)
asked c =
    let a = asked-ok (in_range (scene_of c.args.scene)) c.args.bytes.now c.args.at c.in_default.ensures.value in
    (a.0, before_end c.if-at-bytes.false a.1)

bytes : (c : Else-at-bytes) → Bytes c.args.bytes.now
bytes c = bytes_of c.args.bytes.now (λ i. (c.type_inv.bytes i).fits)

pub returns-then-at-bytes : goal.returns-then-at-bytes
returns-then-at-bytes c =
    let a = c.args in
    let k = asked-ok (in_range (scene_of a.scene)) a.bytes.now a.at c.in_default.ensures.value in
    normal_end (scene_of a.scene) a.bytes.now a.at a.room.now k.0 c.if-at-bytes.true

pub returns-in-Some : goal.returns-in-Some
returns-in-Some c =
    let a = c.args in
    let e = (goal.at.returns-in-Some c).Else-at-bytes in
    let w = c.write_blocks-w in
    normal-refused (scene_of a.scene) a.bytes.now a.at a.room.now (bytes e) (asked e).0 (asked e).1 w.result w.new.out w.ensures c.in-Some.r c.in-Some.is

pub returns : goal.returns
returns c =
    let a = c.args in
    let e = (goal.at.returns c).Else-at-bytes in
    let w = c.write_blocks-w in
    normal-written (scene_of a.scene) a.bytes.now a.at a.room.now (bytes e) (asked e).0 (asked e).1 w.result w.new.out w.ensures c.in_default-refused.is
