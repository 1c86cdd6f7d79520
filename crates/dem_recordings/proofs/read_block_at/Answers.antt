-- `dem_recordings::read_block_at` meets its contract: what is asked first, then a run of at most one block, and its head.
use mathlib.Core.Path.{◌≡◌, refl, sym, ap, ◌∙◌, subst}
use mathlib.Core.Bool.{true}
use Prim.Native.Nat.{ℕ, ◌<◌, ◌≤◌}
use native.Mathlib.Omega.{arith}
use lib.ListN.{length}
use Rattle.std.specs.Result.{IsOk}
use Rattle.format.specs.Bytes.{Bytes}
use Rattle.dem.specs.Scene.{in_range}
use Rattle.dem.specs.Recording.{blocks}
use Rattle.format.proofs.ByteLaws.{bytes_of}
use Rattle.format.proofs.AnswerLaws.{item_end}
use Rattle.dem_framing.specs.Heads.{head_of}
use Rattle.dem_scene.specs.Views.{scene_of}
use Rattle.dem_messages.proofs.Asked.{asked-ok}
use Rattle.dem_recordings.proofs.Recordings.{outlined, outline-refused, head_read, outline-found}
use Rattle.dem_recordings.proofs.read_block_at.Goals.{Else-at-bytes}
use Rattle.dem_recordings.proofs.read_block_at.Goals as goal

before_end : {m n : ℕ} → (m ≡ n → ⊥) → m ≤ n → m < n
before_end {m} {n} p h = omega arith

-- The scene is in range, and the place before the end.
asked : (c : Else-at-bytes) → (in_range (scene_of c.args.scene) ≡ true) × (c.args.at < length c.args.bytes.now)
asked c =
    let a = asked-ok (in_range (scene_of c.args.scene)) c.args.bytes.now c.args.at c.in_default.ensures.value in
    (a.0, before_end c.if-at-bytes.false a.1)

bytes : (c : Else-at-bytes) → Bytes c.args.bytes.now
bytes c = bytes_of c.args.bytes.now (λ i. (c.type_inv.bytes i).fits)

pub returns-then-at-bytes : goal.returns-then-at-bytes
returns-then-at-bytes c =
    let a = c.args in
    let k = asked-ok (in_range (scene_of a.scene)) a.bytes.now a.at c.in_default.ensures.value in
    sym (ap (outlined a.at) (item_end blocks (scene_of a.scene) a.bytes.now a.at k.0 c.if-at-bytes.true))

pub returns-in-Some : goal.returns-in-Some
returns-in-Some c =
    let a = c.args in
    let e = (goal.at.returns-in-Some c).Else-at-bytes in
    let b = c.read_blocks-b in
    outline-refused (scene_of a.scene) a.bytes.now a.at (bytes e) (asked e).0 b.result (asked e).1 b.ensures c.in-Some.r c.in-Some.is

pub unwrap-h-requires : goal.unwrap-h-requires
unwrap-h-requires c =
    let a = c.args in
    let e = (goal.at.unwrap-h-requires c).Else-at-bytes in
    let b = c.read_blocks-b in
    let h = head_read (scene_of a.scene) a.bytes.now a.at (bytes e) (asked e).0 b.result (asked e).1 b.ensures c.read_head.result c.read_head.ensures.value c.in_default-refused.is in
    subst IsOk (sym h.1) refl

pub returns : goal.returns
returns c =
    let a = c.args in
    let e = (goal.at.returns c).Else-at-bytes in
    let b = c.read_blocks-b in
    outline-found (scene_of a.scene) a.bytes.now a.at (bytes e) (asked e).0 b.result (asked e).1 b.ensures c.unwrap-h.result
    (sym (ap (head_of a.bytes.now a.at) c.unwrap-h.ensures) ∙ c.read_head.ensures.value) c.in_default-refused.is
