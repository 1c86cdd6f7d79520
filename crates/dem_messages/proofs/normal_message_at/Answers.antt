-- `dem_messages::normal_message_at` meets its contract: what the reader answers, and the message's normal form into the room.
use mathlib.Core.Path.{◌≡◌, ap, ◌∙◌}
use Prim.Native.Nat.{◌-◌, ◌≤◌}
use lib.ListN.{length, take, drop}
use Rattle.std.specs.Prelude.{None, Some, Ok, Err}
use Rattle.format.specs.Bytes.{Bytes}
use Rattle.format.proofs.ByteLaws.{bytes_of}
use Rattle.wire.specs.Reads.{placed}
use Rattle.dem.specs.Recording.{write_message}
use Rattle.dem_types.specs.Values.{values_of}
use Rattle.dem_scene.specs.Views.{scene_of, Numbered}
use Rattle.dem_messages.proofs.Forms.{answered, it, numbered, place_after_lem, formed-told, formed-refused}
use Rattle.dem_messages.proofs.normal_message_at.Goals.{In-Ok-Some}
use Rattle.dem_messages.proofs.normal_message_at.Goals as goal

found-is : (c : In-Ok-Some) → c.read_message_at-read.result.answer ≡ Ok (Some c.in-Ok-Some.found)
found-is c = let e = rw c.in-Ok-Some.is at c.in-Ok-Some.field-0-is in c.in-Ok-Some.is ∙ ap Ok e

bytes : (c : In-Ok-Some) → Bytes c.args.bytes.now
bytes c = bytes_of c.args.bytes.now (λ i. (c.type_inv.bytes i).fits)

-- The message that the reader found ends behind the place, and within the bytes.
behind : (c : In-Ok-Some) → (c.args.at ≤ c.in-Ok-Some.found.next) × (c.in-Ok-Some.found.next ≤ length c.args.bytes.now)
behind c =
    let a = c.args in
    let r = c.read_message_at-read in
    place_after_lem a.scene a.bytes.now a.at a.room.now r.result r.ensures (bytes c) c.in-Ok-Some.found (found-is c)

numbers : (c : In-Ok-Some) → Numbered c.in-Ok-Some.found.message
numbers c =
    let a = c.args in
    let r = c.read_message_at-read in
    numbered a.scene a.bytes.now a.at a.room.now r.result r.ensures (bytes c) c.in-Ok-Some.found (found-is c)

-- The bytes that it was read from are the message's.
sent : (c : In-Ok-Some) → take (c.in-Ok-Some.found.next - c.args.at) (drop c.args.at c.args.bytes.now)
    ≡ write_message (scene_of c.args.scene) (values_of c.args.bytes.now c.in-Ok-Some.found.message)
sent c =
    let a = c.args in
    let r = c.read_message_at-read in
    let i = it a.scene a.bytes.now a.at a.room.now r.result r.ensures (bytes c) c.in-Ok-Some.found (found-is c) in
    i.bytes

pub returns-in-Ok-None : goal.returns-in-Ok-None
returns-in-Ok-None c =
    let a = c.args in
    let r = c.read_message_at-read in
    answered a.scene a.bytes.now a.at a.room.now r.result r.ensures (Ok None) (let e = rw c.in-Ok-None.is at c.in-Ok-None.field-0-is in c.in-Ok-None.is ∙ ap Ok e)

pub returns-in-Err : goal.returns-in-Err
returns-in-Err c =
    let a = c.args in
    let r = c.read_message_at-read in
    answered a.scene a.bytes.now a.at a.room.now r.result r.ensures (Err c.in-Err.r) c.in-Err.is

pub slice_bounds-put_normal-count : goal.slice_bounds-put_normal-count
slice_bounds-put_normal-count c = (behind (goal.at.slice_bounds-put_normal-count c).In-Ok-Some).0

pub slice_bounds-put_normal-start : goal.slice_bounds-put_normal-start
slice_bounds-put_normal-start c = (behind (goal.at.slice_bounds-put_normal-start c).In-Ok-Some).0

pub slice_bounds-put_normal-end : goal.slice_bounds-put_normal-end
slice_bounds-put_normal-end c = (behind (goal.at.slice_bounds-put_normal-end c).In-Ok-Some).1

pub returns-in-Ok : goal.returns-in-Ok
returns-in-Ok c =
    let a = c.args in
    let i = (goal.at.returns-in-Ok c).In-Ok-Some in
    let r = c.read_message_at-read in
    formed-told a.scene a.bytes.now a.at a.room.now r.result r.ensures (bytes i) c.in-Ok-Some.found (found-is i) c.put_normal.new.room c.in-Ok.length
    (c.in-Ok.ensures (placed a.bytes.now) (numbers i) (sent i))

pub returns-in-Err-put_normal : goal.returns-in-Err-put_normal
returns-in-Err-put_normal c =
    let a = c.args in
    let i = (goal.at.returns-in-Err-put_normal c).In-Ok-Some in
    let r = c.read_message_at-read in
    formed-refused a.scene a.bytes.now a.at a.room.now r.result r.ensures (bytes i) c.in-Ok-Some.found (found-is i) c.put_normal.new.room c.in-Err-put_normal.r
    (c.in-Err-put_normal.ensures (placed a.bytes.now) (numbers i) (sent i))
