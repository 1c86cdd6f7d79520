-- What is told of a run of blocks, and what is written of it.
use Rattle.std.specs.Prelude.{List, [], ◌++◌, Bool, cond, ℕ, ◌+◌, ◌-◌, length, take, drop, leb, eqb}
use Rattle.std.proofs.lemmas.List.Edits.{sets}
use Rattle.format.specs.Bytes.{le_write}
use Rattle.format.specs.Layout.{Value, print}
use Rattle.format.specs.Refusals.{refusal_in, place_in}
use Rattle.dem.specs.Scene.{Scene}
use Rattle.dem.specs.Message.{Message, normal as normal_message}
use Rattle.format.specs.Codec.{Run, WrittenRun, write_most, normal_bytes}
use Rattle.dem.specs.Recording.{Block, angle_layout, messages, blocks, normal_block}
use Rattle.dem.specs.Answer.{count_messages}
use Rattle.dem_scene.specs.Views.{scene_of}
use Rattle.dem_blocks.specs.declared.BlocksAt.{BlocksAt}
use Rattle.dem_blocks.specs.declared.WrittenAt.{WrittenAt}

pub record Told : Type 0 where
  pub scene : Scene
  pub blocks : ℕ
  pub messages : ℕ
  pub next : ℕ
  pub refusal : ℕ
  pub place : ℕ

-- Of a run that was refused inside the block behind these: the scene given, and no messages.
abbrev pub refused_in : Scene → ℕ → ℕ → ℕ → ℕ → Told
refused_in given blocks next refusal place =
    record { scene = given; blocks = blocks; messages = 0; next = next; refusal = refusal; place = place }

-- Of a run in an input of so many bytes, with the number of its blocks and of their messages.
abbrev pub counted_of : Scene → ℕ → Run Scene Block → ℕ → ℕ → Told
counted_of given input r blocks messages =
    let next = input - length r.rest in
    let place = input - length r.left in
    cond (eqb (length r.left) (length r.rest))
    (record { scene = r.state; blocks = blocks; messages = messages; next = next; refusal = r.refusal; place = place })
    (refused_in given blocks next r.refusal place)

-- Of a run in front of which stand so many blocks and messages.
abbrev pub told_of : Scene → ℕ → ℕ → ℕ → Run Scene Block → Told
told_of given input blocks messages r = counted_of given input r (blocks + length r.items) (messages + count_messages r.items)

abbrev pub answered : BlocksAt → Told
answered r =
    record {
      scene = scene_of r.scene;
      blocks = r.blocks;
      messages = r.messages;
      next = r.next;
      refusal = refusal_in r.refused;
      place = place_in r.next r.refused;
    }

-- ---- a run that writes

-- The normal form of a message or a block, where it is to be written.
abbrev pub message_form : Bool → Scene → Message → List ℕ
message_form on s v = cond on (normal_bytes messages normal_message s v) []

abbrev pub block_form : Bool → Scene → Block → List ℕ
block_form on s v = cond on (normal_bytes blocks normal_block s v) []

-- Also how many bytes were written, and what the room holds.
pub record Wrote : Type 0 where
  pub told : Told
  pub written : ℕ
  pub room : List ℕ

-- Where so much room may be filled from a place on: whether the room at hand has it. Else bytes are counted and none is stored.
abbrev pub stored : List ℕ → ℕ → ℕ → Bool
stored out base room = leb room (length out - base)

abbrev pub put : Bool → List ℕ → ℕ → List ℕ → List ℕ
put stores out at bytes = cond stores (sets out at bytes) out

-- Of a block so far: what was put, and then input that is kept as it was read, which is not copied yet.
abbrev pub so_far : Bool → List ℕ → ℕ → List ℕ → ℕ → ℕ → List ℕ
so_far on filled size s kept at = take size filled ++ cond on (take (at - kept) (drop kept s)) []

-- The bytes of a block with these angles and this body, where it is to be written.
abbrev pub block_bytes : Bool → List Value → List ℕ → List ℕ
block_bytes on angles body = cond on (le_write 4 (length body) ++ (print angle_layout angles ++ body)) []

-- Where room is short, it is so behind these blocks: the scene given, and no messages.
abbrev pub told_with : Scene → ℕ → ℕ → ℕ → WrittenRun Scene Block → Told
told_with given input blocks messages w =
    let r = w.run in
    cond (eqb w.needed 0) (told_of given input blocks messages r)
    (refused_in given (blocks + length r.items) (input - length r.rest) r.refusal w.needed)

-- Of a run in front of which so many blocks, messages and bytes of the room stand.
abbrev pub wrote_of : Scene → ℕ → Bool → ℕ → ℕ → ℕ → ℕ → List ℕ → WrittenRun Scene Block → Wrote
wrote_of given input stores base blocks messages written out w =
    record {
      told = told_with given input blocks messages w;
      written = written + length w.bytes;
      room = put stores out (base + written) w.bytes;
    }

abbrev pub run_of : Bool → ℕ → ℕ → Scene → List ℕ → WrittenRun Scene Block
run_of on most room s bs = write_most blocks (block_form on) most room s bs

abbrev pub wrote : WrittenAt → List ℕ → Wrote
wrote r out = record { told = answered r.read; written = r.written; room = out }

-- ---- updates that are loaded whole

-- From each place of a block before this one, 18 bytes of an input of so many follow: the block's end, or 17 before the input's.
abbrev pub loaded_until : ℕ → ℕ → ℕ
loaded_until len end = cond (leb end (len - 17)) end (len - 17)
