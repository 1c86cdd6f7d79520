-- With a refusal and at the end, the scene given is handed back; of a whole recording, the scene at the start.
-- Assumes nothing.
use mathlib.Core.List.{List}
use mathlib.Core.Path.{refl}
use Prim.Native.Nat.{ℕ}
use lib.ListN.{length}
use Rattle.format.specs.Bytes.{Result, found, refused}
use Rattle.format.specs.Codec.{normal_bytes}
use Rattle.format.specs.Answer.{Answer, result, at_end, refusal, reply, Item}
use Rattle.dem.specs.Scene.{Scene, fresh}
use Rattle.dem.specs.Message.{Message}
use Rattle.dem.specs.Recording.{messages, Block, blocks, normal_block, Recording, read_recording, fill_recording, scene_after, write_reading}
use Rattle.dem.specs.Answer.{block_at, outline_of, outline_at, has_ended, allows_message, write_sent, messages_in, blocks_at, normal_blocks_at, whole}
use Rattle.dem.specs.Answer.{whole_of, whole_normal, whole_normal_of}
use Rattle.format.proofs.GivenLaws.{GivenBack, Replied, Wrote, room_given, item_given, write_given, items_given, items-written_given}

module _ (s : Scene) where
  pub outline_given : (input : List ℕ) (place : ℕ) → Replied s (outline_at s input place)
  outline_given input place = told (block_at s input place).answer (item_given blocks s input place)
    where
      told : (a : Answer (Item Block Block)) → GivenBack s (block_at s input place).scene a
          → GivenBack s (block_at s input place).scene (outline_of place a)
      told (result i) h = tt
      told at_end h = h
      told (refusal n p) h = h

  pub sent_given : (m : Message) (room : List ℕ) → Wrote s (write_sent s m room)
  sent_given = write_given messages s has_ended allows_message

  pub run_given : (input : List ℕ) (place : ℕ) → Replied s (blocks_at s input place)
  run_given = items_given blocks s messages_in

  pub forms_given : (input : List ℕ) (place : ℕ) (room : List ℕ) → Wrote s (normal_blocks_at s input place room)
  forms_given = items-written_given blocks s messages_in (normal_bytes blocks normal_block)

pub whole_given : (input : List ℕ) → Replied fresh (whole input)
unfolding whole
whole_given input = go (read_recording input)
  where
    go : (q : Result Recording) → Replied fresh (whole_of input q)
    go (found v rest) = tt
    go (refused n left) = refl

pub whole-normal_given : (input room : List ℕ) → Wrote fresh (whole_normal input room)
unfolding whole_normal
whole-normal_given input room = go (read_recording input)
  where
    go : (q : Result Recording) → Wrote fresh (whole_normal_of input room q)
    go (found v rest) =
        let R = fill_recording v in
        room_given fresh (reply (scene_after R) (result (length (write_reading R)))) (write_reading R) room tt
    go (refused n left) = refl
