-- Normal forms as code writes them: the track line's, then those of all blocks in the room that a first run of them counted.
-- Assumes nothing.
use mathlib.Core.Path.{◌≡◌, sym, ap, ap₂, ◌∙◌}
use mathlib.Core.List.{List, ◌++◌}
use mathlib.Core.Bool.{Bool, true, cond}
use Prim.Native.Nat.{ℕ, ◌+◌, ◌-◌, ◌<◌, ◌≤◌}
use native.Mathlib.Nat.{le_refl}
use native.Mathlib.Omega.{arith}
use borrow.Author.Tests.{eq-eqb, le-leb, lt-leb}
use lib.IntN.{ℤ, nat_abs}
use lib.ListN.{length, drop, length-append, length-drop}
use lib.Seq.{sets, length-sets}
use mir.Syntax.{w16}
use mir.Val.{to_z, of_z}
use Rattle.std.specs.Prelude.{None, Some, Err}
use Rattle.format.specs.Refusal.{code, short_room}
use Rattle.format.specs.Refusals.{number_of, refusal_in, place_in as place_by}
use Rattle.format.specs.declared.refusal.Refused.{Refused}
use Rattle.format.proofs.RefusalsBack.{number_some}
use Rattle.format.specs.Bytes.{Bytes, found, refused, map_result}
use Rattle.dem.specs.Scene.{Scene, fresh}
use Rattle.format.specs.Codec.{Run, WrittenRun, normal_bytes}
use Rattle.dem.specs.Track.{TrackLine, read_track, track_number, normal_track, write_track}
use Rattle.dem.specs.Recording.{Block, blocks, normal_block}
use Rattle.format.specs.Answer.{place_in, result, refusal, reply, written, into_room}
use Rattle.dem.specs.Answer.{track_normal, whole_normal}
use Rattle.dem.specs.WellFormed.{GoodBlock}
use Rattle.format.proofs.ByteLaws.{drop-bytes}
use Rattle.format.proofs.ListLaws.{sets_append, sets_front}
use Rattle.dem.proofs.TrackLaws.{TrackRead, track-sound, track-normal}
use Rattle.dem.proofs.BlockLaws.{block_lawful, block_normalises}
use Rattle.format.proofs.RunLaws.{run-left}
use Rattle.format.proofs.WrittenLaws.{written-room, written_enough, written-short}
use Rattle.format.proofs.AnswerLaws.{place_drop, room_enough, room-short}
use Rattle.dem.proofs.RewritingLaws.{written_blocks, whole_written, whole-written_accepted, whole-written-refused, whole-normal_by-run}
use Rattle.dem.proofs.RewritingLaws.{whole-normal_by-track, track-normal-at, track-normal-refused}
use Rattle.dem_framing.proofs.NormalLaws.{number_range}
use Rattle.dem_scene.specs.Views.{scene_of}
use Rattle.dem_blocks.specs.Runs.{refused_in, told_of, told_with, answered, Wrote, wrote, wrote_of, stored, put, run_of}
use Rattle.dem_blocks.specs.declared.BlocksAt.{BlocksAt}
use Rattle.dem_blocks.specs.declared.WrittenAt.{WrittenAt}
use Rattle.dem_recordings.specs.Replies.{track_written_of}
use Rattle.dem_recordings.specs.Steps.{from_start}
use Rattle.dem_recordings.proofs.Recordings.{track-refused, track-found, track-number, run-refusal, run-place, run-whole}

-- ---- the track line

-- One that is refused.
module _ (s room : List ℕ) (r : Refused) (l : r.place ≤ length s)
    (q : refused (number_of r.refusal) (drop r.place s) ≡ map_result track_number (read_track s)) where
  read_refused : read_track s ≡ refused (number_of r.refusal) (drop r.place s)
  read_refused = track-refused s (number_of r.refusal) (drop r.place s) q

  pub line_wrong : track_written_of (Err r) room ≡ track_normal s room
  line_wrong =
      sym (track-normal-refused s room (number_of r.refusal) (drop r.place s) read_refused
      ∙ ap (λ (p : ℕ). written (reply tt (refusal (number_of r.refusal) p)) room) (place_drop s r.place l))

  pub recording_wrong : written (from_start (λ (n : ℕ). n) (Err r)) room ≡ whole_normal s room
  recording_wrong =
      sym (whole-normal_by-track s (number_of r.refusal) (drop r.place s) room read_refused
      ∙ ap (λ (p : ℕ). written (reply fresh (refusal (number_of r.refusal) p)) room) (place_drop s r.place l))

-- The normal line of a number, as code hands it on.
abbrev pub line_bytes : ℤ → List ℕ
line_bytes z = write_track (normal_track (to_z w16 (of_z w16 z)))

-- One that is read; then the blocks behind it.
module _ (s : List ℕ) (h : Bytes s) (z : ℤ) (at : ℕ) (q : found z (drop at s) ≡ map_result track_number (read_track s)) (l : at ≤ length s) where
  same_number : to_z w16 (of_z w16 z) ≡ z
  same_number = track-number s h z at q

  pub number_small : nat_abs (to_z w16 (of_z w16 z)) < 1000
  number_small = rw same_number (number_range s z at h q)

  abbrev read_line : (l : TrackLine) × (read_track s ≡ found l (drop at s)) × (track_number l ≡ z)
  read_line = track-found s z (drop at s) q

  abbrev line : TrackLine
  line = read_line.0

  line_is_lem : write_track (normal_track (track_number line)) ≡ line_bytes z
  line_is_lem = ap (λ (n : ℤ). write_track (normal_track n)) (read_line.2 ∙ sym same_number)

  -- The normal line is no longer than the line that was read.
  line-short : length (line_bytes z) + length (drop at s) ≤ length s
  line-short =
      let k : TrackRead s line (drop at s) = track-sound s line (drop at s) h read_line.1 in
      omega (arith, ap length line_is_lem, (track-normal line k.good).short, simp length-append at (ap length k.tiles))

  line-normal : (room : List ℕ)
      → track_normal s room ≡ into_room tt (reply tt (result (record { length = length (line_bytes z); next = at }))) (line_bytes z) room
  line-normal room =
      track-normal-at s room line (drop at s) read_line.1
      ∙ ap₂ (λ (b : List ℕ) (n : ℕ). into_room tt (reply tt (result (record { length = length b; next = n }))) b room) line_is_lem (place_drop s at l)

  pub line-roomless : (room : List ℕ) (n : ℕ) → n ≡ length (line_bytes z) → length room < n
      → written (reply tt (refusal (code short_room) n)) room ≡ track_normal s room
  line-roomless room n e m =
      sym (line-normal room
      ∙ room-short tt (reply tt (result (record { length = length (line_bytes z); next = at }))) (line_bytes z) room (omega (arith, e, m))
      ∙ ap (λ (k : ℕ). written (reply tt (refusal (code short_room) k)) room) (sym e))

  pub line-written : (room out : List ℕ) (n : ℕ) → n ≡ length (line_bytes z) → out ≡ line_bytes z ++ drop (length (line_bytes z)) room → length (line_bytes z) ≤ length room
      → written (reply tt (result (record { length = n; next = at }))) out ≡ track_normal s room
  line-written room out n e put m =
      (λ i. written (reply tt (result (record { length = e i; next = at }))) (put i))
      ∙ sym (line-normal room
      ∙ room_enough tt (reply tt (result (record { length = length (line_bytes z); next = at }))) (line_bytes z) room m)

  -- ---- a first run of the blocks, in room that is never short and never lent: it counts

  module _ (any : ℕ) (enough : length s ≤ any) where
    abbrev counted : WrittenRun Scene Block
    counted = written_blocks (length s) any fresh (drop at s)

    rest-bytes : Bytes (drop at s)
    rest-bytes = drop-bytes at s h

    rest-short : length (drop at s) ≤ any
    rest-short = omega (arith, length-drop at s)

    none_needed : counted.needed ≡ 0
    none_needed = (written_enough blocks GoodBlock block_lawful normal_block block_normalises (length s) any fresh (drop at s) rest-bytes rest-short).0

    by_counted : (room : List ℕ) → whole_normal s room ≡ whole_written s line counted room
    by_counted = whole-normal_by-run s (length s) any h (le_refl (length s)) line (drop at s) read_line.1 rest-short

    -- What a run that wanted no room tells.
    told_counted : (b : BlocksAt) → answered b ≡ told_with fresh (length s) 0 0 counted → answered b ≡ told_of fresh (length s) 0 0 counted.run
    told_counted b p =
        p ∙ ap (λ (x : Bool). cond x (told_of fresh (length s) 0 0 counted.run) (refused_in fresh (0 + length counted.run.items) (length s - length counted.run.rest) counted.run.refusal counted.needed))
        (eq-eqb counted.needed 0 none_needed)

    module _ (room : List ℕ) (longer : length room < any) (w : WrittenAt) (out : List ℕ)
        (p : wrote w out ≡ wrote_of fresh (length s) (stored room 0 any) 0 0 0 0 room (run_of true (length s) any fresh (drop at s))) where
      told : answered w.read ≡ told_of fresh (length s) 0 0 counted.run
      told = told_counted w.read (ap (λ (x : Wrote). x.told) p)

      -- Nothing was stored.
      pub counted-room : out ≡ room
      counted-room =
          ap (λ (x : Wrote). x.room) p
          ∙ ap (λ (x : Bool). put x room (0 + 0) counted.bytes) (lt-leb any (length room - 0) (omega arith))

      counted-size : w.written ≡ length counted.bytes
      counted-size = let x = ap (λ (x : Wrote). x.written) p in omega arith

      -- A normal form is no longer than the recording.
      pub counted-short : length (line_bytes z) + w.written ≤ length s
      counted-short =
          omega (arith, counted-size, line-short, written-short blocks GoodBlock block_lawful normal_block block_normalises (length s) any fresh (drop at s) rest-bytes)

      pub blocks_wrong : (k : Refused) → w.read.refused ≡ Some k → written (reply fresh (refusal (number_of k.refusal) k.place)) out ≡ whole_normal s room
      blocks_wrong k n =
          let e : number_of k.refusal ≡ counted.run.refusal = sym (ap refusal_in n) ∙ run-refusal fresh s w.read counted.run told in
          let j : k.place ≡ place_in s counted.run.left = sym (ap (place_by w.read.next) n) ∙ run-place fresh s w.read counted.run told in
          sym (by_counted room
          ∙ whole-written-refused s line counted room (λ y. number_some k.refusal (e ∙ y))
          ∙ (λ i. written (reply fresh (refusal (sym e i) (sym j i))) (sym counted-room i)))

      module _ (n : w.read.refused ≡ None) (size : ℕ) (m : size ≡ length (line_bytes z)) where
        none-refused : counted.run.refusal ≡ 0
        none-refused = sym (run-refusal fresh s w.read counted.run told) ∙ ap refusal_in n

        sized : length (line_bytes z ++ counted.bytes) ≡ size + w.written
        sized = omega (arith, length-append (line_bytes z) counted.bytes, counted-size)

        accepted : whole_normal s room ≡ into_room fresh (reply counted.run.state (result (size + w.written))) (line_bytes z ++ counted.bytes) room
        accepted =
            let k : length (line_bytes z) + length counted.bytes ≡ size + w.written = omega (arith, counted-size) in
            by_counted room
            ∙ whole-written_accepted s line counted room none-refused
            ∙ ap (λ (l : List ℕ). into_room fresh (reply counted.run.state (result (length l + length counted.bytes))) (l ++ counted.bytes) room) line_is_lem
            ∙ ap (λ (j : ℕ). into_room fresh (reply counted.run.state (result j)) (line_bytes z ++ counted.bytes) room) k

        pub recording-roomless : length out < size + w.written → written (reply fresh (refusal 12 (size + w.written))) out ≡ whole_normal s room
        recording-roomless g =
            sym (accepted
            ∙ room-short fresh (reply counted.run.state (result (size + w.written))) (line_bytes z ++ counted.bytes) room (omega (arith, sized, ap length counted-room))
            ∙ ap₂ (λ (j : ℕ) (l : List ℕ). written (reply fresh (refusal 12 j)) l) sized (sym counted-room))

        -- ---- the second run, behind the line and in the room that was counted: it stores

        module _ (g : size + w.written ≤ length out) (mid : List ℕ) (line-put : mid ≡ line_bytes z ++ drop (length (line_bytes z)) out)
            (v : WrittenAt) (out' : List ℕ)
            (p' : wrote v out' ≡ wrote_of fresh (length s) (stored mid size w.written) size 0 0 0 mid (run_of true (length s) w.written fresh (drop at s))) where
          front : mid ≡ sets room 0 (line_bytes z)
          front =
              line-put
              ∙ ap (λ (l : List ℕ). line_bytes z ++ drop (length (line_bytes z)) l) counted-room
              ∙ sym (sets_front room (line_bytes z) (omega (arith, ap length counted-room)))

          stores : stored mid size w.written ≡ true
          stores = le-leb w.written (length mid - size) (omega (arith, ap length front, length-sets room 0 (line_bytes z), ap length counted-room))

          same-run : written_blocks (length s) w.written fresh (drop at s) ≡ counted
          same-run = written-room blocks (normal_bytes blocks normal_block) (length s) any w.written fresh (drop at s) (omega (arith, counted-size)) none_needed

          again : wrote v out' ≡ wrote_of fresh (length s) true size 0 0 0 mid counted
          again = p' ∙ ap₂ (λ (x : Bool) (y : WrittenRun Scene Block). wrote_of fresh (length s) x size 0 0 0 mid y) stores same-run

          state : scene_of v.read.scene ≡ counted.run.state
          state =
              (run-whole fresh s v.read counted.run (told_counted v.read (ap (λ (x : Wrote). x.told) again)) left).scene
            where
              left : length counted.run.left ≡ length counted.run.rest
              left =
                  let e = (written_enough blocks GoodBlock block_lawful normal_block block_normalises (length s) any fresh (drop at s) rest-bytes rest-short).1 in
                  ap (λ (r : Run Scene Block). length r.left) e
                  ∙ ap length (run-left blocks GoodBlock block_lawful (length s) fresh (drop at s) rest-bytes (sym (ap (λ (r : Run Scene Block). r.refusal) e) ∙ none-refused))
                  ∙ sym (ap (λ (r : Run Scene Block). length r.rest) e)

          filled : out' ≡ (line_bytes z ++ counted.bytes) ++ drop (length (line_bytes z ++ counted.bytes)) room
          filled =
              let k : size + 0 ≡ 0 + length (line_bytes z) = omega arith in
              ap (λ (x : Wrote). x.room) again
              ∙ ap₂ (λ (l : List ℕ) (j : ℕ). sets l j counted.bytes) front k
              ∙ sets_append room 0 (line_bytes z) counted.bytes
              ∙ sets_front room (line_bytes z ++ counted.bytes) (omega (arith, sized, ap length counted-room))

          pub recording-written : written (reply (scene_of v.read.scene) (result (size + w.written))) out' ≡ whole_normal s room
          recording-written =
              sym (accepted
              ∙ room_enough fresh (reply counted.run.state (result (size + w.written))) (line_bytes z ++ counted.bytes) room (omega (arith, sized, ap length counted-room))
              ∙ ap₂ (λ (x : Scene) (l : List ℕ). written (reply x (result (size + w.written))) l) (sym state) (sym filled))
