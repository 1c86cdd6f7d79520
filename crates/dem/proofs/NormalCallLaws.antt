-- Calls that write the normal forms of the track line and of each block write that of an accepted recording exactly if the room is enough
-- for it.
-- Assumes nothing.
use mathlib.Core.Path.{◌≡◌, refl, sym, ap, ap₂, ◌∙◌, subst}
use mathlib.Core.List.{List, ◌++◌, append_assoc}
use mathlib.Core.Bool.{Bool, true, false, cond}
use mathlib.Core.Option.{some}
use Prim.Native.Nat.{ℕ, ◌+◌, ◌-◌, ◌<◌, ◌≤◌}
use native.Mathlib.Omega.{arith}
use borrow.Author.Tests.{ltb-true, ltb-false}
use lib.Dec.{ltb}
use lib.ListN.{length, take, drop, length-append, length-drop}
use lib.Seq.{take-append_seam, drop-append_seam, drop-drop}
use Rattle.format.specs.Refusal.{code, short_room}
use Rattle.format.specs.Bytes.{Bytes, Result, found, refused}
use Rattle.format.specs.Codec.{fill_all, write_normal}
use Rattle.format.specs.Answer.{place_in, Answer, result, refusal, reply, Written, written, Normalised}
use Rattle.dem.specs.Scene.{Scene, fresh}
use Rattle.dem.specs.Track.{TrackLine, read_track, track_number, normal_track, write_track}
use Rattle.dem.specs.Recording.{blocks, Reading, reading, scene_after, normal_of as normal_of_reading, normal_form, write_reading, normal_block}
use Rattle.dem.specs.Answer.{track_normal_of, track_normal}
use Rattle.format.proofs.ResultLaws.{clash}
use Rattle.format.proofs.NormalCallLaws.{AllWritten, NoneWritten, told_of_lem, room_of}
use Rattle.dem.proofs.CallLaws.{behind-track, reading-found, reading_no-track, ReadBlocks, blocks-read}

-- ---- the normal form, by a call for the track line and those for the blocks

-- Of a recording in so much room: its normal form is written, so many bytes, and the scene is the one after it.
pub record NormalWritten (r room : List ℕ) (u : Scene) (n : ℕ) (out : List ℕ) : Type 0 where
  pub reads : Reading
  pub accepted : reading r ≡ some reads
  pub fits : length (normal_form r) ≤ length room
  pub size : n ≡ length (normal_form r)
  pub holds : out ≡ normal_form r ++ drop n room
  pub scene : u ≡ scene_after reads

-- It is refused, or the room is short for it.
abbrev pub NormalUnwritten : List ℕ → List ℕ → Type 0
NormalUnwritten r room = (R : Reading) → reading r ≡ some R → length room < length (normal_form r)

normal_of_lem : (r : List ℕ) (R : Reading) → reading r ≡ some R → normal_form r ≡ write_track (normal_track R.track) ++ write_normal blocks normal_block fresh R.blocks
unfolding normal_form write_reading
normal_of_lem r R e = ap normal_of_reading e

module _ (r room : List ℕ) (h : Bytes r) where
  -- The track line's normal form was written.
  record TrackWritten (z : Normalised) (mid : List ℕ) : Type 0 where
    line : TrackLine
    read : read_track r ≡ found line (drop z.next r)
    within : z.next ≤ length r
    size : z.length ≡ length (write_track (normal_track (track_number line)))
    fits : z.length ≤ length room
    bytes : take z.length mid ≡ write_track (normal_track (track_number line))
    behind : drop z.length mid ≡ drop z.length room

  abbrev line_of : TrackLine → List ℕ
  line_of t = write_track (normal_track (track_number t))

  abbrev line_wrote : TrackLine → List ℕ → Written (Unit {0}) Normalised
  line_wrote t rest =
      written (reply tt (result (record { length = length (line_of t); next = place_in r rest }))) (line_of t ++ drop (length (line_of t)) room)

  abbrev line_short : TrackLine → Written (Unit {0}) Normalised
  line_short t = written (reply tt (refusal (code short_room) (length (line_of t)))) room

  track-written : (z : Normalised) (mid : List ℕ) → track_normal r room ≡ written (reply tt (result z)) mid → TrackWritten z mid
  unfolding track_normal
  track-written z mid = go (read_track r) refl
    where
      go : (q : Result TrackLine) → read_track r ≡ q → track_normal_of r room q ≡ written (reply tt (result z)) mid → TrackWritten z mid
      go (refused k left) e q = let f = ap told_of_lem q in clash (cc)
      go (found t rest) e q = pick (ltb (length room) (length (line_of t))) refl q
        where
          pick : (b : Bool) → ltb (length room) (length (line_of t)) ≡ b → cond b (line_short t) (line_wrote t rest) ≡ written (reply tt (result z)) mid
              → TrackWritten z mid
          pick true w q = let f = ap told_of_lem q in clash (cc)
          pick false w q =
              let y : Normalised = record { length = length (line_of t); next = place_in r rest } in
              let f : ◌≡◌ {A = Answer Normalised} (result y) (result z) = ap told_of_lem q in
              let g : y ≡ z = cc in
              let m : z.length ≡ length (line_of t) = ap (λ (x : Normalised). x.length) (sym g) in
              record {
                line = t;
                read = e ∙ ap (found t) (sym (behind-track r h t rest e).0 ∙ ap (λ (x : Normalised). drop x.next r) g);
                within = subst (λ (x : Normalised). x.next ≤ length r) g (behind-track r h t rest e).1;
                size = m;
                fits = omega (arith, m, ltb-false (length room) (length (line_of t)) w);
                bytes = ap₂ take m (sym (ap room_of q)) ∙ take-append_seam (line_of t) (drop (length (line_of t)) room);
                behind =
                    ap₂ drop m (sym (ap room_of q)) ∙ drop-append_seam (line_of t) (drop (length (line_of t)) room) ∙ ap (λ (k : ℕ). drop k room) (sym m);
              }

  -- The blocks begin within the recording.
  pub normal-track_within : (z : Normalised) (mid : List ℕ) → track_normal r room ≡ written (reply tt (result z)) mid → z.next ≤ length r
  normal-track_within z mid e = (track-written z mid e).within

  -- The normal form of the track line and those of all blocks are written: that of the recording.
  pub normal-written : (z : Normalised) (mid : List ℕ) → track_normal r room ≡ written (reply tt (result z)) mid → (u : Scene) (n : ℕ) (out : List ℕ)
      → AllWritten blocks normal_block fresh (drop z.next r) (drop z.length mid) u n out
      → NormalWritten r room u (z.length + n) (take z.length mid ++ out)
  normal-written z mid e u n out a =
      let w : TrackWritten z mid = track-written z mid e in
      let R : Reading = record { track = track_number w.line; blocks = fill_all blocks fresh a.items } in
      let accepted : reading r ≡ some R = reading-found r w.line (drop z.next r) w.read a.items a.read in
      let tail : List ℕ = write_normal blocks normal_block fresh (fill_all blocks fresh a.items) in
      let form : normal_form r ≡ take z.length mid ++ tail = normal_of_lem r R accepted ∙ ap (λ (l : List ℕ). l ++ tail) (sym w.bytes) in
      let front : length (take z.length mid) ≡ z.length = ap length w.bytes ∙ sym w.size in
      let size : z.length + n ≡ length (normal_form r) = omega (arith, a.size, front, ap length form, length-append (take z.length mid) tail) in
      let left : length (drop z.length mid) ≡ length room - z.length = ap length w.behind ∙ length-drop z.length room in
      record {
        reads = R;
        accepted = accepted;
        fits = omega (arith, size, a.fits, left, w.fits);
        size = size;
        holds =
            ap (λ (l : List ℕ). take z.length mid ++ l)
            (a.holds ∙ ap (λ (l : List ℕ). tail ++ l) (ap (drop n) w.behind ∙ drop-drop n z.length room))
            ∙ sym (append_assoc (take z.length mid) tail (drop (z.length + n) room))
            ∙ ap (λ (l : List ℕ). l ++ drop (z.length + n) room) (sym form);
        scene = a.state;
      }

  -- The blocks are refused, or the room left is short for them.
  pub normal_unwritten : (z : Normalised) (mid : List ℕ) → track_normal r room ≡ written (reply tt (result z)) mid
      → NoneWritten blocks normal_block fresh (drop z.next r) (drop z.length mid) → NormalUnwritten r room
  normal_unwritten z mid e lacks R accepted =
      let w : TrackWritten z mid = track-written z mid e in
      let b : ReadBlocks r w.line (drop z.next r) R = blocks-read r w.line (drop z.next r) h w.read R accepted in
      let tail : List ℕ = write_normal blocks normal_block fresh (fill_all blocks fresh b.items) in
      let form : normal_form r ≡ line_of w.line ++ tail =
      normal_of_lem r R accepted ∙ ap (λ (x : Reading). write_track (normal_track x.track) ++ write_normal blocks normal_block fresh x.blocks) b.is in
      let left : length (drop z.length mid) ≡ length room - z.length = ap length w.behind ∙ length-drop z.length room in
      omega (arith, lacks b.items b.read, ap length form, length-append (line_of w.line) tail, w.size, left, w.fits)

  -- The track line is refused, or the room is short for it.
  pub normal_no-track : (n p : ℕ) (mid : List ℕ) → track_normal r room ≡ written (reply tt (refusal n p)) mid → NormalUnwritten r room
  unfolding track_normal
  normal_no-track n p mid q R accepted = go (read_track r) refl q
    where
      go : (x : Result TrackLine) → read_track r ≡ x → track_normal_of r room x ≡ written (reply tt (refusal n p)) mid → length room < length (normal_form r)
      go (refused k left) e q = let f = sym accepted ∙ reading_no-track r k left e in clash (cc)
      go (found t rest) e q = pick (ltb (length room) (length (line_of t))) refl q
        where
          pick : (b : Bool) → ltb (length room) (length (line_of t)) ≡ b → cond b (line_short t) (line_wrote t rest) ≡ written (reply tt (refusal n p)) mid
              → length room < length (normal_form r)
          pick false w q = let f = ap told_of_lem q in clash (cc)
          pick true w q =
              let b : ReadBlocks r t rest R = blocks-read r t rest h e R accepted in
              let tail : List ℕ = write_normal blocks normal_block fresh R.blocks in
              let form : normal_form r ≡ line_of t ++ tail =
              normal_of_lem r R accepted ∙ ap (λ (x : Reading). write_track (normal_track x.track) ++ tail) b.is in
              omega (arith, ltb-true (length room) (length (line_of t)) w, ap length form, length-append (line_of t) tail)
