-- Calls come to an end: whatever answers them, if each answer meets its promise, there are calls for any bytes as `Calls` has them.
-- Assumes nothing.
use mathlib.Core.Path.{◌≡◌, sym}
use mathlib.Core.List.{List, [], ◌∷◌, ◌++◌}
use Prim.Native.Nat.{ℕ, zero, suc, ◌+◌, ◌-◌, ◌<◌, ◌≤◌, zero-le}
use native.Mathlib.Omega.{arith}
use lib.ListN.{length, take, drop, length-take, length-drop}
use Rattle.std.specs.Prelude.{Option, None, Some, Result, Ok, Err}
use Rattle.format.specs.Bytes.{Bytes}
use Rattle.format.specs.declared.refusal.Refused.{Refused}
use Rattle.dem.specs.Scene.{fresh}
use Rattle.dem.specs.Answer.{track_at, track_normal}
use Rattle.dem.proofs.CallLaws.{track-told}
use Rattle.dem.proofs.NormalCallLaws.{normal-track_within}
use Rattle.dem_scene.specs.declared.Scene.{Scene}
use Rattle.dem_scene.specs.Views.{scene_of}
use Rattle.dem_messages.specs.declared.Found.{Found}
use Rattle.dem_messages.specs.declared.Normal.{Normal}
use Rattle.dem_messages.specs.Replies.{normalised_of}
use Rattle.dem_recordings.specs.declared.Outline.{Outline}
use Rattle.dem_recordings.specs.declared.Track.{Track}
use Rattle.dem_recordings.specs.Replies.{track_answer_of, track_written_of}
use Rattle.cobbrundle.specs.Calls.{Outcome, to_end, to_refusal, ReadsMessage, MessageCall, MessageCalls, no_message, message_refused, next_message}
use Rattle.cobbrundle.specs.Calls.{ReadsBlock, BlockCall, bytes_of, BlockCalls, no_block, block_refused, within_refused, next_block}
use Rattle.cobbrundle.specs.Calls.{RecordingCalls, track_refused, behind_track, WritesBlock, NormalCalls, no_form, form_refused, next_form}
use Rattle.cobbrundle.specs.Calls.{NormalRecordingCalls, line_refused, behind_line}
use Rattle.cobbrundle.proofs.ReadTheorem.{message_moves, inner-bytes, block_moves}
use Rattle.cobbrundle.proofs.NormalTheorems.{wrote_one}

-- What holds at a place if it holds at all places further on, holds.
further : {X : Type 0} (size : ℕ) (P : X → ℕ → Type 0)
    → ((x : X) (at : ℕ) → at ≤ size → ((y : X) (next : ℕ) → at < next → next ≤ size → P y next) → P x at) → (x : X) (at : ℕ) → at ≤ size → P x at
further {X} size P step x at l = go (suc size) x at l (omega arith)
  where
    go : (n : ℕ) (x : X) (at : ℕ) → at ≤ size → size < at + n → P x at
    go zero x at l m = let z : ⊥ = omega arith in absurd z
    go (suc n) x at l m = step x at l (λ y next a b. go n y next b (omega arith))

-- `Holds` is what the answers ask of the scene given and tell of the one handed back, as that code holds it.
module _ (s : List ℕ) (bytes : Bytes s) (Holds : Scene → Type 0) where
  -- An entry that answers every call at a place within its input.
  abbrev pub Answers : {A : Type 0} → (Scene → ℕ → A → Scene → Type 0) → ℕ → Type 0
  Answers {A} Promise size = (x : Scene) → Holds x → (at : ℕ) → at ≤ size → (a : A) × (y : Scene) × Holds y × Promise x at a y

  module _ (message-at : (block : List ℕ) → Bytes block → length block ≤ length s
      → Answers (λ x at a y. ReadsMessage x block at a y) (length block)) where
    abbrev SomeMessages : List ℕ → Scene → ℕ → Type 0
    SomeMessages block x at = (cs : List MessageCall) × (y : Scene) × (o : Outcome) × MessageCalls block x at cs y o

    messages_end : (block : List ℕ) → Bytes block → length block ≤ length s → (x : Scene) (at : ℕ) → at ≤ length block → Holds x
        → SomeMessages block x at
    messages_end block h short =
        further (length block) (λ x at. Holds x → SomeMessages block x at)
        (λ x at l later p. let r = message-at block h short x p at l in go x at later r.0 r.1 r.2 r.3)
      where
        go : (x : Scene) (at : ℕ) → ((y : Scene) (next : ℕ) → at < next → next ≤ length block → Holds y → SomeMessages block y next)
            → (a : Result (Option Found) Refused) (y : Scene) → Holds y → ReadsMessage x block at a y → SomeMessages block x at
        go x at later (Ok None) y p e = ([], y, to_end, no_message e)
        go x at later (Err r) y p e = ([], y, to_refusal, message_refused r e)
        go x at later (Ok (Some f)) y p e =
            let c : MessageCall = record { scene = x; place = at; found = f; after = y } in
            let on = message_moves block h c e in
            let k = later y f.next on.0 on.1 p in
            (c ∷ k.0, k.1, k.2, next_message {c = c} e k.3)

    module _ (block_at : Answers (λ x at a y. ReadsBlock x s at a y) (length s)) where
      abbrev SomeBlocks : Scene → ℕ → Type 0
      SomeBlocks x at = (bs : List BlockCall) × (y : Scene) × (o : Outcome) × BlockCalls s x at bs y o

      blocks_end : (x : Scene) (at : ℕ) → at ≤ length s → Holds x → SomeBlocks x at
      blocks_end =
          further (length s) (λ x at. Holds x → SomeBlocks x at)
          (λ x at l later p. let r = block_at x p at l in go x p at later r.0 r.1 r.2 r.3)
        where
          inside : (x : Scene) → Holds x → (at : ℕ) (o : Outline) (y : Scene) → ReadsBlock x s at (Ok (Some o)) y → SomeMessages (bytes_of s o) x 0
          inside x p at o y e =
              let b : BlockCall = record { scene = x; place = at; outline = o; after = y; messages = []; left = x } in
              let n = length-take (o.next - o.start) (drop o.start s) in
              let short : length (bytes_of s o) ≤ length s = omega (arith, n, length-drop o.start s) in
              messages_end (bytes_of s o) (inner-bytes s bytes b e) short x 0 zero-le p

          behind : (x : Scene) (at : ℕ) (o : Outline) (y : Scene) → ReadsBlock x s at (Ok (Some o)) y → (cs : List MessageCall) (left : Scene)
              (c : Outcome) → MessageCalls (bytes_of s o) x 0 cs left c → SomeBlocks y o.next → SomeBlocks x at
          behind x at o y e cs left to_refusal m k =
              let b : BlockCall = record { scene = x; place = at; outline = o; after = y; messages = cs; left = left } in
              (b ∷ [], left, to_refusal, within_refused {b = b} e m)
          behind x at o y e cs left to_end m k =
              let b : BlockCall = record { scene = x; place = at; outline = o; after = y; messages = cs; left = left } in
              (b ∷ k.0, k.1, k.2, next_block {b = b} e m k.3)

          go : (x : Scene) → Holds x → (at : ℕ) → ((y : Scene) (next : ℕ) → at < next → next ≤ length s → Holds y → SomeBlocks y next)
              → (a : Result (Option Outline) Refused) (y : Scene) → Holds y → ReadsBlock x s at a y → SomeBlocks x at
          go x q at later (Ok None) y p e = ([], y, to_end, no_block e)
          go x q at later (Err r) y p e = ([], y, to_refusal, block_refused r e)
          go x q at later (Ok (Some o)) y p e =
              let b : BlockCall = record { scene = x; place = at; outline = o; after = y; messages = []; left = x } in
              let on = block_moves s bytes b e in
              let m = inside x q at o y e in
              behind x at o y e m.0 m.1 m.2 m.3 (later y o.next on.0 on.1 p)

      -- A recording is walked to an end.
      pub calls_end : (a : Result Track Refused) → track_answer_of a ≡ track_at s → (x : Scene) → Holds x → scene_of x ≡ fresh
          → (bs : List BlockCall) × (y : Scene) × (o : Outcome) × RecordingCalls s a bs y o
      calls_end (Err r) e x h f = ([], x, to_refusal, track_refused e f)
      calls_end (Ok t) e x h f =
          let k = blocks_end x t.next (track-told s bytes t.number t.next (sym e)).3 h in
          (k.0, k.1, k.2, behind_track e f k.3)

  module _ (form-at : (room : List ℕ)
      → Answers {A = Result (Option Normal) Refused × List ℕ} (λ x at a y. WritesBlock x s at room a.0 y a.1) (length s)) where
    abbrev SomeForms : Scene → ℕ → List ℕ → Type 0
    SomeForms x at room = (y : Scene) × (n : ℕ) × (out : List ℕ) × (o : Outcome) × NormalCalls s x at room y n out o

    forms_end : (x : Scene) (at : ℕ) → at ≤ length s → Holds x → (room : List ℕ) → SomeForms x at room
    forms_end =
        further (length s) (λ x at. Holds x → (room : List ℕ) → SomeForms x at room)
        (λ x at l later p room. let r = form-at room x p at l in go x at room later r.0.0 r.0.1 r.1 r.2 r.3)
      where
        go : (x : Scene) (at : ℕ) (room : List ℕ)
            → ((y : Scene) (next : ℕ) → at < next → next ≤ length s → Holds y → (left : List ℕ) → SomeForms y next left)
            → (a : Result (Option Normal) Refused) (out : List ℕ) (y : Scene) → Holds y → WritesBlock x s at room a y out → SomeForms x at room
        go x at room later (Ok None) out y p e = (y, 0, out, to_end, no_form e)
        go x at room later (Err r) out y p e = (y, 0, out, to_refusal, form_refused r e)
        go x at room later (Ok (Some f)) out y p e =
            let w = wrote_one s bytes x y at f room out e in
            let k = later y f.next w.found.on w.found.within p (drop f.length out) in
            (k.0, f.length + k.1, take f.length out ++ k.2, k.3, next_form e k.4)

    -- Its normal form is asked for block by block to an end.
    pub normal_calls_end : (room : List ℕ) (a : Result Normal Refused) (mid : List ℕ) → track_written_of a mid ≡ track_normal s room
        → (x : Scene) → Holds x → scene_of x ≡ fresh → (y : Scene) × (n : ℕ) × (out : List ℕ) × (o : Outcome) × NormalRecordingCalls s room y n out o
    normal_calls_end room (Err r) mid e x h f = (x, 0, mid, to_refusal, line_refused r e f)
    normal_calls_end room (Ok line) mid e x h f =
        let k = forms_end x line.next (normal-track_within s room bytes (normalised_of line) mid (sym e)) h (drop line.length mid) in
        (k.0, line.length + k.1, take line.length mid ++ k.2, k.3, behind_line e f k.4)
