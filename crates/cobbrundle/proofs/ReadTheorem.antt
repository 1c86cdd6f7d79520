-- Demand 2 for what the entries answer, as one theorem: a recording walked by `read_track`, `read_block_at` and `read_message_at`. The calls hand
-- out its reading, and come to its end exactly if it is well formed; the messages tile their blocks and the blocks the recording; each message
-- does to the scene what document 01 says, and written back by `write_message` is its bytes. Only the entries' promises are cited.
-- Assumes nothing.
use mathlib.Core.Path.{◌≡◌, refl, sym, ap, ap₂, ◌∙◌, subst}
use mathlib.Core.Logic.{◌↔◌}
use mathlib.Core.List.{List, [], ◌∷◌, ◌++◌, map}
use mathlib.Core.Bool.{true}
use mathlib.Core.Option.{none, some}
use Prim.Native.Nat.{ℕ, ◌+◌, ◌-◌, ◌<◌, ◌≤◌, zero-le}
use native.Mathlib.Omega.{arith}
use lib.ListN.{length, take, drop, length-map}
use mir.Syntax.{w32}
use mir.Val.{Val, of_z}
use denote.Laws.{Is}
use denote.Struct.Declared.{row}
use Rattle.std.specs.Prelude.{Option, Some, Result, Ok}
use Rattle.dem.specs.Limits.{head_size}
use Rattle.format.specs.Bytes.{Bytes, found, refused, map_result}
use Rattle.format.specs.declared.refusal.Refused.{Refused}
use Rattle.format.specs.Refusals.{number_of}
use Rattle.dem.specs.Scene.{Scene as Described, fresh, count_marks, in_range}
use Rattle.dem.specs.Message.{Message as Values, fill, apply}
use Rattle.format.specs.Codec.{after, read_all, fill_all, apply_all}
use Rattle.dem.specs.Track.{TrackLine, read_track, track_number}
use Rattle.dem.specs.Recording.{write_message, messages, Block, write_block, fill_block, apply_block, blocks, Recording, recording_of, Reading, reading}
use Rattle.dem.specs.Recording.{scene_after}
use Rattle.dem.specs.WellFormed.{GoodMessage, GoodBlock, WellFormed}
use Rattle.format.specs.Answer.{result, reply, Item}
use Rattle.dem.specs.Answer.{Outline as Told, outline_of as told_of, block_at, write_sent}
use Rattle.format.proofs.ResultLaws.{clash}
use Rattle.format.proofs.ByteLaws.{drop-bytes, take-bytes}
use Rattle.format.proofs.CodecLaws.{after_all}
use Rattle.format.proofs.ReadLaws.{all_complete}
use Rattle.dem.proofs.BlockLaws.{message_lawful, block_lawful}
use Rattle.dem.proofs.RangeLaws.{range→, message_range, fresh_range, block_range}
use Rattle.dem.proofs.RecordingLaws.{accepted_exactly}
use Rattle.dem.proofs.SceneLaws.{Shaped, fresh_shaped, apply_shaped, block_shaped, AfterMessage, message_does}
use Rattle.format.proofs.CallLaws.{FoundItem, end-told, refusal-told, found-told, all_end, all-refused, all_found}
use Rattle.dem.proofs.CallLaws.{outline_end, outline-refused, outline-found, block_body, track-told, track-refusal-told, recording-blocks}
use Rattle.dem.proofs.CallLaws.{reading-found, reading-refused, reading_no-track}
use Rattle.dem_scene.specs.declared.Scene.{Scene}
use Rattle.dem_scene.specs.Views.{baseline_numbers, record_numbers, scene_with, scene_of}
use Rattle.dem_scene.specs.contracts.Scene as SceneType
use Rattle.dem_messages.specs.declared.Found.{Found}
use Rattle.dem_messages.specs.declared.Reply.{Reply}
use Rattle.dem_messages.specs.Replies.{count_of, written_of}
use Rattle.dem_recordings.specs.declared.Track.{Track}
use Rattle.dem_recordings.specs.Replies.{outline_of}
use Rattle.cobbrundle.specs.Calls.{Outcome, to_end, to_refusal, ReadsMessage, MessageCall, MessageCalls, no_message, message_refused, next_message}
use Rattle.cobbrundle.specs.Calls.{ReadsBlock, BlockCall, bytes_of, BlockCalls, no_block, block_refused, within_refused, next_block}
use Rattle.cobbrundle.specs.Calls.{RecordingCalls, track_refused, behind_track, message_sent, message_out, block_sent, block_out, recording_out}
use Rattle.cobbrundle.specs.Calls.{Every, MessagesTile, BlocksTile}
use Rattle.dem_messages.proofs.Messages.{found-reply-at}
use Rattle.dem_messages.proofs.Theorems.{written_back}

-- ---- the statement

-- Of a call that found a message: as sent it is one that the layouts allow in this scene; its bytes are those from its place to the next; it is
-- filled in by document 01's rules; the scene after it is the one that they give, said once more part by part, and keeps the number of its
-- present marks; written back in the same scene, in room that is enough, it is its bytes, and the scene after it the same.
pub record MessageFound (block : List ℕ) (c : MessageCall) : Type 0 where
  pub good : GoodMessage (scene_of c.scene) (message_sent block c)
  pub bytes : take (c.found.next - c.place) (drop c.place block) ≡ write_message (scene_of c.scene) (message_sent block c)
  pub filled : message_out block c ≡ fill (scene_of c.scene) (message_sent block c)
  pub scene : scene_of c.after ≡ apply (scene_of c.scene) (message_out block c)
  pub does : AfterMessage (scene_of c.scene) (message_sent block c) (scene_of c.after)
  pub counted : c.after.present_count ≡ count_marks c.after.present
  pub back : (w : Reply ℕ) (room out : List ℕ) → written_of w out ≡ write_sent (scene_of c.scene) (message_sent block c) room
      → c.found.next - c.place ≤ length room
      → (count_of w.answer ≡ result (c.found.next - c.place))
      × (out ≡ take (c.found.next - c.place) (drop c.place block) ++ drop (c.found.next - c.place) room)
      × (scene_of w.scene ≡ scene_of c.after)

-- Of a call that found a block: its messages are behind its head; the calls for them found as many as were told, which tile them, and lead to
-- the scene that was told, with the number of its present marks; the bytes from its place to the next are those of the block as sent.
pub record BlockFound (s : List ℕ) (b : BlockCall) : Type 0 where
  pub start : b.outline.start ≡ b.place + head_size
  pub good : GoodBlock (scene_of b.scene) (block_sent s b)
  pub bytes : take (b.outline.next - b.place) (drop b.place s) ≡ write_block (scene_of b.scene) (block_sent s b)
  pub count : b.outline.messages ≡ length b.messages
  pub messages : Every (MessageFound (bytes_of s b.outline)) b.messages
  pub tiles : MessagesTile 0 b.messages (length (bytes_of s b.outline))
  pub scene : scene_of b.after ≡ scene_of b.left
  pub counted : b.after.present_count ≡ count_marks b.after.present

-- Of the calls for a recording.
pub record RecordingWalked (s : List ℕ) (a : Result Track Refused) (bs : List BlockCall) (y : Scene) (o : Outcome) : Type 0 where
  -- What they hand out is the reading; there is none exactly if a call refuses.
  pub reads : reading s ≡ recording_out s a bs o
  -- They come to the end exactly if the bytes are well formed, and what they hand out as sent is the recording that has these bytes.
  pub exactly : (o ≡ to_end) ↔ WellFormed s
  pub sent : (w : WellFormed s) → w.recording.blocks ≡ map (block_sent s) bs
  -- The blocks tile what is behind the track line, and lead to the scene after the recording.
  pub tiles : (t : Track) → a ≡ Ok t → o ≡ to_end → BlocksTile t.next bs (length s)
  pub scene : (R : Reading) → reading s ≡ some R → scene_of y ≡ scene_after R
  -- Each call, also before one that refuses.
  pub blocks : Every (BlockFound s) bs

-- ---- the scenes that code holds

-- Owning a scene tells how long its tables are.
pub held_shaped : (x : Scene) (vs : List Val) → Is (row SceneType.the_type) x vs → Shaped (scene_of x)
unfolding scene_with
held_shaped x vs p =
    let f = p.1.1 in
    let rest = f.1.1.1.1.0.1.1 in
    record {
      baselines = length-map x.baselines baseline_numbers ∙ f.0.1.0.1;
      records = length-map x.records record_numbers ∙ f.1.0.1.0.1;
      present = f.1.1.0.1.0.1;
      stats = length-map x.rest.stats (of_z w32) ∙ rest.0.1.0.1;
    }

-- Where it is in range, its number is that of its marks.
held_counted : (x : Scene) → in_range (scene_of x) ≡ true → x.present_count ≡ count_marks x.present
unfolding scene_with
held_counted x r = (range→ (scene_of x) r).count

-- ---- a message

module _ (block : List ℕ) (bytes : Bytes block) (c : MessageCall)
    (read : ReadsMessage c.scene block c.place (Ok (Some c.found)) c.after) where
  abbrev t : Described
  t = scene_of c.scene

  abbrev u : Described
  u = scene_of c.after

  abbrev item : Item Values Values
  item = record { sent = message_sent block c; filled = message_out block c; next = c.found.next }

  abbrev answered : Reply (Option Found)
  answered = record { answer = Ok (Some c.found); scene = c.after }

  found_item : FoundItem messages GoodMessage t block c.place u item
  found_item = found-reply-at t block c.place bytes answered c.found read refl

  -- A call that finds a message moves on, and not past the end: such calls come to an end.
  pub message_moves : (c.place < c.found.next) × (c.found.next ≤ length block)
  message_moves = (found_item.on, found_item.within)

  -- In any scene that has all its entities and stats, as each has that code holds (`held_shaped`).
  pub message-found : Shaped t → MessageFound block c
  message-found h =
      record {
        good = found_item.good;
        bytes = found_item.bytes;
        filled = found_item.filled;
        scene = found_item.after;
        does =
            subst (AfterMessage t item.sent) (sym (found_item.after ∙ ap (apply t) found_item.filled))
            (message_does t item.sent found_item.good found_item.range h);
        counted = held_counted c.after
            (ap in_range (found_item.after ∙ ap (apply t) found_item.filled) ∙ message_range t item.sent found_item.good found_item.range);
        back = written_back c.scene block c.place bytes answered c.found read refl;
      }

-- ---- the messages of a block

record MessagesDone (block : List ℕ) (x : Scene) (at : ℕ) (cs : List MessageCall) (y : Scene) : Type 0 where
  read : read_all messages (scene_of x) (drop at block) ≡ found (map (message_sent block) cs) []
  out : fill_all messages (scene_of x) (map (message_sent block) cs) ≡ map (message_out block) cs
  scene : scene_of y ≡ after_all messages (scene_of x) (map (message_sent block) cs)
  tiles : MessagesTile at cs (length block)

abbrev MessagesTold : Outcome → List ℕ → Scene → ℕ → List MessageCall → Scene → Type 0
MessagesTold to_end block x at cs y = MessagesDone block x at cs y
MessagesTold to_refusal block x at cs y = (n : ℕ) × (left : List ℕ) × (read_all messages (scene_of x) (drop at block) ≡ refused n left)

module _ (block : List ℕ) (bytes : Bytes block) where
  module _ (c : MessageCall) (read : ReadsMessage c.scene block c.place (Ok (Some c.found)) c.after)
      (cs : List MessageCall) (y : Scene) where
    abbrev i : FoundItem messages GoodMessage (scene_of c.scene) block c.place (scene_of c.after) (item block bytes c read)
    i = found_item block bytes c read

    first : read_all messages (scene_of c.scene) (drop c.place block)
        ≡ map_result (λ vs. message_sent block c ∷ vs) (read_all messages (scene_of c.after) (drop c.found.next block))
    first = all_found messages (scene_of c.scene) block c.place GoodMessage message_lawful bytes (scene_of c.after) (item block bytes c read) i

    onward : after messages (scene_of c.scene) (message_sent block c) ≡ scene_of c.after
    onward = ap (apply (scene_of c.scene)) (sym i.filled) ∙ sym i.after

    -- A message in front of the others.
    led : (o : Outcome) → MessagesTold o block c.after c.found.next cs y → MessagesTold o block c.scene c.place (c ∷ cs) y
    unfolding fill_all apply_all
    led to_end d =
        record {
          read = first ∙ ap (map_result (λ vs. message_sent block c ∷ vs)) d.read;
          out =
              ap₂ (λ (f : Values) (v : Described). f ∷ fill_all messages v (map (message_sent block) cs)) (sym i.filled) onward
              ∙ ap (λ (fs : List Values). message_out block c ∷ fs) d.out;
          scene = d.scene ∙ ap (λ (v : Described). after_all messages v (map (message_sent block) cs)) (sym onward);
          tiles = (refl, i.on, d.tiles);
        }
    led to_refusal d = (d.0, d.1, first ∙ ap (map_result (λ vs. message_sent block c ∷ vs)) d.2)

  messages-told : {x y : Scene} {at : ℕ} {cs : List MessageCall} {o : Outcome} → MessageCalls block x at cs y o → in_range (scene_of x) ≡ true
      → Shaped (scene_of x) → at ≤ length block → MessagesTold o block x at cs y × Every (MessageFound block) cs
  unfolding fill_all apply_all
  messages-told (no_message {x} {y} {at} e) r h l =
      let k = end-told messages (scene_of x) block at (scene_of y) (sym e) in
      (record { read = all_end messages (scene_of x) block at k.0; out = refl; scene = k.1; tiles = k.0 }, tt)
  messages-told (message_refused {x} {y} {at} q e) r h l =
      let n : ℕ = number_of q.refusal in
      let k = refusal-told messages (scene_of x) block at (scene_of y) r l n q.place (sym e) in
      ((n, k.1, all-refused messages (scene_of x) block at GoodMessage message_lawful bytes k.0 n k.1 k.2), tt)
  messages-told (next_message {c} {cs} {y} {o} e w) r h l =
      let i = found_item block bytes c e in
      let k : MessageFound block c = message-found block bytes c e h in
      let r' : in_range (scene_of c.after) ≡ true =
      ap in_range (sym (onward c e cs y)) ∙ message_range (scene_of c.scene) (message_sent block c) i.good r in
      let h' : Shaped (scene_of c.after) = subst Shaped (sym k.scene) (apply_shaped (scene_of c.scene) (message_out block c) h) in
      let later = messages-told w r' h' i.within in
      (led c e cs y o later.0, (k, later.1))

-- ---- a block

module _ (s : List ℕ) (bytes : Bytes s) (b : BlockCall) (read : ReadsBlock b.scene s b.place (Ok (Some b.outline)) b.after) where
  abbrev before : Described
  before = scene_of b.scene

  abbrev inner : List ℕ
  inner = bytes_of s b.outline

  told : (i : Item Block Block) × (block_at before s b.place ≡ reply (scene_of b.after) (result i))
      × (told_of b.place (result i) ≡ result (outline_of b.outline))
  told = outline-found before s b.place (scene_of b.after) (outline_of b.outline) (sym read)

  abbrev block : Item Block Block
  block = told.0

  found_block : FoundItem blocks GoodBlock before s b.place (scene_of b.after) block
  found_block = found-told blocks before s b.place (scene_of b.after) GoodBlock block_lawful bytes block told.1

  outlined : ◌≡◌ {A = Told}
      (record { angles = block.sent.angles; start = b.place + head_size; messages = length block.sent.messages; next = block.next })
      (outline_of b.outline)
  outlined = let e = told.2 in (cc)

  next_is : block.next ≡ b.outline.next
  next_is = ap (λ (o : Told). o.next) outlined

  start_is : b.place + head_size ≡ b.outline.start
  start_is = ap (λ (o : Told). o.start) outlined

  -- A call that finds a block moves on, and not past the end.
  pub block_moves : (b.place < b.outline.next) × (b.outline.next ≤ length s)
  block_moves = (omega (arith, found_block.on, next_is), omega (arith, found_block.within, next_is))

  pub inner-bytes : Bytes inner
  inner-bytes = take-bytes (b.outline.next - b.outline.start) (drop b.outline.start s) (drop-bytes b.outline.start s bytes)

  -- The messages of the block are read there.
  inner-read : read_all messages before inner ≡ found block.sent.messages []
  inner-read =
      ap (read_all messages before)
      (ap₂ (λ (n k : ℕ). take (n - k) (drop k s)) (sym next_is) (sym start_is)
      ∙ (block_body before s b.place (scene_of b.after) block found_block).1)
      ∙ all_complete messages GoodMessage message_lawful before block.sent.messages found_block.good.messages

  module _ (d : MessagesDone inner b.scene 0 b.messages b.left) where
    sent_is : map (message_sent inner) b.messages ≡ block.sent.messages
    sent_is = let x : found (map (message_sent inner) b.messages) [] ≡ found block.sent.messages [] = sym d.read ∙ inner-read in (cc)

    block_is : block_sent s b ≡ block.sent
    block_is = λ j. record { angles = ap (λ (o : Told). o.angles) (sym outlined) j; messages = sent_is j }

    block_out_lem : fill_block before (block_sent s b) ≡ block_out s b
    unfolding fill_block
    block_out_lem = λ j. record { angles = (outline_of b.outline).angles; messages = d.out j }

    block-after : after blocks before (block_sent s b) ≡ scene_of b.after
    block-after = ap (after blocks before) block_is ∙ ap (apply_block before) (sym found_block.filled) ∙ sym found_block.after

    messages-after : scene_of b.left ≡ after blocks before (block_sent s b)
    unfolding fill_block apply_block
    messages-after = d.scene

    block-found : Every (MessageFound inner) b.messages → BlockFound s b
    block-found m =
        record {
          start = sym start_is;
          good = subst (GoodBlock before) (sym block_is) found_block.good;
          bytes = ap (λ (n : ℕ). take (n - b.place) (drop b.place s)) (sym next_is) ∙ found_block.bytes ∙ ap (write_block before) (sym block_is);
          count = ap (λ (o : Told). o.messages) (sym outlined) ∙ ap length (sym sent_is) ∙ length-map b.messages (message_sent inner);
          messages = m;
          tiles = d.tiles;
          scene = sym (messages-after ∙ block-after);
          counted = held_counted b.after
              (ap in_range (sym block-after) ∙ block_range before (block_sent s b) (subst (GoodBlock before) (sym block_is) found_block.good) found_block.range);
        }

-- ---- the blocks of a recording

record BlocksDone (s : List ℕ) (x : Scene) (at : ℕ) (bs : List BlockCall) (y : Scene) : Type 0 where
  read : read_all blocks (scene_of x) (drop at s) ≡ found (map (block_sent s) bs) []
  out : fill_all blocks (scene_of x) (map (block_sent s) bs) ≡ map (block_out s) bs
  scene : scene_of y ≡ after_all blocks (scene_of x) (map (block_sent s) bs)
  tiles : BlocksTile at bs (length s)

abbrev BlocksTold : Outcome → List ℕ → Scene → ℕ → List BlockCall → Scene → Type 0
BlocksTold to_end s x at bs y = BlocksDone s x at bs y
BlocksTold to_refusal s x at bs y = (n : ℕ) × (left : List ℕ) × (read_all blocks (scene_of x) (drop at s) ≡ refused n left)

module _ (s : List ℕ) (bytes : Bytes s) where
  module _ (b : BlockCall) (read : ReadsBlock b.scene s b.place (Ok (Some b.outline)) b.after)
      (d : MessagesDone (bytes_of s b.outline) b.scene 0 b.messages b.left) (bs : List BlockCall) (y : Scene) where
    first_block : read_all blocks (scene_of b.scene) (drop b.place s)
        ≡ map_result (λ vs. block_sent s b ∷ vs) (read_all blocks (scene_of b.after) (drop b.outline.next s))
    first_block =
        all_found blocks (scene_of b.scene) s b.place GoodBlock block_lawful bytes (scene_of b.after) (block s bytes b read)
        (found_block s bytes b read)
        ∙ ap₂ (λ (v : Block) (n : ℕ). map_result (λ vs. v ∷ vs) (read_all blocks (scene_of b.after) (drop n s))) (sym (block_is s bytes b read d))
        (next_is s bytes b read)

    -- A block in front of the others.
    block-led : (o : Outcome) → BlocksTold o s b.after b.outline.next bs y → BlocksTold o s b.scene b.place (b ∷ bs) y
    unfolding fill_all apply_all
    block-led to_end k =
        record {
          read = first_block ∙ ap (map_result (λ vs. block_sent s b ∷ vs)) k.read;
          out =
              ap₂ (λ (f : Block) (v : Described). f ∷ fill_all blocks v (map (block_sent s) bs)) (block_out_lem s bytes b read d)
              (block-after s bytes b read d)
              ∙ ap (λ (fs : List Block). block_out s b ∷ fs) k.out;
          scene = k.scene ∙ ap (λ (v : Described). after_all blocks v (map (block_sent s) bs)) (sym (block-after s bytes b read d));
          tiles = (refl, (block_moves s bytes b read).0, k.tiles);
        }
    block-led to_refusal k = (k.0, k.1, first_block ∙ ap (map_result (λ vs. block_sent s b ∷ vs)) k.2)

  blocks-told : {x y : Scene} {at : ℕ} {bs : List BlockCall} {o : Outcome} → BlockCalls s x at bs y o → in_range (scene_of x) ≡ true
      → Shaped (scene_of x) → at ≤ length s → BlocksTold o s x at bs y × Every (BlockFound s) bs
  unfolding fill_all apply_all
  blocks-told (no_block {x} {y} {at} e) r h l =
      let k = end-told blocks (scene_of x) s at (scene_of y) (outline_end (scene_of x) s at (scene_of y) (sym e)) in
      (record { read = all_end blocks (scene_of x) s at k.0; out = refl; scene = k.1; tiles = k.0 }, tt)
  blocks-told (block_refused {x} {y} {at} q e) r h l =
      let n : ℕ = number_of q.refusal in
      let k = refusal-told blocks (scene_of x) s at (scene_of y) r l n q.place (outline-refused (scene_of x) s at (scene_of y) n q.place (sym e)) in
      ((n, k.1, all-refused blocks (scene_of x) s at GoodBlock block_lawful bytes k.0 n k.1 k.2), tt)
  blocks-told (within_refused {b} e m) r h l =
      let k = messages-told (bytes_of s b.outline) (inner-bytes s bytes b e) m r h zero-le in
      let x = sym k.0.2 ∙ inner-read s bytes b e in
      clash (cc)
  blocks-told (next_block {b} {bs} {y} {o} e m w) r h l =
      let k = messages-told (bytes_of s b.outline) (inner-bytes s bytes b e) m r h zero-le in
      let f : BlockFound s b = block-found s bytes b e k.0 k.1 in
      let on : after blocks (scene_of b.scene) (block_sent s b) ≡ scene_of b.after = block-after s bytes b e k.0 in
      let r' : in_range (scene_of b.after) ≡ true = ap in_range (sym on) ∙ block_range (scene_of b.scene) (block_sent s b) f.good r in
      let h' : Shaped (scene_of b.after) = subst Shaped on (block_shaped (scene_of b.scene) (fill_block (scene_of b.scene) (block_sent s b)) h) in
      let later = blocks-told w r' h' (block_moves s bytes b e).1 in
      (block-led b e k.0 bs y o later.0, (f, later.1))

  accepted-ends : (R : Reading) → reading s ≡ some R → (to_end ≡ to_end) ↔ WellFormed s
  accepted-ends R e = (λ q. (accepted_exactly s bytes).exactly.0 (R, e), λ w. refl)

  refused-ends : reading s ≡ none → (to_refusal ≡ to_end) ↔ WellFormed s
  refused-ends e = (λ q. clash (cc), λ w. let z = sym e ∙ (accepted_exactly s bytes).filled w in clash (cc))

  -- ---- DEMAND 2

  -- Of any bytes, and any answers that meet their promises.
  pub recording_walked : {a : Result Track Refused} {bs : List BlockCall} {y : Scene} {o : Outcome} → RecordingCalls s a bs y o
      → RecordingWalked s a bs y o
  recording_walked (track_refused {r} {x} e f) =
      let n : ℕ = number_of r.refusal in
      let k = track-refusal-told s bytes n r.place (sym e) in
      let refuses : reading s ≡ none = reading_no-track s n k.0 k.1 in
      record {
        reads = refuses;
        exactly = refused-ends refuses;
        sent = λ w. clash (cc ((refused-ends refuses).1 w));
        tiles = λ t is q. clash (cc);
        scene = λ R q. let z = sym refuses ∙ q in clash (cc);
        blocks = tt;
      }
  recording_walked (behind_track {t} {x} {y} {bs} {o} e f w) =
      let k = track-told s bytes t.number t.next (sym e) in
      let b = blocks-told w (ap in_range f ∙ fresh_range) (subst Shaped (sym f) fresh_shaped) k.3 in
      found_by t x y bs o k.0 k.1 k.2 f b.0 b.1
    where
      found_by : (t : Track) (x y : Scene) (bs : List BlockCall) (o : Outcome) (line : TrackLine) → read_track s ≡ found line (drop t.next s)
          → track_number line ≡ t.number → scene_of x ≡ fresh → BlocksTold o s x t.next bs y → Every (BlockFound s) bs
          → RecordingWalked s (Ok t) bs y o
      found_by t x y bs to_end line e m f d every =
          let R : Reading = record { track = t.number; blocks = map (block_out s) bs } in
          let all : read_all blocks fresh (drop t.next s) ≡ found (map (block_sent s) bs) [] =
          ap (λ (v : Described). read_all blocks v (drop t.next s)) (sym f) ∙ d.read in
          let reads : reading s ≡ some R =
          reading-found s line (drop t.next s) e (map (block_sent s) bs) all
          ∙ (λ j. some (record { track = m j; blocks = (ap (λ (v : Described). fill_all blocks v (map (block_sent s) bs)) (sym f) ∙ d.out) j })) in
          record {
            reads = reads;
            exactly = accepted-ends R reads;
            sent = λ w. let v = (accepted_exactly s bytes).sent w in let u = recording-blocks s line (drop t.next s) e _ all in
                let z : w.recording ≡ recording_of line (map (block_sent s) bs) = cc in
                ap (λ (r : Recording). r.blocks) z;
            tiles = λ t' is q. let z : t ≡ t' = cc in subst (λ (j : Track). BlocksTile j.next bs (length s)) z d.tiles;
            scene = λ R' q. let z : some R ≡ some R' = sym reads ∙ q in let z' : R ≡ R' = cc in
                d.scene ∙ ap₂ (λ (v : Described) (fs : List Block). apply_all blocks v fs) f d.out ∙ ap scene_after z';
            blocks = every;
          }
      found_by t x y bs to_refusal line e m f d every =
          let refuses : reading s ≡ none =
          reading-refused s line (drop t.next s) e d.0 d.1 (ap (λ (v : Described). read_all blocks v (drop t.next s)) (sym f) ∙ d.2) in
          record {
            reads = refuses;
            exactly = refused-ends refuses;
            sent = λ w. clash (cc ((refused-ends refuses).1 w));
            tiles = λ t' is q. clash (cc);
            scene = λ R q. let z = sym refuses ∙ q in clash (cc);
            blocks = every;
          }
