-- What the promises of the entries that write normal forms say of whole recordings: demand 3, for the bytes that the library writes; and
-- the same bytes by a call for the track line and one for each block, which succeed exactly if one call for all does.
-- Assumes nothing.
use mathlib.Core.Path.{◌≡◌, refl, sym, ap, ap₂, ◌∙◌, subst, subst₂}
use mathlib.Core.Logic.{◌↔◌}
use mathlib.Core.List.{List, ◌++◌}
use mathlib.Core.Bool.{Bool, true, false}
use mathlib.Core.Option.{some}
use Prim.Native.Nat.{ℕ, ◌+◌, ◌<◌, ◌≤◌}
use native.Mathlib.Omega.{arith}
use borrow.Author.Tests.{ltb-true, ltb-false}
use lib.Dec.{ltb}
use lib.ListN.{length, take, drop}
use lib.Seq.{take-append_seam, drop-append_seam}
use Rattle.std.specs.Prelude.{Some, Ok}
use Rattle.format.specs.Bytes.{Bytes, Result, found, refused}
use Rattle.format.specs.Refusals.{number_of}
use Rattle.dem.specs.Scene.{Scene, fresh, in_range}
use Rattle.dem.specs.Recording.{blocks, Recording, Reading, read_recording, fill_recording, reading_of, reading, Accepted, scene_after, normal_form}
use Rattle.dem.specs.Recording.{normal_block}
use Rattle.format.specs.Answer.{place_in, Answer, result, refusal, Reply, reply, Written, written, Normalised}
use Rattle.dem.specs.Answer.{whole_normal}
use Rattle.dem.specs.WellFormed.{GoodBlock}
use Rattle.format.proofs.ResultLaws.{clash}
use Rattle.dem.proofs.BlockLaws.{block_lawful}
use Rattle.dem.proofs.RangeLaws.{fresh_range, block_range}
use Rattle.dem.proofs.RecordingLaws.{NormalForm, normal_form_lem}
use Rattle.format.proofs.AnswerLaws.{room_enough, room-short}
use Rattle.dem.proofs.AnswerLaws.{normal_accepted, normal-refused}
use Rattle.format.proofs.NormalCallLaws.{WroteItem, normal_end-told, normal-refusal-told, normal-found-told, AllWritten, NoneWritten, written_end}
use Rattle.format.proofs.NormalCallLaws.{none_written, written_first, none-behind}
use Rattle.dem.proofs.NormalCallLaws.{NormalWritten, NormalUnwritten, normal-written, normal_unwritten, normal-track_within, normal_no-track}
use Rattle.dem_scene.specs.declared.Scene.{Scene as Held}
use Rattle.dem_scene.specs.Views.{scene_of}
use Rattle.dem_messages.specs.declared.Normal.{Normal}
use Rattle.dem_messages.specs.declared.Reply.{Reply as Answered}
use Rattle.dem_messages.specs.Replies.{count_of, written_of, normalised_of}
use Rattle.cobbrundle.specs.Calls.{Outcome, to_end, to_refusal, WritesBlock, NormalCalls, no_form, form_refused, next_form}
use Rattle.cobbrundle.specs.Calls.{NormalRecordingCalls, line_refused, behind_line}

abbrev count_of_lem : Written Scene ℕ → Answer ℕ
count_of_lem w = w.answer

abbrev room_of : Written Scene ℕ → List ℕ
room_of w = w.room

abbrev scene_of_lem : Written Scene ℕ → Scene
scene_of_lem w = w.scene

-- ---- whole recordings: demand 3

-- Of n bytes that were written of a recording: they are accepted with its reading, are its normal form and their own, are the normal form of
-- another accepted recording exactly if their readings are equal, and no bytes with that reading are fewer; the room behind them stays.
pub record WrittenNormal (r room : List ℕ) (to : Scene) (out : List ℕ) (n : ℕ) : Type 0 where
  pub reads : Reading
  pub accepted : reading r ≡ some reads
  pub bytes : Bytes (take n out)
  pub size : length (take n out) ≡ n
  pub same : reading (take n out) ≡ some reads
  pub normal : take n out ≡ normal_form r
  pub own : normal_form (take n out) ≡ take n out
  pub unique : (r₂ : List ℕ) (R₂ : Reading) → Bytes r₂ → reading r₂ ≡ some R₂ → (take n out ≡ normal_form r₂) ↔ (reads ≡ R₂)
  pub least : (r₂ : List ℕ) → Bytes r₂ → reading r₂ ≡ some reads → n ≤ length r₂
  pub behind : drop n out ≡ drop n room
  pub scene : to ≡ scene_after reads

-- Of any answer that meets the contract. `wrote`: what it wrote; the others: when it writes, and what it answers else.
pub record NormalRecording (r room : List ℕ) (a : Answered ℕ) (out : List ℕ) : Type 0 where
  pub wrote : (n : ℕ) → count_of a.answer ≡ result n → WrittenNormal r room (scene_of a.scene) out n
  pub enough : (R : Reading) → reading r ≡ some R → length (normal_form r) ≤ length room → count_of a.answer ≡ result (length (normal_form r))
  pub short : (R : Reading) → reading r ≡ some R → length room < length (normal_form r)
      → written_of a out ≡ written (reply fresh (refusal 12 (length (normal_form r)))) room
  pub refuses : (n : ℕ) (left : List ℕ) → read_recording r ≡ refused n left → written_of a out ≡ written (reply fresh (refusal n (place_in r left))) room

module _ (r room : List ℕ) (h : Bytes r) (a : Answered ℕ) (out : List ℕ) (contract : written_of a out ≡ whole_normal r room) where
  module _ (R : Reading) (e : reading r ≡ some R) where
    abbrev told : Reply Scene ℕ
    told = reply (scene_after R) (result (length (normal_form r)))

    enough_of : length (normal_form r) ≤ length room → written_of a out ≡ written told (normal_form r ++ drop (length (normal_form r)) room)
    enough_of l = contract ∙ normal_accepted r R room e ∙ room_enough fresh told (normal_form r) room l

    short_of : length room < length (normal_form r) → written_of a out ≡ written (reply fresh (refusal 12 (length (normal_form r)))) room
    short_of l = contract ∙ normal_accepted r R room e ∙ room-short fresh told (normal_form r) room l

    in-room : (n : ℕ) → count_of a.answer ≡ result n → written_of a out ≡ written told (normal_form r ++ drop (length (normal_form r)) room)
        → WrittenNormal r room (scene_of a.scene) out n
    in-room n c x =
        let k : NormalForm r R = normal_form_lem r R h e in
        let count : ◌≡◌ {A = Answer ℕ} (result n) (result (length (normal_form r))) = sym c ∙ ap count_of_lem x in
        let m : n ≡ length (normal_form r) = cc in
        let front : take n out ≡ normal_form r = ap₂ take m (ap room_of x) ∙ take-append_seam (normal_form r) (drop (length (normal_form r)) room) in
        record {
          reads = R;
          accepted = e;
          bytes = subst Bytes (sym front) k.bytes;
          size = ap length front ∙ sym m;
          same = ap reading front ∙ k.same;
          normal = front;
          own = ap normal_form front ∙ k.own ∙ sym front;
          unique = λ r₂ R₂ h₂ e₂. (λ q. (k.unique r₂ R₂ h₂ e₂).0 (sym front ∙ q), λ q. front ∙ (k.unique r₂ R₂ h₂ e₂).1 q);
          least = λ r₂ h₂ e₂. omega (arith, m, k.least r₂ h₂ e₂);
          behind = ap₂ drop m (ap room_of x) ∙ drop-append_seam (normal_form r) (drop (length (normal_form r)) room) ∙ ap (λ (j : ℕ). drop j room) (sym m);
          scene = ap scene_of_lem x;
        }

    accepted_of : (n : ℕ) → count_of a.answer ≡ result n → WrittenNormal r room (scene_of a.scene) out n
    accepted_of n c = go (ltb (length room) (length (normal_form r))) refl
      where
        go : (b : Bool) → ltb (length room) (length (normal_form r)) ≡ b → WrittenNormal r room (scene_of a.scene) out n
        go true t =
            let x : ◌≡◌ {A = Answer ℕ} (result n) (refusal 12 (length (normal_form r))) = sym c ∙ ap count_of_lem (short_of (ltb-true _ _ t)) in
            clash (cc)
        go false t = in-room n c (enough_of (ltb-false _ _ t))

  refused_of : (n : ℕ) (left : List ℕ) → read_recording r ≡ refused n left → written_of a out ≡ written (reply fresh (refusal n (place_in r left))) room
  refused_of n left e = contract ∙ normal-refused r n left room e

  written_of_lem : (n : ℕ) → count_of a.answer ≡ result n → WrittenNormal r room (scene_of a.scene) out n
  unfolding reading
  written_of_lem n c = go (read_recording r) refl
    where
      go : (q : Result Recording) → read_recording r ≡ q → WrittenNormal r room (scene_of a.scene) out n
      go (found v rest) e = accepted_of (fill_recording v) (ap reading_of e) n c
      go (refused k left) e =
          let x : ◌≡◌ {A = Answer ℕ} (result n) (refusal k (place_in r left)) = sym c ∙ ap count_of_lem (refused_of k left e) in
          clash (cc)

  -- What `normal_recording` writes is the normal form of document 01, whenever the recording is accepted and the room is enough for it.
  pub normalised : NormalRecording r room a out
  normalised =
      record {
        wrote = written_of_lem;
        enough = λ R e l. ap count_of_lem (enough_of R e l);
        short = short_of;
        refuses = refused_of;
      }

-- Of two recordings that were written, the bytes are equal exactly if the readings are.
pub equal_exactly : (r r₂ room room₂ : List ℕ) → Bytes r → Bytes r₂ → (a a₂ : Answered ℕ) (out out₂ : List ℕ)
    → written_of a out ≡ whole_normal r room → written_of a₂ out₂ ≡ whole_normal r₂ room₂ → (n n₂ : ℕ) → count_of a.answer ≡ result n
    → count_of a₂.answer ≡ result n₂ → (take n out ≡ take n₂ out₂) ↔ (reading r ≡ reading r₂)
equal_exactly r r₂ room room₂ h h₂ a a₂ out out₂ p p₂ n n₂ c c₂ =
    let w : WrittenNormal r room (scene_of a.scene) out n = (normalised r room h a out p).wrote n c in
    let v : WrittenNormal r₂ room₂ (scene_of a₂.scene) out₂ n₂ = (normalised r₂ room₂ h₂ a₂ out₂ p₂).wrote n₂ c₂ in
    let u = w.unique r₂ v.reads h₂ v.accepted in (
      λ q. w.accepted ∙ ap some (u.0 (q ∙ v.normal)) ∙ sym v.accepted,
      λ q. let x : some w.reads ≡ some v.reads = sym w.accepted ∙ q ∙ v.accepted in
          let y : w.reads ≡ v.reads = cc in
          u.1 y ∙ sym v.normal,
    )

-- ---- by blocks

-- Of a call for the track line and one for each block: they come to the end exactly if the recording is accepted and the room is enough for its
-- normal form. That is then what they write, and the room behind it and the scene are those that one call of `normal_recording` leaves.
pub record ByBlocks (r room : List ℕ) (y : Held) (n : ℕ) (out : List ℕ) (o : Outcome) : Type 0 where
  pub exactly : (o ≡ to_end) ↔ (Accepted r × (length (normal_form r) ≤ length room))
  pub wrote : o ≡ to_end → NormalWritten r room (scene_of y) n out
  pub whole : o ≡ to_end → (a : Answered ℕ) (all : List ℕ) → written_of a all ≡ whole_normal r room
      → (count_of a.answer ≡ result n) × (all ≡ out) × (scene_of a.scene ≡ scene_of y)

module _ (r : List ℕ) (h : Bytes r) where
  -- What the calls say of the blocks from a place on.
  abbrev FormsTold : Outcome → Held → ℕ → List ℕ → Held → ℕ → List ℕ → Type 0
  FormsTold to_end x at room y n out = AllWritten blocks normal_block (scene_of x) (drop at r) room (scene_of y) n out
  FormsTold to_refusal x at room y n out = NoneWritten blocks normal_block (scene_of x) (drop at r) room

  module _ (x y : Held) (at : ℕ) (f : Normal) (room mid : List ℕ) (e : WritesBlock x r at room (Ok (Some f)) y mid) where
    abbrev form : Normalised
    form = normalised_of f

    pub wrote_one : WroteItem blocks normal_block GoodBlock (scene_of x) r at room (scene_of y) form mid
    wrote_one = normal-found-told blocks normal_block (scene_of x) r at room (scene_of y) mid GoodBlock block_lawful h form (sym e)

    one_range : in_range (scene_of x) ≡ true → in_range (scene_of y) ≡ true
    one_range i = ap in_range wrote_one.found.after ∙ block_range (scene_of x) wrote_one.item wrote_one.found.good i

    form-led : (o : Outcome) (z : Held) (n : ℕ) (out : List ℕ) → FormsTold o y f.next (drop f.length mid) z n out
        → FormsTold o x at room z (f.length + n) (take f.length mid ++ out)
    form-led to_end z n out k = written_first blocks normal_block (scene_of x) r at room GoodBlock block_lawful h (scene_of y) form mid wrote_one (scene_of z) n out k
    form-led to_refusal z n out k = none-behind blocks normal_block (scene_of x) r at room GoodBlock block_lawful h (scene_of y) form mid wrote_one k

  forms-told : {x y : Held} {at n : ℕ} {room out : List ℕ} {o : Outcome} → NormalCalls r x at room y n out o → in_range (scene_of x) ≡ true
      → at ≤ length r → FormsTold o x at room y n out
  forms-told (no_form {x} {y} {at} {room} {out} e) i l =
      let k = normal_end-told blocks normal_block (scene_of x) r at room (scene_of y) out (sym e) in
      subst₂ (λ (u : Scene) (z : List ℕ). AllWritten blocks normal_block (scene_of x) (drop at r) room u 0 z) (sym k.1) (sym k.2)
      (written_end blocks normal_block (scene_of x) r at room k.0)
  forms-told (form_refused {x} {y} {at} {room} {out} q e) i l =
      none_written blocks normal_block (scene_of x) r at room GoodBlock block_lawful h
      (normal-refusal-told blocks normal_block (scene_of x) r at room (scene_of y) out i l (number_of q.refusal) q.place (sym e))
  forms-told (next_form {x} {y} {z} {at} {n} {f} {room} {mid} {out} {o} e w) i l =
      form-led x y at f room mid e o z n out (forms-told w (one_range x y at f room mid e i) (wrote_one x y at f room mid e).found.within)

  module _ (room : List ℕ) where
    came_through : (y : Held) (n : ℕ) (out : List ℕ) → NormalWritten r room (scene_of y) n out → ByBlocks r room y n out to_end
    came_through y n out w =
        record {
          exactly = (λ q. ((w.reads, w.accepted), w.fits), λ q. refl);
          wrote = λ q. w;
          whole = λ q a all c.
              let x = enough_of r room h a all c w.reads w.accepted w.fits in (
                ap count_of_lem x ∙ ap result (sym w.size),
                ap room_of x ∙ ap (λ (k : ℕ). normal_form r ++ drop k room) (sym w.size) ∙ sym w.holds,
                ap scene_of_lem x ∙ sym w.scene,
              );
        }

    came-short : (y : Held) (n : ℕ) (out : List ℕ) → NormalUnwritten r room → ByBlocks r room y n out to_refusal
    came-short y n out u =
        record {
          exactly = (λ q. clash (cc), λ q. let z : ⊥ = omega (arith, u q.0.0 q.0.1, q.1) in absurd z);
          wrote = λ q. clash (cc);
          whole = λ q. clash (cc);
        }

    pub by_blocks : {y : Held} {n : ℕ} {out : List ℕ} {o : Outcome} → NormalRecordingCalls r room y n out o → ByBlocks r room y n out o
    by_blocks (line_refused {x} {out} q e f) = came-short x 0 out (normal_no-track r room h (number_of q.refusal) q.place out (sym e))
    by_blocks (behind_line {line} {n} {x} {y} {mid} {out} {o} e f w) =
        go o (forms-told w (ap in_range f ∙ fresh_range) (normal-track_within r room h (normalised_of line) mid (sym e)))
      where
        go : (o : Outcome) → FormsTold o x line.next (drop line.length mid) y n out
            → ByBlocks r room y (line.length + n) (take line.length mid ++ out) o
        go to_end k =
            came_through y (line.length + n) (take line.length mid ++ out)
            (normal-written r room h (normalised_of line) mid (sym e) (scene_of y) n out
            (subst (λ (v : Scene). AllWritten blocks normal_block v (drop line.next r) (drop line.length mid) (scene_of y) n out) f k))
        go to_refusal k =
            came-short y (line.length + n) (take line.length mid ++ out)
            (normal_unwritten r room h (normalised_of line) mid (sym e)
            (subst (λ (v : Scene). NoneWritten blocks normal_block v (drop line.next r) (drop line.length mid)) f k))
