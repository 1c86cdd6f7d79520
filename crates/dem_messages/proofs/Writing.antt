-- A message written as sent, by the tests that come before it.
-- Assumes nothing.
use mathlib.Core.Path.{◌≡◌, refl, sym, ap, ◌∙◌, subst}
use mathlib.Core.List.{List, [], ◌∷◌, ◌++◌}
use mathlib.Core.Bool.{Bool, true, false, cond, not}
use mathlib.Core.Logic.{◌⊎◌, inl, inr}
use Prim.Native.Nat.{ℕ, ◌+◌, ◌<◌, ◌≤◌}
use borrow.Author.Tests.{lt-ltb, le-ltb, le-leb}
use lib.Dec.{ltb, leb}
use lib.ListN.{length, drop}
use Rattle.format.specs.Layout.{print, allows}
use Rattle.dem.specs.Scene.{Scene, Context, in_range}
use Rattle.dem.specs.Message.{Message, layout, layout_in, fill, apply}
use Rattle.dem.specs.Recording.{write_message}
use Rattle.format.specs.Answer.{Answer, result, refusal, reply, Written, written, guarded, write_item}
use Rattle.format.specs.Refusals.{number_of}
use Rattle.format.specs.declared.refusal.Refused.{Refused}
use Rattle.std.specs.Prelude.{Err}
use Rattle.dem.specs.Answer.{write_sent}
use Rattle.format.proofs.LayoutLaws.{Allowed, allows→}
use Rattle.wire.specs.declared.Text.{Text}
use Rattle.wire.specs.Reads.{text_in, placed}
use Rattle.dem_types.specs.declared.Message.{Message as Sent}
use Rattle.dem_types.specs.Values.{values_by}
use Rattle.dem_scene.specs.Views.{Numbered}
use Rattle.dem.proofs.ShapeLaws.{update_numbered}
use Rattle.dem_writer.specs.Texts.{TextsOf}
use Rattle.dem_messages.specs.Steps.{write_step}
use Rattle.dem_messages.proofs.Asked.{asked-first}

-- ---- what is allowed

pub placed_texts : (t : List ℕ) → TextsOf t (placed t)
unfolding placed
placed_texts t p = go (leb (p.start + p.len) (length t))
  where
    go : (b : Bool) → (cond b (text_in t p) (0 ∷ []) ≡ text_in t p) ⊎ (cond b (text_in t p) (0 ∷ []) ≡ 0 ∷ [])
    go true = inl refl
    go false = inr refl

pub allowed_numbered : (x : Context) (f : Text → List ℕ) (m : Sent) → allows (layout x) (values_by f m) ≡ true → Numbered m
allowed_numbered x f m a u e =
    le-leb 128 u.number
    (update_numbered x _ _ _ _ _ _ _ _ _ _ _ _ _ u.number
    (subst (λ (k : Sent). Allowed (layout x) (values_by f k)) e (allows→ (layout x) (values_by f m) a)))

-- ---- the answer

abbrev pub done : Scene → ℕ → List ℕ → Written Scene ℕ
done s n room = written (reply s (result n)) room

answered : {s t : Scene} {m n : ℕ} {a b : List ℕ} → s ≡ t → m ≡ n → a ≡ b → done s m a ≡ done t n b
answered p q r = λ i. done (p i) (q i) (r i)

module _ (s : Scene) (m : Message) (room : List ℕ) where
  abbrev bytes : List ℕ
  bytes = write_message s m

  chosen : Bool → Bool → Bool → Bool → Written Scene ℕ
  chosen bad ended wrong short =
      cond bad (written (reply s (refusal 14 0)) room)
      (cond ended (written (reply s (refusal 11 0)) room)
      (cond wrong (written (reply s (refusal 13 0)) room)
      (cond short (written (reply s (refusal 12 (length bytes))) room)
      (written (reply (apply s (fill s m)) (result (length bytes))) (bytes ++ drop (length bytes) room)))))

  chosen_is : (bad ended wrong short : Bool) → not (in_range s) ≡ bad → s.ended ≡ ended → not (allows (layout_in s) m) ≡ wrong
      → ltb (length room) (length bytes) ≡ short → write_sent s m room ≡ chosen bad ended wrong short
  unfolding write_item chosen write_message apply
  chosen_is bad ended wrong short p q r t = rw (p, q, r, t)

  -- What is refused before the message is looked at; any text has a place 0.
  pub asked_write : (text : List ℕ) (r : Refused)
      → ◌≡◌ {A = Answer (Unit {0})} (refusal (number_of r.refusal) r.place) (guarded (in_range s) text 0 refusal (result tt))
      → written (write_step s m (Err r)) room ≡ write_sent s m room
  unfolding write_item
  asked_write text r e =
      asked-first (in_range s) text (λ n p. written (reply s (refusal n p)) room) _ (number_of r.refusal) r.place e

  module _ (r : in_range s ≡ true) where
    pub write-ended : s.ended ≡ true → write_sent s m room ≡ written (reply s (refusal 11 0)) room
    unfolding chosen
    write-ended e = chosen_is false true _ _ (ap not r) e refl refl

    module _ (going : s.ended ≡ false) where
      pub write_unreadable : allows (layout_in s) m ≡ false → write_sent s m room ≡ written (reply s (refusal 13 0)) room
      unfolding chosen
      write_unreadable e = chosen_is false false true _ (ap not r) going (ap not e) refl

      module _ (a : allows (layout_in s) m ≡ true) where
        write-short : length room < length bytes → write_sent s m room ≡ written (reply s (refusal 12 (length bytes))) room
        unfolding chosen
        write-short h = chosen_is false false false true (ap not r) going (ap not a) (lt-ltb (length room) (length bytes) h)

        write_done : length bytes ≤ length room
            → write_sent s m room ≡ written (reply (apply s (fill s m)) (result (length bytes))) (bytes ++ drop (length bytes) room)
        unfolding chosen
        write_done h = chosen_is false false false false (ap not r) going (ap not a) (le-ltb (length room) (length bytes) h)

        -- With the size that was counted.
        pub short-reply : {n : ℕ} → n ≡ length (print (layout_in s) m) → length room < n
            → written (reply s (refusal 12 n)) room ≡ write_sent s m room
        unfolding write_message
        short-reply {n} e h =
            ap (λ (k : ℕ). written (reply s (refusal 12 k)) room) e
            ∙ sym (write-short (subst (λ (k : ℕ). length room < k) e h))

        -- With the bytes that were put.
        pub done-reply : {after : Scene} {n : ℕ} {put room' : List ℕ} → after ≡ apply s (fill s m) → put ≡ print (layout_in s) m
            → n ≡ length put → room' ≡ put ++ drop (length put) room → length (print (layout_in s) m) ≤ length room
            → written (reply after (result n)) room' ≡ write_sent s m room
        unfolding write_message
        done-reply {after} {n} {put} {room'} e p q d h =
            answered e (q ∙ ap length p) (d ∙ ap (λ (bs : List ℕ). bs ++ drop (length bs) room) p) ∙ sym (write_done h)
