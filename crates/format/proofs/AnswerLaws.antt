-- What the entries by place answer, case by case, for code that cites them; places; lent room.
-- Assumes nothing.
use mathlib.Core.Path.{◌≡◌, refl, sym, ap, ◌∙◌, subst}
use mathlib.Core.List.{List, ◌++◌}
use mathlib.Core.Bool.{Bool, true, false, cond, not}
use Prim.Native.Nat.{ℕ, ◌+◌, ◌<◌, ◌≤◌}
use native.Mathlib.Omega.{arith}
use borrow.Author.Tests.{eq-eqb, ne_eqb, lt-ltb, le-ltb}
use lib.Dec.{eqb, ltb}
use lib.ListN.{length, drop, length-append, length-drop}
use Rattle.format.specs.Refusal.{code, cut_message, short_room, wrong_scene}
use Rattle.format.specs.Bytes.{Bytes, Result, found, refused}
use Rattle.format.specs.Codec.{Codec}
use Rattle.format.specs.Answer.{place_in, at_end, refusal, Reply, reply, written, into_room, Item, item_of, item_at}
use Rattle.format.proofs.ResultLaws.{Ranged, suffix_drop, suffix_trans, suffix-length, suffix-place}
use Rattle.format.proofs.ByteLaws.{drop-bytes}
use Rattle.format.proofs.CodecLaws.{Lawful, Taken}

pub place_drop : (input : List ℕ) (place : ℕ) → place ≤ length input → place_in input (drop place input) ≡ place
place_drop input place h = omega (arith, length-drop place input)

-- ---- an item at a place

module _ {S A B : Type 0} (c : Codec S A B) (s : S) (input : List ℕ) (place : ℕ) where
  chosen : Bool → Bool → Bool → Reply S (Item A B)
  chosen bad ended past =
      cond bad (reply s (refusal (code wrong_scene) 0))
      (cond past (reply s (refusal (code cut_message) place))
      (cond ended (reply s at_end) (item_of c s input (c.read s (drop place input)))))

  chosen_is : (bad ended past : Bool) → not (c.in_range s) ≡ bad → eqb place (length input) ≡ ended → ltb (length input) place ≡ past
      → item_at c s input place ≡ chosen bad ended past
  unfolding item_at chosen
  chosen_is bad ended past p q r = rw (p, q, r)

  pub item_wrong : c.in_range s ≡ false → item_at c s input place ≡ reply s (refusal (code wrong_scene) 0)
  unfolding chosen
  item_wrong e = chosen_is true (eqb place (length input)) (ltb (length input) place) (ap not e) refl refl

  pub item_end : c.in_range s ≡ true → place ≡ length input → item_at c s input place ≡ reply s at_end
  unfolding chosen
  item_end e h = chosen_is false true false (ap not e) (eq-eqb place (length input) h) (le-ltb (length input) place (omega arith))

  pub item_past : c.in_range s ≡ true → length input < place → item_at c s input place ≡ reply s (refusal (code cut_message) place)
  unfolding chosen
  item_past e h = chosen_is false false true (ap not e) (ne_eqb place (length input) (λ q. omega arith)) (lt-ltb (length input) place h)

  pub item-at : c.in_range s ≡ true → place < length input → item_at c s input place ≡ item_of c s input (c.read s (drop place input))
  unfolding chosen
  item-at e h = chosen_is false false false (ap not e) (ne_eqb place (length input) (λ q. omega arith))
      (le-ltb (length input) place (omega arith))

  -- An item that is found ends at the next place: it moves on by its bytes, at least one, and stays within the input.
  pub item-next : (Good : S → A → Type 0) {L : ℕ → Bool} → Lawful c Good L → Bytes input → place ≤ length input → (v : A) (rest : List ℕ)
      → c.read s (drop place input) ≡ found v rest
      → (place_in input rest ≡ place + length (c.write s v)) × (place < place_in input rest) × (place_in input rest ≤ length input)
      × (drop (place_in input rest) input ≡ rest)
  item-next Good law h l v rest e =
      let t : Taken c Good s (drop place input) v rest = law.sound s (drop place input) v rest (drop-bytes place input h) e in
      let n = length-append (c.write s v) rest in
      let d = length-drop place input in
      let q : length (c.write s v ++ rest) ≡ length (drop place input) = ap length t.tiles in
      let some = law.some s v t.good in
      let p : place_in input rest ≡ place + length (c.write s v) = omega arith in (
        p,
        omega arith,
        omega arith,
        ap (λ (k : ℕ). drop k input) p ∙ sym (lib.Seq.drop-drop (length (c.write s v)) place input)
            ∙ ap (drop (length (c.write s v))) (sym t.tiles)
            ∙ lib.Seq.drop-append_seam (c.write s v) rest,
      )

  -- A refusal's number is one of the format's, and its place is not before the asked one, within the input, and that of what is left.
  pub item_refused_lem : (Good : S → A → Type 0) {L : ℕ → Bool} → Lawful c Good L → Bytes input → place ≤ length input → (n : ℕ)
      (left : List ℕ)
      → c.read s (drop place input) ≡ refused n left
      → (1 ≤ n) × (L n ≡ true) × (place ≤ place_in input left) × (place_in input left ≤ length input) × (drop (place_in input left) input ≡ left)
  item_refused_lem Good {L} law h l n left e =
      let r : Ranged {A = A} L (drop place input) (refused n left) =
      subst (λ (q : Result A). Ranged L (drop place input) q) e (law.ranged s (drop place input) (drop-bytes place input h)) in
      let shorter = suffix-length left (drop place input) r.2 in
      (r.0, r.1, omega (arith, length-drop place input), omega arith, suffix-place left input (suffix_trans left (drop place input) input r.2 (suffix_drop place input)))

pub room_enough : {S A : Type 0} (s : S) (r : Reply S A) (bytes room : List ℕ) → length bytes ≤ length room
    → into_room s r bytes room ≡ written r (bytes ++ drop (length bytes) room)
room_enough s r bytes room h = rw (le-ltb (length room) (length bytes) h)

pub room-short : {S A : Type 0} (s : S) (r : Reply S A) (bytes room : List ℕ) → length room < length bytes
    → into_room s r bytes room ≡ written (reply s (refusal (code short_room) (length bytes))) room
room-short s r bytes room h = rw (lt-ltb (length room) (length bytes) h)
