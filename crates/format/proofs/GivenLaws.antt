-- With a refusal and at the end, the state given is handed back.
-- Assumes nothing.
use mathlib.Core.Path.{◌≡◌, refl}
use mathlib.Core.List.{List}
use mathlib.Core.Bool.{Bool, true, false, cond, not}
use Prim.Native.Nat.{ℕ}
use lib.Dec.{eqb, ltb}
use lib.ListN.{length, drop}
use Rattle.format.specs.Bytes.{Result, found, refused}
use Rattle.format.specs.Codec.{Codec, after}
use Rattle.format.specs.Answer.{Answer, result, at_end, refusal, Reply, reply, Written, into_room, Item, item_of, item_at, normal_of, normal_at}
use Rattle.format.specs.Answer.{write_item, run_at, written_at}

-- The scene u, handed back with an answer, is s unless it is a result.
abbrev pub GivenBack : {S A : Type 0} → S → S → Answer A → Type 0
GivenBack s u (result a) = Unit {0}
GivenBack s u at_end = u ≡ s
GivenBack s u (refusal n p) = u ≡ s

abbrev pub Replied : {S A : Type 0} → S → Reply S A → Type 0
Replied s r = GivenBack s r.scene r.answer

abbrev pub Wrote : {S A : Type 0} → S → Written S A → Type 0
Wrote s w = GivenBack s w.scene w.answer

-- What holds through a view, where the view fixes the two scenes.
pub given_through : {S U A : Type 0} (view : S → U) (s u : S) → (view u ≡ view s → u ≡ s) → (a : Answer A) → GivenBack (view s) (view u) a
    → GivenBack s u a
given_through view s u fixed (result a) g = tt
given_through view s u fixed at_end g = fixed g
given_through view s u fixed (refusal n p) g = fixed g

either : {A : Type 0} (P : A → Type 0) (b : Bool) (x y : A) → P x → P y → P (cond b x y)
either P true x y p q = p
either P false x y p q = q

pub room_given : {S A : Type 0} (s : S) (r : Reply S A) (bytes room : List ℕ) → Replied s r → Wrote s (into_room s r bytes room)
room_given s r bytes room h = either (Wrote s) (ltb (length room) (length bytes)) _ _ refl h

module _ {S A B : Type 0} (c : Codec S A B) (s : S) where
  pub item_given : (input : List ℕ) (place : ℕ) → Replied s (item_at c s input place)
  unfolding item_at
  item_given input place =
      either (Replied s) (not (c.in_range s)) _ _ refl
      (either (Replied s) (ltb (length input) place) _ _ refl
      (either (Replied s) (eqb place (length input)) _ _ refl (go (c.read s (drop place input)))))
    where
      go : (q : Result A) → Replied s (item_of c s input q)
      go (found v rest) = tt
      go (refused n left) = refl

  pub write_given : (ended : S → Bool) (readable : S → A → Bool) (v : A) (room : List ℕ) → Wrote s (write_item c ended readable s v room)
  unfolding write_item
  write_given ended readable v room =
      let bytes = c.write s v in
      either (Wrote s) (not (c.in_range s)) _ _ refl
      (either (Wrote s) (ended s) _ _ refl
      (either (Wrote s) (not (readable s v)) _ _ refl (room_given s (reply (after c s v) (result (length bytes))) bytes room tt)))

  pub items_given : (count : A → ℕ) (input : List ℕ) (place : ℕ) → Replied s (run_at count c s input place)
  unfolding run_at
  items_given count input place = either (Replied s) (not (c.in_range s)) _ _ refl (either (Replied s) (ltb (length input) place) _ _ refl tt)

  pub items-written_given : (count : A → ℕ) (form : S → A → List ℕ) (input : List ℕ) (place : ℕ) (room : List ℕ)
      → Wrote s (written_at count c form s input place room)
  unfolding written_at
  items-written_given count form input place room =
      either (Wrote s) (not (c.in_range s)) _ _ refl (either (Wrote s) (ltb (length input) place) _ _ refl tt)

module _ {S A B : Type 0} (c : Codec S A B) (normal : S → B → A) (s : S) where
  pub form_given : (input : List ℕ) (place : ℕ) (room : List ℕ) → Wrote s (normal_at c normal s input place room)
  unfolding normal_at
  form_given input place room = go (item_at c s input place).answer
    where
      go : (a : Answer (Item A B)) → Wrote s (normal_of c normal s input (item_at c s input place).scene room a)
      go (result i) =
          let bytes = c.write s (normal s i.filled) in
          room_given s (reply (item_at c s input place).scene (result (record { length = length bytes; next = i.next }))) bytes room tt
      go at_end = refl
      go (refusal n p) = refl
