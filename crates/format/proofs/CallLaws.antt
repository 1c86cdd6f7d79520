-- What one answer at a place says of the bytes from there on: an item that is found is the first of those that are read there, and the others
-- are read behind it, in the state that it leaves; "end" and a refusal end the reading.
-- Assumes nothing.
use mathlib.Core.Path.{◌≡◌, refl, sym, ap, ap₂, ◌∙◌, subst}
use mathlib.Core.List.{List, [], ◌∷◌, ◌++◌}
use mathlib.Core.Bool.{Bool, true, false}
use Prim.Native.Nat.{ℕ, ◌+◌, ◌-◌, ◌<◌, ◌≤◌}
use native.Mathlib.Omega.{arith}
use borrow.Author.Tests.{eqb-true, eqb-false, ltb-true, ltb-false}
use lib.Dec.{eqb, ltb}
use lib.ListN.{length, take, drop, length-drop}
use lib.Seq.{drop-length, take-append_seam}
use Rattle.format.specs.Refusal.{code, cut_message, wrong_scene}
use Rattle.format.specs.Bytes.{Bytes, Result, found, refused, map_result, bind}
use Rattle.format.specs.Codec.{Codec, after, read_all, write_most}
use Rattle.format.specs.Answer.{place_in, Answer, result, at_end, refusal, Reply, reply, Item, item_of, item_at}
use Rattle.format.proofs.ResultLaws.{clash}
use Rattle.format.proofs.ByteLaws.{drop-bytes}
use Rattle.format.proofs.CodecLaws.{Lawful, Taken}
use Rattle.format.proofs.ReadLaws.{read_some}
use Rattle.format.proofs.AnswerLaws.{item_wrong, item_end, item_past, item-at, item-next}

-- ---- the ways in which an item at a place is answered

pub data Asked {S A B : Type 0} (c : Codec S A B) (s : S) (input : List ℕ) (place : ℕ) : Reply S (Item A B) → Type 0 where
  asked_wrong : c.in_range s ≡ false → Asked c s input place (reply s (refusal (code wrong_scene) 0))
  asked_end : c.in_range s ≡ true → place ≡ length input → Asked c s input place (reply s at_end)
  asked_past : length input < place → Asked c s input place (reply s (refusal (code cut_message) place))
  asked_found : {v : A} {rest : List ℕ} → c.in_range s ≡ true → place < length input → c.read s (drop place input) ≡ found v rest
      → Asked c s input place (reply (after c s v) (result (record { sent = v; filled = c.fill s v; next = place_in input rest })))
  asked_refused : {n : ℕ} {left : List ℕ} → c.in_range s ≡ true → place < length input → c.read s (drop place input) ≡ refused n left
      → Asked c s input place (reply s (refusal n (place_in input left)))

-- An item that was found: it was read there, the place that is told is the one behind its bytes, and the state after it is the one that
-- it leads to.
pub record FoundItem {S A B : Type 0} (c : Codec S A B) (Good : S → A → Type 0) (s : S) (input : List ℕ) (place : ℕ) (t : S)
    (i : Item A B) : Type 0 where
  pub range : c.in_range s ≡ true
  pub inside : place < length input
  pub read : c.read s (drop place input) ≡ found i.sent (drop i.next input)
  pub good : Good s i.sent
  pub filled : i.filled ≡ c.fill s i.sent
  pub after : t ≡ c.apply s i.filled
  pub tiles : c.write s i.sent ++ drop i.next input ≡ drop place input
  pub bytes : take (i.next - place) (drop place input) ≡ c.write s i.sent
  pub next : i.next ≡ place + length (c.write s i.sent)
  pub on : place < i.next
  pub within : i.next ≤ length input

module _ {S A B : Type 0} (c : Codec S A B) (s : S) (input : List ℕ) (place : ℕ) where
  pub asked : Asked c s input place (item_at c s input place)
  asked = go (c.in_range s) refl (eqb place (length input)) refl (ltb (length input) place) refl
    where
      take_up : c.in_range s ≡ true → place < length input → (q : Result A) → c.read s (drop place input) ≡ q
          → Asked c s input place (item_of c s input q)
      take_up p l (found v rest) e = asked_found p l e
      take_up p l (refused n left) e = asked_refused p l e

      go : (a : Bool) → c.in_range s ≡ a → (b : Bool) → eqb place (length input) ≡ b → (d : Bool) → ltb (length input) place ≡ d
          → Asked c s input place (item_at c s input place)
      go false p b q d w = rw (item_wrong c s input place p) (asked_wrong p)
      go true p true q d w = let h = eqb-true place (length input) q in rw (item_end c s input place p h) (asked_end p h)
      go true p false q true w = let h = ltb-true (length input) place w in rw (item_past c s input place p h) (asked_past h)
      go true p false q false w =
          let h : place < length input = omega (arith, eqb-false place (length input) q, ltb-false (length input) place w) in
          rw (item-at c s input place p h) (take_up p h (c.read s (drop place input)) refl)

-- ---- what an answer tells

abbrev pub answer_of_lem : {S A : Type 0} → Reply S A → Answer A
answer_of_lem r = r.answer

abbrev pub state_of : {S A : Type 0} → Reply S A → S
state_of r = r.scene

module _ {S A B : Type 0} (c : Codec S A B) (s : S) (input : List ℕ) (place : ℕ) (t : S) where
  -- "End" is told at the end, with the state given.
  pub end-told : item_at c s input place ≡ reply t at_end → (place ≡ length input) × (t ≡ s)
  end-told = go (asked c s input place)
    where
      go : {x : Reply S (Item A B)} → Asked c s input place x → x ≡ reply t at_end → (place ≡ length input) × (t ≡ s)
      go (asked_end p e) q = (e, sym (ap state_of q))
      go (asked_wrong p) q = let f = ap answer_of_lem q in clash (cc)
      go (asked_past h) q = let f = ap answer_of_lem q in clash (cc)
      go (asked_found p l e) q = let f = ap answer_of_lem q in clash (cc)
      go (asked_refused p l e) q = let f = ap answer_of_lem q in clash (cc)

  -- A refusal in a state that is in range and at a place within the input: the item there is refused.
  pub refusal-told : c.in_range s ≡ true → place ≤ length input → (n p : ℕ) → item_at c s input place ≡ reply t (refusal n p)
      → (place < length input) × (left : List ℕ) × (c.read s (drop place input) ≡ refused n left)
  refusal-told range l n p = go (asked c s input place)
    where
      go : {x : Reply S (Item A B)} → Asked c s input place x → x ≡ reply t (refusal n p)
          → (place < length input) × (left : List ℕ) × (c.read s (drop place input) ≡ refused n left)
      go (asked_refused {n = k} {left} _ h e) q =
          let f : ◌≡◌ {A = Answer (Item A B)} (refusal k (place_in input left)) (refusal n p) = ap answer_of_lem q in
          let m : k ≡ n = cc in
          (h, left, e ∙ ap (λ (j : ℕ). refused j left) m)
      go (asked_wrong r) q = let x = sym range ∙ r in clash (cc)
      go (asked_past h) q = let z : ⊥ = omega arith in absurd z
      go (asked_end _ e) q = let f = ap answer_of_lem q in clash (cc)
      go (asked_found _ h e) q = let f = ap answer_of_lem q in clash (cc)

  module _ (Good : S → A → Type 0) {L : ℕ → Bool} (law : Lawful c Good L) (h : Bytes input) where
    pub taken : (v : A) (rest : List ℕ) → c.in_range s ≡ true → place < length input → c.read s (drop place input) ≡ found v rest
        → FoundItem c Good s input place (after c s v) (record { sent = v; filled = c.fill s v; next = place_in input rest })
    taken v rest p l e =
        let k : Taken c Good s (drop place input) v rest = law.sound s (drop place input) v rest (drop-bytes place input h) e in
        let n = item-next c s input place Good law h (omega arith) v rest e in
        let size : place_in input rest - place ≡ length (c.write s v) = omega (arith, n.0) in
        record {
          range = p;
          inside = l;
          read = e ∙ ap (found v) (sym n.3);
          good = k.good;
          filled = refl;
          after = refl;
          tiles = ap (λ (l : List ℕ). c.write s v ++ l) n.3 ∙ k.tiles;
          bytes = ap₂ take size (sym k.tiles) ∙ take-append_seam (c.write s v) rest;
          next = n.0;
          on = n.1;
          within = n.2;
        }

    -- An item that was found.
    pub found-told : (i : Item A B) → item_at c s input place ≡ reply t (result i) → FoundItem c Good s input place t i
    found-told i = go (asked c s input place)
      where
        go : {x : Reply S (Item A B)} → Asked c s input place x → x ≡ reply t (result i) → FoundItem c Good s input place t i
        go (asked_found {v} {rest} p l e) q =
            let j : Item A B = record { sent = v; filled = c.fill s v; next = place_in input rest } in
            let f : ◌≡◌ {A = Answer (Item A B)} (result j) (result i) = ap answer_of_lem q in
            let g : j ≡ i = cc in
            subst (λ (x : Item A B). FoundItem c Good s input place t x) g
            (subst (λ (u : S). FoundItem c Good s input place u j) (ap state_of q) (taken v rest p l e))
        go (asked_wrong p) q = let f = ap answer_of_lem q in clash (cc)
        go (asked_end p e) q = let f = ap answer_of_lem q in clash (cc)
        go (asked_past l) q = let f = ap answer_of_lem q in clash (cc)
        go (asked_refused p l e) q = let f = ap answer_of_lem q in clash (cc)

-- ---- what follows for all items from the place on

module _ {S A B : Type 0} (c : Codec S A B) (s : S) (input : List ℕ) (place : ℕ) where
  pub all_end : place ≡ length input → read_all c s (drop place input) ≡ found [] []
  unfolding read_all write_most
  all_end e = ap (λ (bs : List ℕ). read_all c s bs) (ap (λ (k : ℕ). drop k input) e ∙ drop-length input)

  module _ (Good : S → A → Type 0) {L : ℕ → Bool} (law : Lawful c Good L) (h : Bytes input) where
    -- All items are the one here, then the others.
    pub here : place < length input → (q : Result A) → c.read s (drop place input) ≡ q
        → read_all c s (drop place input) ≡ bind q (λ v rest. map_result (λ vs. v ∷ vs) (read_all c (after c s v) rest))
    here l q e =
        read_some c Good law s (drop place input) (drop-bytes place input h) (omega (arith, length-drop place input))
        ∙ ap (λ (x : Result A). bind x (λ v rest. map_result (λ vs. v ∷ vs) (read_all c (after c s v) rest))) e

    pub all-refused : place < length input → (n : ℕ) (left : List ℕ) → c.read s (drop place input) ≡ refused n left
        → read_all c s (drop place input) ≡ refused n left
    all-refused l n left e = here l (refused n left) e

    pub all_found : (t : S) (i : Item A B) → FoundItem c Good s input place t i
        → read_all c s (drop place input) ≡ map_result (λ vs. i.sent ∷ vs) (read_all c t (drop i.next input))
    all_found t i f =
        here f.inside (found i.sent (drop i.next input)) f.read
        ∙ ap (λ (u : S). map_result (λ vs. i.sent ∷ vs) (read_all c u (drop i.next input))) (sym (f.after ∙ ap (c.apply s) f.filled))
