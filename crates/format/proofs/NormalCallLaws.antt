-- What one call that writes a normal form says of the bytes from its place on: where it writes, the others are written behind it, in the state
-- and the room that it leaves; where it refuses, they are refused or the room is short.
-- Assumes nothing.
use mathlib.Core.Path.{◌≡◌, refl, sym, ap, ap₂, ◌∙◌, subst, subst₂}
use mathlib.Core.List.{List, [], ◌∷◌, ◌++◌, append_assoc}
use mathlib.Core.Bool.{Bool, true, false, cond}
use Prim.Native.Nat.{ℕ, ◌+◌, ◌-◌, ◌<◌, ◌≤◌, zero-le}
use native.Mathlib.Omega.{arith}
use borrow.Author.Tests.{ltb-true, ltb-false}
use lib.Dec.{ltb}
use lib.ListN.{length, take, drop, length-append, length-drop}
use lib.Seq.{take-append_seam, drop-append_seam, drop-drop}
use Rattle.format.specs.Refusal.{code, short_room}
use Rattle.format.specs.Bytes.{Bytes, Result, found, refused, map_result}
use Rattle.format.specs.Codec.{Codec, after, read_all, normal_bytes, fill_all, apply_all, write_normal}
use Rattle.format.specs.Answer.{place_in, Answer, result, at_end, refusal, Reply, reply, Written, written, Item, Normalised, normal_of, normal_at}
use Rattle.format.proofs.ResultLaws.{clash, map_found}
use Rattle.format.proofs.CodecLaws.{Lawful, after_all}
use Rattle.format.proofs.CallLaws.{Asked, asked_wrong, asked_end, asked_past, asked_found, asked_refused, asked, FoundItem, taken, here, all_end}
use Rattle.format.proofs.CallLaws.{all-refused, all_found}

-- ---- a call that writes a normal form

-- Of one that wrote: the item, its normal form at the front of the room, and the room behind that as it was.
pub record WroteItem {S A B : Type 0} (c : Codec S A B) (normal : S → B → A) (Good : S → A → Type 0) (s : S) (input : List ℕ) (place : ℕ) (room : List ℕ) (t : S)
    (z : Normalised) (out : List ℕ) : Type 0 where
  pub item : A
  pub found : FoundItem c Good s input place t (record { sent = item; filled = c.fill s item; next = z.next })
  pub size : z.length ≡ length (normal_bytes c normal s item)
  pub fits : z.length ≤ length room
  pub bytes : take z.length out ≡ normal_bytes c normal s item
  pub behind : drop z.length out ≡ drop z.length room

-- The item at a place is refused, or the room is short for it.
abbrev pub Unwritten : {S A B : Type 0} → Codec S A B → (S → B → A) → S → List ℕ → ℕ → List ℕ → Type 0
Unwritten {A = A} c normal s input place room =
    (place < length input) × ((v : A) (rest : List ℕ) → c.read s (drop place input) ≡ found v rest → length room < length (normal_bytes c normal s v))

abbrev pub told_of_lem : {S A : Type 0} → Written S A → Answer A
told_of_lem w = w.answer

abbrev pub left_of : {S A : Type 0} → Written S A → S
left_of w = w.scene

abbrev pub room_of : {S A : Type 0} → Written S A → List ℕ
room_of w = w.room

module _ {S A B : Type 0} (c : Codec S A B) (normal : S → B → A) (s : S) (input : List ℕ) (place : ℕ) (room : List ℕ) (t : S) (out : List ℕ) where
  -- What a call writes of an item that was found.
  abbrev wrote : A → List ℕ → Written S Normalised
  wrote v rest =
      written (reply (after c s v) (result (record { length = length (normal_bytes c normal s v); next = place_in input rest })))
      (normal_bytes c normal s v ++ drop (length (normal_bytes c normal s v)) room)

  abbrev short : A → Written S Normalised
  short v = written (reply s (refusal (code short_room) (length (normal_bytes c normal s v)))) room

  pub normal_end-told : normal_at c normal s input place room ≡ written (reply t at_end) out → (place ≡ length input) × (t ≡ s) × (out ≡ room)
  unfolding normal_at
  normal_end-told = go (asked c s input place)
    where
      go : {x : Reply S (Item A B)} → Asked c s input place x → normal_of c normal s input x.scene room x.answer ≡ written (reply t at_end) out
          → (place ≡ length input) × (t ≡ s) × (out ≡ room)
      go (asked_end p e) q = (e, sym (ap left_of q), sym (ap room_of q))
      go (asked_wrong p) q = let f = ap told_of_lem q in clash (cc)
      go (asked_past h) q = let f = ap told_of_lem q in clash (cc)
      go (asked_refused p l e) q = let f = ap told_of_lem q in clash (cc)
      go (asked_found {v} {rest} p l e) q = pick (ltb (length room) (length (normal_bytes c normal s v))) q
        where
          pick : (b : Bool) → cond b (short v) (wrote v rest) ≡ written (reply t at_end) out → (place ≡ length input) × (t ≡ s) × (out ≡ room)
          pick true q = let f = ap told_of_lem q in clash (cc)
          pick false q = let f = ap told_of_lem q in clash (cc)

  -- That is so where a call refuses, in a state that is in range and at a place within the input.
  pub normal-refusal-told : c.in_range s ≡ true → place ≤ length input → (n p : ℕ) → normal_at c normal s input place room ≡ written (reply t (refusal n p)) out
      → Unwritten c normal s input place room
  unfolding normal_at
  normal-refusal-told range l n p = go (asked c s input place)
    where
      go : {x : Reply S (Item A B)} → Asked c s input place x → normal_of c normal s input x.scene room x.answer ≡ written (reply t (refusal n p)) out
          → Unwritten c normal s input place room
      go (asked_refused _ h e) q = (h, λ v rest f. let x = sym e ∙ f in clash (cc))
      go (asked_wrong r) q = let x = sym range ∙ r in clash (cc)
      go (asked_past h) q = let z : ⊥ = omega arith in absurd z
      go (asked_end _ e) q = let f = ap told_of_lem q in clash (cc)
      go (asked_found {v} {rest} _ h e) q = pick (ltb (length room) (length (normal_bytes c normal s v))) refl q
        where
          pick : (b : Bool) → ltb (length room) (length (normal_bytes c normal s v)) ≡ b → cond b (short v) (wrote v rest) ≡ written (reply t (refusal n p)) out
              → Unwritten c normal s input place room
          pick false w q = let f = ap told_of_lem q in clash (cc)
          pick true w q = (
            h,
            λ u left f. let x : found v rest ≡ found u left = sym e ∙ f in
                let y : v ≡ u = cc in
                subst (λ (z : A). length room < length (normal_bytes c normal s z)) y (ltb-true (length room) (length (normal_bytes c normal s v)) w),
          )

  module _ (Good : S → A → Type 0) {L : ℕ → Bool} (law : Lawful c Good L) (h : Bytes input) where
    pub normal-found-told : (z : Normalised) → normal_at c normal s input place room ≡ written (reply t (result z)) out
        → WroteItem c normal Good s input place room t z out
    unfolding normal_at
    normal-found-told z = go (asked c s input place)
      where
        go : {x : Reply S (Item A B)} → Asked c s input place x → normal_of c normal s input x.scene room x.answer ≡ written (reply t (result z)) out
            → WroteItem c normal Good s input place room t z out
        go (asked_wrong p) q = let f = ap told_of_lem q in clash (cc)
        go (asked_end p e) q = let f = ap told_of_lem q in clash (cc)
        go (asked_past l) q = let f = ap told_of_lem q in clash (cc)
        go (asked_refused p l e) q = let f = ap told_of_lem q in clash (cc)
        go (asked_found {v} {rest} p l e) q = pick (ltb (length room) (length (normal_bytes c normal s v))) refl q
          where
            pick : (b : Bool) → ltb (length room) (length (normal_bytes c normal s v)) ≡ b → cond b (short v) (wrote v rest) ≡ written (reply t (result z)) out
                → WroteItem c normal Good s input place room t z out
            pick true w q = let f = ap told_of_lem q in clash (cc)
            pick false w q =
                let y : Normalised = record { length = length (normal_bytes c normal s v); next = place_in input rest } in
                let f : ◌≡◌ {A = Answer Normalised} (result y) (result z) = ap told_of_lem q in
                let g : y ≡ z = cc in
                let m : z.length ≡ length (normal_bytes c normal s v) = ap (λ (x : Normalised). x.length) (sym g) in
                record {
                  item = v;
                  found =
                      subst₂ (λ (u : S) (x : Normalised). FoundItem c Good s input place u (record { sent = v; filled = c.fill s v; next = x.next }))
                      (ap left_of q) g (taken c s input place t Good law h v rest p l e);
                  size = m;
                  fits = omega (arith, m, ltb-false (length room) (length (normal_bytes c normal s v)) w);
                  bytes = ap₂ take m (sym (ap room_of q)) ∙ take-append_seam (normal_bytes c normal s v) (drop (length (normal_bytes c normal s v)) room);
                  behind =
                      ap₂ drop m (sym (ap room_of q)) ∙ drop-append_seam (normal_bytes c normal s v) (drop (length (normal_bytes c normal s v)) room)
                      ∙ ap (λ (k : ℕ). drop k room) (sym m);
                }

-- All items of some bytes in normal form: so many bytes at the front of the room, which stays behind them, and the state after them.
pub record AllWritten {S A B : Type 0} (c : Codec S A B) (normal : S → B → A) (s : S) (bs room : List ℕ) (t : S) (n : ℕ) (out : List ℕ) : Type 0 where
  pub items : List A
  pub read : read_all c s bs ≡ found items []
  pub state : t ≡ after_all c s items
  pub size : n ≡ length (write_normal c normal s (fill_all c s items))
  pub fits : n ≤ length room
  pub holds : out ≡ write_normal c normal s (fill_all c s items) ++ drop n room

-- The bytes are refused, or the room is short for their normal form.
abbrev pub NoneWritten : {S A B : Type 0} → Codec S A B → (S → B → A) → S → List ℕ → List ℕ → Type 0
NoneWritten {A = A} c normal s bs room = (vs : List A) → read_all c s bs ≡ found vs [] → length room < length (write_normal c normal s (fill_all c s vs))

module _ {S A B : Type 0} (c : Codec S A B) (normal : S → B → A) (s : S) (input : List ℕ) (place : ℕ) (room : List ℕ) where
  pub written_end : place ≡ length input → AllWritten c normal s (drop place input) room s 0 room
  unfolding fill_all apply_all write_normal
  written_end e = record { items = []; read = all_end c s input place e; state = refl; size = refl; fits = zero-le; holds = refl }

  module _ (Good : S → A → Type 0) {L : ℕ → Bool} (law : Lawful c Good L) (h : Bytes input) where
    pub none_written : Unwritten c normal s input place room → NoneWritten c normal s (drop place input) room
    unfolding fill_all write_normal
    none_written u vs = go (c.read s (drop place input)) refl
      where
        go : (q : Result A) → c.read s (drop place input) ≡ q → read_all c s (drop place input) ≡ found vs []
            → length room < length (write_normal c normal s (fill_all c s vs))
        go (refused n left) e r = let x = sym (all-refused c s input place Good law h u.0 n left e) ∙ r in clash (cc)
        go (found v rest) e r =
            let m = map_found (λ us. v ∷ us) (read_all c (after c s v) rest) vs [] (sym (here c s input place Good law h u.0 (found v rest) e) ∙ r) in
            subst (λ (l : List A). length room < length (write_normal c normal s (fill_all c s l))) m.2
            (omega (arith, u.1 v rest e, length-append (normal_bytes c normal s v) (write_normal c normal (after c s v) (fill_all c (after c s v) m.0))))

    module _ (t : S) (z : Normalised) (mid : List ℕ) (w : WroteItem c normal Good s input place room t z mid) where
      abbrev behind_it : List ℕ
      behind_it = drop z.length mid

      one : c.apply s (c.fill s w.item) ≡ t
      one = sym w.found.after

      first_read : read_all c s (drop place input) ≡ map_result (λ vs. w.item ∷ vs) (read_all c t (drop z.next input))
      first_read = all_found c s input place Good law h t _ w.found

      -- The item's normal form is the first of those of all.
      forms : (vs : List A) → write_normal c normal s (fill_all c s (w.item ∷ vs)) ≡ take z.length mid ++ write_normal c normal t (fill_all c t vs)
      unfolding fill_all write_normal
      forms vs =
          ap (λ (u : S). normal_bytes c normal s w.item ++ write_normal c normal u (fill_all c u vs)) one
          ∙ ap (λ (l : List ℕ). l ++ write_normal c normal t (fill_all c t vs)) (sym w.bytes)

      size_of : (vs : List A) → length (write_normal c normal s (fill_all c s (w.item ∷ vs))) ≡ z.length + length (write_normal c normal t (fill_all c t vs))
      size_of vs =
          ap length (forms vs) ∙ length-append (take z.length mid) (write_normal c normal t (fill_all c t vs))
          ∙ ap (λ (k : ℕ). k + length (write_normal c normal t (fill_all c t vs))) (ap length w.bytes ∙ sym w.size)

      room-left : length behind_it ≡ length room - z.length
      room-left = ap length w.behind ∙ length-drop z.length room

      -- A call that wrote an item's normal form, then those of the others, in the state and the room that it left.
      pub written_first : (u : S) (n : ℕ) (out : List ℕ) → AllWritten c normal t (drop z.next input) behind_it u n out
          → AllWritten c normal s (drop place input) room u (z.length + n) (take z.length mid ++ out)
      unfolding fill_all apply_all
      written_first u n out a =
          record {
            items = w.item ∷ a.items;
            read = first_read ∙ ap (map_result (λ vs. w.item ∷ vs)) a.read;
            state = a.state ∙ ap (λ (x : S). after_all c x a.items) (sym one);
            size = ap (λ (k : ℕ). z.length + k) a.size ∙ sym (size_of a.items);
            fits = omega (arith, a.fits, room-left, w.fits);
            holds =
                ap (λ (l : List ℕ). take z.length mid ++ l) (a.holds ∙ ap (λ (l : List ℕ). write_normal c normal t (fill_all c t a.items) ++ l) rest)
                ∙ sym (append_assoc (take z.length mid) (write_normal c normal t (fill_all c t a.items)) (drop (z.length + n) room))
                ∙ ap (λ (l : List ℕ). l ++ drop (z.length + n) room) (sym (forms a.items));
          }
        where
          rest : drop n behind_it ≡ drop (z.length + n) room
          rest = ap (drop n) w.behind ∙ drop-drop n z.length room

      pub none-behind : NoneWritten c normal t (drop z.next input) behind_it → NoneWritten c normal s (drop place input) room
      none-behind k vs r =
          let m = map_found (λ us. w.item ∷ us) (read_all c t (drop z.next input)) vs [] (sym first_read ∙ r) in
          subst (λ (l : List A). length room < length (write_normal c normal s (fill_all c s l))) m.2
          (omega (arith, k m.0 m.1, size_of m.0, room-left, w.fits))
