-- Reading all items to the end: what is read is good and tiles its bytes, what is good is read back, also in front of other bytes, and a
-- refusal's number is one of the format's.
-- Assumes nothing.
use mathlib.Core.Path.{◌≡◌, refl, sym, ap, ◌∙◌, subst}
use mathlib.Core.List.{List, [], ◌∷◌, ◌++◌, append_assoc}
use mathlib.Core.Bool.{Bool, true, false, cond}
use Prim.Native.Nat.{ℕ, zero, suc, ◌<◌, ◌≤◌}
use native.Mathlib.Nat.{le_refl}
use native.Mathlib.Omega.{arith}
use borrow.Author.Tests.{ne_eqb}
use lib.Dec.{eqb}
use lib.ListN.{length, length-append}
use Rattle.format.specs.Bytes.{Bytes, Result, found, refused, map_result, bind}
use Rattle.format.specs.Codec.{Codec, after, Run, preceded, result_of, write_most, run_most, read_all, write_all, fill_all, apply_all, Each}
use Rattle.format.proofs.ResultLaws.{bind-found, map_found, Ranged, map_ranged, ranged_more, suffix-whole}
use Rattle.format.proofs.ByteLaws.{append-bytes}
use Rattle.format.proofs.CodecLaws.{Taken, Lawful, AllTaken, after_all, shrinks, all-bytes}
use Rattle.format.proofs.RunLaws.{run_on, run_step, run_all}

module _ {S A B : Type 0} (c : Codec S A B) (Good : S → A → Type 0) {L : ℕ → Bool} (law : Lawful c Good L) where
  -- All items are the first, then the others in the state after it.
  pub read_next : (s : S) (b : ℕ) (bs : List ℕ) → Bytes (b ∷ bs)
      → read_all c s (b ∷ bs) ≡ bind (c.read s (b ∷ bs)) (λ v rest. map_result (λ vs. v ∷ vs) (read_all c (after c s v) rest))
  unfolding read_all
  read_next s b bs h = ap result_of (run_step c (length bs) s b bs) ∙ go (c.read s (b ∷ bs)) refl
    where
      later : (v : A) (r : Run S A) → result_of (preceded v r) ≡ map_result (λ vs. v ∷ vs) (result_of r)
      later v r = pick (eqb r.refusal 0)
        where
          pick : (x : Bool) → cond x (found (v ∷ r.items) r.rest) (refused r.refusal r.left)
              ≡ map_result (λ vs. v ∷ vs) (cond x (found r.items r.rest) (refused r.refusal r.left))
          pick true = refl
          pick false = refl

      go : (q : Result A) → c.read s (b ∷ bs) ≡ q
          → result_of (run_on s (b ∷ bs) q (λ v rest. run_most c (length bs) (after c s v) rest))
          ≡ bind q (λ v rest. map_result (λ vs. v ∷ vs) (read_all c (after c s v) rest))
      go (refused k left) e =
          let r : Ranged {A = A} L (b ∷ bs) (refused k left) = subst (λ (q : Result A). Ranged L (b ∷ bs) q) e (law.ranged s (b ∷ bs) h) in
          rw (ne_eqb k 0 (λ z. omega (arith, r.0)))
      go (found v rest) e =
          let l = shrinks c Good law s (b ∷ bs) v rest h e in
          later v (run_most c (length bs) (after c s v) rest)
          ∙ ap (map_result (λ vs. v ∷ vs))
          (sym (run_all c Good law (length bs) (after c s v) rest (law.sound s (b ∷ bs) v rest h e).left (omega arith)))

  -- The same of bytes that are some.
  pub read_some : (s : S) (bs : List ℕ) → Bytes bs → 0 < length bs
      → read_all c s bs ≡ bind (c.read s bs) (λ v rest. map_result (λ vs. v ∷ vs) (read_all c (after c s v) rest))
  read_some s [] h l = let z : ⊥ = omega arith in absurd z
  read_some s (b ∷ bs) h l = read_next s b bs h

  -- ---- what is read

  none-sound : (s : S) (vs : List A) (rest : List ℕ) → found [] [] ≡ found vs rest → AllTaken c Good s [] vs rest
  unfolding write_all
  none-sound s vs rest e = let ev : [] ≡ vs = cc in let er : [] ≡ rest = cc in
      record { good = rw (← ev) tt; tiles = rw (← ev) refl; ends = sym er }

  most-sound : (n : ℕ) (s : S) (bs : List ℕ) (vs : List A) (rest : List ℕ) → length bs ≤ n → Bytes bs → read_all c s bs ≡ found vs rest
      → AllTaken c Good s bs vs rest
  unfolding read_all write_most write_all
  most-sound zero s [] vs rest l h e = none-sound s vs rest e
  most-sound (suc n) s [] vs rest l h e = none-sound s vs rest e
  most-sound zero s (b ∷ bs) vs rest l h e = let z : ⊥ = omega arith in absurd z
  most-sound (suc n) s (b ∷ bs) vs rest l h e =
      let p = bind-found (c.read s (b ∷ bs)) (λ v m. map_result (λ us. v ∷ us) (read_all c (after c s v) m)) vs rest (sym (read_next s b bs h) ∙ e) in
      let t : Taken c Good s (b ∷ bs) p.value p.between = law.sound s (b ∷ bs) p.value p.between h p.first in
      let g = map_found (λ us. p.value ∷ us) (read_all c (after c s p.value) p.between) vs rest p.later in
      let shorter = shrinks c Good law s (b ∷ bs) p.value p.between h p.first in
      let i : AllTaken c Good (after c s p.value) p.between g.0 rest = most-sound n (after c s p.value) p.between
      g.0 rest (omega arith) t.left g.1 in
      record { good = rw (← g.2) (t.good, i.good); tiles = rw (← g.2, i.tiles) t.tiles; ends = i.ends }

  pub all_sound : (s : S) (bs : List ℕ) (vs : List A) (rest : List ℕ) → Bytes bs → read_all c s bs ≡ found vs rest
      → AllTaken c Good s bs vs rest
  all_sound s bs vs rest = most-sound (length bs) s bs vs rest (le_refl (length bs))

  -- ---- what is good

  -- A good item in front.
  read_item : (s : S) (v : A) (rest : List ℕ) → Good s v → Bytes rest
      → read_all c s (c.write s v ++ rest) ≡ map_result (λ vs. v ∷ vs) (read_all c (after c s v) rest)
  read_item s v rest g h =
      read_some s (c.write s v ++ rest) (append-bytes (c.write s v) rest (law.bytes s v g) h)
      (omega (arith, length-append (c.write s v) rest, law.some s v g))
      ∙ ap (λ (q : Result A). bind q (λ v rest. map_result (λ vs. v ∷ vs) (read_all c (after c s v) rest))) (law.complete s v rest g)

  -- Good items in front: they are read, then what follows in the state that they leave.
  pub read_append : (s : S) (vs : List A) (z : List ℕ) → Each c Good s vs → Bytes z
      → read_all c s (write_all c s vs ++ z) ≡ map_result (λ us. vs ++ us) (read_all c (after_all c s vs) z)
  unfolding write_all fill_all apply_all
  read_append s [] z g h = sym (same (read_all c s z))
    where
      same : (q : Result (List A)) → map_result (λ us. us) q ≡ q
      same (found us rest) = refl
      same (refused k left) = refl
  read_append s (v ∷ vs) z g h =
      ap (read_all c s) (append_assoc (c.write s v) (write_all c t vs) z)
      ∙ read_item s v (write_all c t vs ++ z) g.0 (append-bytes (write_all c t vs) z (all-bytes c Good law t vs g.1) h)
      ∙ ap (map_result (λ us. v ∷ us)) (read_append t vs z g.1 h)
      ∙ twice (read_all c (after_all c t vs) z)
    where
      t : S
      t = after c s v

      twice : (q : Result (List A)) → map_result (λ us. v ∷ us) (map_result (λ us. vs ++ us) q) ≡ map_result (λ us. v ∷ (vs ++ us)) q
      twice (found us left) = refl
      twice (refused k left) = refl

  pub all_complete : (s : S) (vs : List A) → Each c Good s vs → read_all c s (write_all c s vs) ≡ found vs []
  unfolding read_all write_most write_all
  all_complete s [] g = refl
  all_complete s (v ∷ vs) g =
      read_item s v (write_all c (after c s v) vs) g.0 (all-bytes c Good law (after c s v) vs g.1)
      ∙ ap (map_result (λ us. v ∷ us)) (all_complete (after c s v) vs g.1)

  -- Good items are known from their bytes.
  pub all_unique : (s : S) (us vs : List A) → Each c Good s us → Each c Good s vs → write_all c s us ≡ write_all c s vs → us ≡ vs
  all_unique s us vs g h e =
      let p = all_complete s us g in
      let q = all_complete s vs h in
      let x : read_all c s (write_all c s us) ≡ read_all c s (write_all c s vs) = ap (read_all c s) e in
      cc

  -- ---- refusals

  most_ranged : (n : ℕ) (s : S) (bs : List ℕ) → length bs ≤ n → Bytes bs → Ranged L bs (read_all c s bs)
  unfolding read_all write_most
  most_ranged zero s [] l h = suffix-whole []
  most_ranged (suc n) s [] l h = suffix-whole []
  most_ranged zero s (b ∷ bs) l h = let z : ⊥ = omega arith in absurd z
  most_ranged (suc n) s (b ∷ bs) l h =
      subst (λ (q : Result (List A)). Ranged L (b ∷ bs) q) (sym (read_next s b bs h))
      (go (c.read s (b ∷ bs)) refl (law.ranged s (b ∷ bs) h) (λ t rest. most_ranged n t rest))
    where
      go : (q : Result A) → c.read s (b ∷ bs) ≡ q → Ranged L (b ∷ bs) q
          → ((t : S) (rest : List ℕ) → length rest ≤ n → Bytes rest → Ranged L rest (read_all c t rest))
          → Ranged L (b ∷ bs) (bind q (λ v rest. map_result (λ vs. v ∷ vs) (read_all c (after c s v) rest)))
      go (refused k left) e r ih = r
      go (found v rest) e r ih =
          let k = shrinks c Good law s (b ∷ bs) v rest h e in
          map_ranged L (b ∷ bs) (λ vs. v ∷ vs) (read_all c (after c s v) rest)
          (ranged_more L rest (b ∷ bs) (read_all c (after c s v) rest) r
          (ih (after c s v) rest (omega arith) (law.sound s (b ∷ bs) v rest h e).left))

  pub all_ranged : (s : S) (bs : List ℕ) → Bytes bs → Ranged L bs (read_all c s bs)
  all_ranged s bs = most_ranged (length bs) s bs (le_refl (length bs))
