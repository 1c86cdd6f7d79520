-- What one lawful item keeps, a run of items keeps: its bytes are bytes, and its normal form, where there is one, is good, fills in to the
-- same and is no longer. Two runs one after the other are filled in, applied and written as one.
-- Assumes nothing.
use mathlib.Core.Path.{◌≡◌, refl, sym, ap, ap₂, ◌∙◌, subst}
use mathlib.Core.List.{List, [], ◌∷◌, ◌++◌, append_assoc}
use Prim.Native.Nat.{ℕ, zero, suc, ◌<◌, ◌≤◌, zero-le}
use native.Mathlib.Omega.{arith}
use mathlib.Core.Bool.{Bool}
use lib.ListN.{length, take, drop, length-append, take-append-drop}
use Rattle.format.specs.Bytes.{Bytes, Result, found, refused}
use Rattle.format.specs.Codec.{Codec, after, write_all, fill_all, apply_all, normal_all, write_normal, Each, read_before}
use Rattle.format.proofs.ResultLaws.{clash, Ranged, Suffix, suffix_drop, suffix_more}
use Rattle.format.proofs.ByteLaws.{append-bytes}

-- What is read is good, and is written as it stood.
pub record Taken {S A B : Type 0} (c : Codec S A B) (Good : S → A → Type 0) (s : S) (bs : List ℕ) (v : A) (rest : List ℕ) : Type 0 where
  pub good : Good s v
  pub tiles : c.write s v ++ rest ≡ bs
  pub left : Bytes rest

pub record Lawful {S A B : Type 0} (c : Codec S A B) (Good : S → A → Type 0) (L : ℕ → Bool) : Type 0 where
  pub sound : (s : S) (bs : List ℕ) (v : A) (rest : List ℕ) → Bytes bs → c.read s bs ≡ found v rest → Taken c Good s bs v rest
  pub complete : (s : S) (v : A) (z : List ℕ) → Good s v → c.read s (c.write s v ++ z) ≡ found v z
  pub some : (s : S) (v : A) → Good s v → 0 < length (c.write s v)
  pub bytes : (s : S) (v : A) → Good s v → Bytes (c.write s v)
  pub ranged : (s : S) (bs : List ℕ) → Bytes bs → Ranged L bs (c.read s bs)

-- A normal form.
pub record Normalising {S A B : Type 0} (c : Codec S A B) (Good : S → A → Type 0) (normal : S → B → A) : Type 0 where
  pub good : (s : S) (v : A) → Good s v → Good s (normal s (c.fill s v))
  pub same : (s : S) (v : A) → Good s v → c.fill s (normal s (c.fill s v)) ≡ c.fill s v
  pub short : (s : S) (v : A) → Good s v → length (c.write s (normal s (c.fill s v))) ≤ length (c.write s v)

-- A run that was read.
pub record AllTaken {S A B : Type 0} (c : Codec S A B) (Good : S → A → Type 0) (s : S) (bs : List ℕ) (vs : List A)
    (rest : List ℕ) : Type 0 where
  pub good : Each c Good s vs
  pub tiles : write_all c s vs ≡ bs
  pub ends : rest ≡ []

-- The normal form of a run.
pub record AllNormal {S A B : Type 0} (c : Codec S A B) (Good : S → A → Type 0) (normal : S → B → A) (s : S) (vs : List A) : Type 0 where
  pub good : Each c Good s (normal_all c normal s (fill_all c s vs))
  pub same : fill_all c s (normal_all c normal s (fill_all c s vs)) ≡ fill_all c s vs
  pub writes : write_all c s (normal_all c normal s (fill_all c s vs)) ≡ write_normal c normal s (fill_all c s vs)
  pub short : length (write_normal c normal s (fill_all c s vs)) ≤ length (write_all c s vs)

-- The state after a run as sent.
abbrev pub after_all : {S A B : Type 0} (c : Codec S A B) → S → List A → S
after_all c s vs = apply_all c s (fill_all c s vs)

pub apply_append : {S A B : Type 0} (c : Codec S A B) (s : S) (fs gs : List B) → apply_all c s (fs ++ gs) ≡ apply_all c (apply_all c s fs) gs
unfolding apply_all
apply_append c s [] gs = refl
apply_append c s (f ∷ fs) gs = apply_append c (c.apply s f) fs gs

-- What each item keeps, a run of items keeps.
pub apply_keep : {S A B : Type 0} (c : Codec S A B) (P : S → Type 0) → ((s : S) (f : B) → P s → P (c.apply s f)) → (s : S) (fs : List B) → P s
    → P (apply_all c s fs)
unfolding apply_all
apply_keep c P k s [] p = p
apply_keep c P k s (f ∷ fs) p = apply_keep c P k (c.apply s f) fs (k s f p)

pub fill_append : {S A B : Type 0} (c : Codec S A B) (s : S) (us vs : List A)
    → fill_all c s (us ++ vs) ≡ fill_all c s us ++ fill_all c (after_all c s us) vs
unfolding apply_all fill_all
fill_append c s [] vs = refl
fill_append c s (u ∷ us) vs = ap (λ (l : List _). c.fill s u ∷ l) (fill_append c (after c s u) us vs)

-- As many items as sent are filled in.
pub fill-length : {S A B : Type 0} (c : Codec S A B) (s : S) (vs : List A) → length (fill_all c s vs) ≡ length vs
unfolding fill_all
fill-length c s [] = refl
fill-length c s (v ∷ vs) = ap suc (fill-length c (after c s v) vs)

pub write_append : {S A B : Type 0} (c : Codec S A B) (s : S) (us vs : List A)
    → write_all c s (us ++ vs) ≡ write_all c s us ++ write_all c (after_all c s us) vs
unfolding apply_all fill_all write_all
write_append c s [] vs = refl
write_append c s (u ∷ us) vs =
    ap (λ (l : List ℕ). c.write s u ++ l) (write_append c (after c s u) us vs)
    ∙ sym (append_assoc (c.write s u) (write_all c (after c s u) us) (write_all c (after_all c (after c s u) us) vs))

-- The normal form of two runs is that of the first, then that of the second in the state left.
pub normal_append : {S A B : Type 0} (c : Codec S A B) (normal : S → B → A) (s : S) (fs gs : List B)
    → write_normal c normal s (fs ++ gs) ≡ write_normal c normal s fs ++ write_normal c normal (apply_all c s fs) gs
unfolding apply_all write_normal
normal_append c normal s [] gs = refl
normal_append c normal s (f ∷ fs) gs =
    ap (λ (l : List ℕ). c.write s (normal s f) ++ l) (normal_append c normal (c.apply s f) fs gs)
    ∙ sym (append_assoc (c.write s (normal s f)) (write_normal c normal (c.apply s f) fs) (write_normal c normal (apply_all c (c.apply s f) fs) gs))

module _ {S A B : Type 0} (c : Codec S A B) (Good : S → A → Type 0) {L : ℕ → Bool} (law : Lawful c Good L) where
  pub shrinks : (s : S) (bs : List ℕ) (v : A) (rest : List ℕ) → Bytes bs → c.read s bs ≡ found v rest → length rest < length bs
  shrinks s bs v rest h e =
      let t : Taken c Good s bs v rest = law.sound s bs v rest h e in
      omega (arith, simp length-append at (ap length t.tiles), law.some s v t.good)

  pub all-bytes : (s : S) (vs : List A) → Each c Good s vs → Bytes (write_all c s vs)
  unfolding write_all
  all-bytes s [] g = tt
  all-bytes s (v ∷ vs) g = append-bytes (c.write s v) (write_all c (after c s v) vs) (law.bytes s v g.0)
      (all-bytes (after c s v) vs g.1)

  -- Each item has a byte.
  pub all_count : (s : S) (vs : List A) → Each c Good s vs → length vs ≤ length (write_all c s vs)
  unfolding write_all
  all_count s [] g = zero-le
  all_count s (v ∷ vs) g =
      omega (arith, length-append (c.write s v) (write_all c (after c s v) vs), law.some s v g.0, all_count (after c s v) vs g.1)

  -- What each good item keeps, a run keeps.
  pub all_keep : (P : S → Type 0) → ((s : S) (v : A) → Good s v → P s → P (after c s v)) → (s : S) (vs : List A) → Each c Good s vs → P s
      → P (after_all c s vs)
  unfolding fill_all apply_all
  all_keep P k s [] g p = p
  all_keep P k s (v ∷ vs) g p = all_keep P k (after c s v) vs g.1 (k s v g.0 p)

-- ---- the normal form

module _ {S A B : Type 0} (c : Codec S A B) (Good : S → A → Type 0) (normal : S → B → A) (law : Normalising c Good normal) where
  normal_cons : (s : S) (v : A) (vs : List A) → Good s v → AllNormal c Good normal (after c s v) vs → AllNormal c Good normal s (v ∷ vs)
  unfolding write_all fill_all normal_all write_normal
  normal_cons s v vs g r =
      record {
        good = (law.good s v g, subst (λ (t : S). Each c Good t later) (sym back) r.good);
        same = ap₂ (λ (f : B) (t : S). f ∷ fill_all c t later) e back ∙ ap (λ (l : List B). c.fill s v ∷ l) r.same;
        writes = ap (λ (t : S). c.write s n ++ write_all c t later) back ∙ ap (λ (l : List ℕ). c.write s n ++ l) r.writes;
        short =
            omega (
              arith,
              length-append (c.write s n) (write_normal c normal (after c s v) (fill_all c (after c s v) vs)),
              length-append (c.write s v) (write_all c (after c s v) vs),
              law.short s v g,
              r.short,
            );
      }
    where
      n : A
      n = normal s (c.fill s v)

      later : List A
      later = normal_all c normal (after c s v) (fill_all c (after c s v) vs)

      e : c.fill s n ≡ c.fill s v
      e = law.same s v g

      back : after c s n ≡ after c s v
      back = ap (c.apply s) e

  pub all-normal : (s : S) (vs : List A) → Each c Good s vs → AllNormal c Good normal s vs
  unfolding write_all fill_all normal_all write_normal
  all-normal s [] g = record { good = tt; same = refl; writes = refl; short = zero-le }
  all-normal s (v ∷ vs) g = normal_cons s v vs g.0 (all-normal (after c s v) vs g.1)

-- ---- items in front of other bytes

pub record Before {A B : Type 0} (behind : List ℕ) (f : A → B) (q : Result A) (b : B) (rest : List ℕ) : Type 0 where
  pub value : A
  pub left : List ℕ
  pub first : q ≡ found value left
  pub same : f value ≡ b
  pub follows : behind ≡ rest

pub before-found : {A B : Type 0} (behind : List ℕ) (f : A → B) (q : Result A) (b : B) (rest : List ℕ) → read_before behind f q ≡ found b rest
    → Before behind f q b rest
before-found behind f (found a left) b rest e = record { value = a; left = left; first = refl; same = (cc); follows = (cc) }
before-found behind f (refused n left) b rest e = clash (cc)

pub before_ranged : (L : ℕ → Bool) {A B : Type 0} (n : ℕ) (bs : List ℕ) (f : A → B) (q : Result A) → Ranged L (take n bs) q
    → Ranged L bs (read_before (drop n bs) f q)
before_ranged L n bs f (found a left) r = suffix_drop n bs
before_ranged L n bs f (refused k left) r = (
  r.0,
  r.1,
  subst (λ (l : List ℕ). Suffix (left ++ drop n bs) l) (take-append-drop n bs) (suffix_more left (take n bs) (drop n bs) r.2),
)
