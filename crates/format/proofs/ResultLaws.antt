-- What a reading that found something says of its parts, and what holds of a refusal if it holds of each part.
-- Assumes nothing.
use mathlib.Core.Path.{◌≡◌, refl, sym, ap, ◌∙◌, subst}
use mathlib.Core.List.{List, [], ◌++◌, append_assoc, ◌∷◌}
use mathlib.Core.Bool.{Bool, true, false, cond, ◌&&◌, ◌||◌}
use Prim.Native.Nat.{ℕ, zero, suc, ◌-◌, ◌<◌, ◌≤◌}
use native.Mathlib.Omega.{arith}
use lib.Dec.{T, eqb, leb}
use borrow.Author.Tests.{eqb-true, leb-true}
use lib.ListN.{length, take, drop, take-append-drop, length-append}
use lib.Seq.{drop-append_seam}
use Rattle.format.specs.Refusal.{Refusal, code, cut_message, wrong_string}
use Rattle.format.specs.Bytes.{Result, found, refused, map_result, bind, refused_but, refused_at, unless, require}

-- No two constructors are equal: `clash (cc)`.
pub clash : {X : Type 0} → ◌≡◌ {A = ℕ} 0 1 → X
clash e = absurd (subst (λ (n : ℕ). T (eqb n 0)) e tt)

-- ---- found

pub record Bound {A B : Type 0} (q : Result A) (f : A → List ℕ → Result B) (b : B) (rest : List ℕ) : Type 0 where
  pub value : A
  pub between : List ℕ
  pub first : q ≡ found value between
  pub later : f value between ≡ found b rest

pub bind-found : {A B : Type 0} (q : Result A) (f : A → List ℕ → Result B) (b : B) (rest : List ℕ) → bind q f ≡ found b rest
    → Bound q f b rest
bind-found (found a m) f b rest e = record { value = a; between = m; first = refl; later = e }
bind-found (refused n left) f b rest e = clash (cc)

pub map_found : {A B : Type 0} (f : A → B) (q : Result A) (b : B) (rest : List ℕ) → map_result f q ≡ found b rest
    → (a : A) × (q ≡ found a rest) × (f a ≡ b)
map_found f (found a m) b rest e = (a, (cc), (cc))
map_found f (refused n left) b rest e = clash (cc)

pub but-found : {A : Type 0} (keeps : ℕ → Bool) (bs : List ℕ) (q : Result A) (a : A) (rest : List ℕ) → refused_but keeps bs q ≡ found a rest
    → q ≡ found a rest
but-found keeps bs (found a' m) a rest e = e
but-found keeps bs (refused n left) a rest e = clash (cc)

pub at-found : {A : Type 0} (bs : List ℕ) (q : Result A) (a : A) (rest : List ℕ) → refused_at bs q ≡ found a rest → q ≡ found a rest
at-found = but-found (λ n. false)

pub require-found : {A : Type 0} (n : ℕ) (bs : List ℕ) (q : Result A) (a : A) (rest : List ℕ) → require n bs q ≡ found a rest
    → (n ≡ 0) × (q ≡ found a rest)
require-found zero bs q a rest e = (refl, e)
require-found (suc n) bs q a rest e = clash (cc)

pub unless_met : (b : Bool) (r : Refusal) → 0 < code r → unless b r ≡ 0 → b ≡ true
unless_met true r h e = refl
unless_met false r h e = let z : ⊥ = omega arith in absurd z

-- A number that keeps no place has that of the message.
pub but-place : {A : Type 0} (keeps : ℕ → Bool) (k : ℕ) (bs : List ℕ) (q : Result A) (n : ℕ) (left : List ℕ)
    → require k bs (refused_but keeps bs q) ≡ refused n left → keeps n ≡ false → left ≡ bs
but-place keeps zero bs (found m rest) n left e f = clash (cc)
but-place keeps zero bs (refused j l) n left e f =
    let x : j ≡ n = cc in
    let y : cond (keeps j) l bs ≡ left = cc in
    sym y ∙ ap (λ (b : Bool). cond b l bs) (ap keeps x ∙ f)
but-place keeps (suc k) bs q n left e f = cc

-- ---- what is left of some bytes

abbrev pub Suffix : List ℕ → List ℕ → Type 0
Suffix left bs = (xs : List ℕ) × (xs ++ left ≡ bs)

pub suffix-whole : (bs : List ℕ) → Suffix bs bs
suffix-whole bs = ([], refl)

pub suffix_drop : (n : ℕ) (bs : List ℕ) → Suffix (drop n bs) bs
suffix_drop n bs = (take n bs, take-append-drop n bs)

pub suffix_trans : (ds bs cs : List ℕ) → Suffix ds bs → Suffix bs cs → Suffix ds cs
suffix_trans ds bs cs p q = (q.0 ++ p.0, append_assoc q.0 p.0 ds ∙ ap (λ (l : List ℕ). q.0 ++ l) p.1 ∙ q.1)

pub suffix_more : (ds bs z : List ℕ) → Suffix ds bs → Suffix (ds ++ z) (bs ++ z)
suffix_more ds bs z p = (p.0, sym (append_assoc p.0 ds z) ∙ ap (λ (l : List ℕ). l ++ z) p.1)

pub suffix-length : (ds bs : List ℕ) → Suffix ds bs → length ds ≤ length bs
suffix-length ds bs p = omega (arith, length-append p.0 ds, ap length p.1)

-- It stands where its length says.
pub suffix-place : (ds bs : List ℕ) → Suffix ds bs → drop (length bs - length ds) bs ≡ ds
suffix-place ds bs p =
    let e : length bs - length ds ≡ length p.0 = omega (arith, length-append p.0 ds, ap length p.1) in
    ap (λ (n : ℕ). drop n bs) e ∙ ap (drop (length p.0)) (sym p.1) ∙ drop-append_seam p.0 ds

-- ---- refused: the number is one of those that a format's readers give, and what is left stands at the end of the bytes read

-- Whether a rule may answer this number. Every format's readers answer 0, 5 and 7.
pub record Answers (L : ℕ → Bool) : Type 0 where
  pub met : L 0 ≡ true
  pub cut : L (code cut_message) ≡ true
  pub string : L (code wrong_string) ≡ true

-- One of these numbers.
abbrev pub one_of : List ℕ → ℕ → Bool
one_of [] n = false
one_of (k ∷ ks) n = eqb k n || one_of ks n

-- Each number of a list is at most this.
abbrev pub all_most : ℕ → List ℕ → Bool
all_most m [] = true
all_most m (k ∷ ks) = leb k m && all_most m ks

pub one-most : (m : ℕ) (ks : List ℕ) (n : ℕ) → all_most m ks ≡ true → one_of ks n ≡ true → n ≤ m
one-most m [] n h e = clash (cc)
one-most m (k ∷ ks) n h e = go (eqb k n) refl (leb k m) refl (one-most m ks n) h e
  where
    go : (b : Bool) → eqb k n ≡ b → (x : Bool) → leb k m ≡ x → (all_most m ks ≡ true → one_of ks n ≡ true → n ≤ m) → (x && all_most m ks) ≡ true → (b || one_of ks n) ≡ true → n ≤ m
    go b p false q ih h e = clash (cc)
    go true p true q ih h e = let z = eqb-true k n p in let l = leb-true k m q in omega arith
    go false p true q ih h e = ih h e

abbrev pub Ranged : {A : Type 0} → (ℕ → Bool) → List ℕ → Result A → Type 0
Ranged L bs (found a rest) = Suffix rest bs
Ranged L bs (refused n left) = (1 ≤ n) × (L n ≡ true) × Suffix left bs

module _ (L : ℕ → Bool) where
  pub bind_ranged : {A B : Type 0} (bs : List ℕ) (q : Result A) (f : A → List ℕ → Result B) → Ranged L bs q
      → ((a : A) (m : List ℕ) → Suffix m bs → Ranged L bs (f a m)) → Ranged L bs (bind q f)
  bind_ranged bs (found a m) f r h = h a m r
  bind_ranged bs (refused n left) f r h = r

  pub map_ranged : {A B : Type 0} (bs : List ℕ) (f : A → B) (q : Result A) → Ranged L bs q → Ranged L bs (map_result f q)
  map_ranged bs f (found a m) r = r
  map_ranged bs f (refused n left) r = r

  pub but_ranged : {A : Type 0} (keeps : ℕ → Bool) (bs : List ℕ) (q : Result A) → Ranged L bs q → Ranged L bs (refused_but keeps bs q)
  but_ranged keeps bs (found a m) r = r
  but_ranged keeps bs (refused n left) r = (r.0, r.1, either (keeps n))
    where
      either : (b : Bool) → Suffix (cond b left bs) bs
      either true = r.2
      either false = suffix-whole bs

  pub at_ranged : {A : Type 0} (bs : List ℕ) (q : Result A) → Ranged L bs q → Ranged L bs (refused_at bs q)
  at_ranged = but_ranged (λ n. false)

  pub require_ranged : {A : Type 0} (n : ℕ) (bs : List ℕ) (q : Result A) → L n ≡ true → Ranged L bs q → Ranged L bs (require n bs q)
  require_ranged zero bs q h r = r
  require_ranged (suc n) bs q h r = (omega arith, h, suffix-whole bs)

  pub unless_within : (b : Bool) (r : Refusal) → L 0 ≡ true → L (code r) ≡ true → L (unless b r) ≡ true
  unless_within true r z h = z
  unless_within false r z h = h

  -- Of fewer bytes, of more.
  pub ranged_more : {A : Type 0} (bs cs : List ℕ) (q : Result A) → Suffix bs cs → Ranged L bs q → Ranged L cs q
  ranged_more bs cs (found a m) h r = suffix_trans m bs cs r h
  ranged_more bs cs (refused n left) h r = (r.0, r.1, suffix_trans left bs cs r.2 h)
