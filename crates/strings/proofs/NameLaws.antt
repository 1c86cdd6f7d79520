-- The strings in the bytes that a layout of strings alone prints to are its values: each name is read up to its zero, and then the next.
-- Assumes nothing.
use mathlib.Core.Path.{◌≡◌, refl, sym, ap, ◌∙◌, subst}
use mathlib.Core.List.{List, [], ◌∷◌, ◌++◌, append_assoc, append-nil}
use mathlib.Core.Bool.{Bool, true, false, cond}
use Prim.Native.Nat.{ℕ, zero, suc}
use borrow.Author.Tests.{eqb-true}
use lib.Dec.{eqb}
use Rattle.format.specs.Limits.{string_limit}
use Rattle.format.specs.Refusal.{wrong_number}
use Rattle.format.specs.Bytes.{unless, free, write_string}
use Rattle.format.specs.Layout.{Value, number, text, Layout, done, string, print}
use Rattle.dem.specs.Message.{is_empty, names}
use Rattle.format.proofs.ByteLaws.{StringBytes}
use Rattle.format.proofs.LayoutLaws.{Allowed}
use Rattle.strings.specs.Names.{name_step, names_in}

name_first : (n : ℕ) (name t rest : List ℕ) → StringBytes n t → names_in name (write_string t ++ rest) ≡ text (name ++ t) ∷ names_in [] rest
unfolding names_in write_string
name_first zero name t rest h = absurd h
name_first (suc n) name [] rest h = ap (λ (x : List ℕ). text x ∷ names_in [] rest) (sym (append-nil name))
name_first (suc n) name (b ∷ t) rest h =
    ap (λ (x : Bool). name_step x b name (names_in [] (write_string t ++ rest)) (names_in (name ++ (b ∷ [])) (write_string t ++ rest))) h.0
    ∙ name_first n (name ++ (b ∷ [])) t rest h.3
    ∙ ap (λ (x : List ℕ). text x ∷ names_in [] rest) (append_assoc name (b ∷ []) t)

-- A layout of strings alone: its values are the strings of their bytes.
abbrev Strings : Layout → Type 0
Strings l = (vs : List Value) → Allowed l vs → names_in [] (print l vs) ≡ vs

done_strings : Strings done
unfolding names_in print
done_strings [] a = refl
done_strings (v ∷ vs) a = absurd a

string_strings : (rule : List ℕ → ℕ) (k : List ℕ → Layout) → ((t : List ℕ) → Strings (k t)) → Strings (string rule k)
unfolding print
string_strings rule k h [] a = absurd a
string_strings rule k h (number v ∷ vs) a = absurd a
string_strings rule k h (text t ∷ vs) a = name_first string_limit [] t (print (k t) vs) a.0
    ∙ ap (λ (l : List Value). text t ∷ l) (h t vs a.2)

-- Serverinfo's two lists, of at most m names each: what holds of layouts of strings alone.
module _ (P : Layout → Type 0) (none : P done) (one : (rule : List ℕ → ℕ) (k : List ℕ → Layout) → ((t : List ℕ) → P (k t)) → P (string rule k)) where
  either : (b : Bool) (k l : Layout) → P k → P l → P (cond b k l)
  either true k l p q = p
  either false k l p q = q

  names_all : (n : ℕ) (k : Layout) → P k → P (names n k)
  names_all zero k h = one (λ t. unless (is_empty t) wrong_number) (λ t. k) (λ t. h)
  names_all (suc n) k h = one free (λ t. cond (is_empty t) k (names n k)) (λ t. either (is_empty t) k (names n k) h (names_all n k h))

  lists_all : (m : ℕ) → P (names m (names m done))
  lists_all m = names_all m (names m done) (names_all m done none)

pub lists_strings : (m : ℕ) (vs : List Value) → Allowed (names m (names m done)) vs → names_in [] (print (names m (names m done)) vs) ≡ vs
lists_strings m = lists_all Strings done_strings string_strings m

-- ---- such strings and their bytes

-- Strings alone.
abbrev pub Texts : List Value → Type 0
Texts [] = Unit {0}
Texts (number n ∷ vs) = ⊥
Texts (text t ∷ vs) = Texts vs

-- The bytes of strings, with their zeros.
abbrev pub joined : List Value → List ℕ
joined [] = []
joined (number n ∷ vs) = joined vs
joined (text t ∷ vs) = write_string t ++ joined vs

abbrev Joined : List ℕ → List ℕ → Type 0
Joined name bs = Texts (names_in name bs) → joined (names_in name bs) ≡ name ++ bs

pub names_joined : (name bs : List ℕ) → Joined name bs
unfolding names_in write_string
names_joined [] [] h = refl
names_joined (c ∷ name) [] h = absurd h
names_joined name (b ∷ bs) h = go (eqb b 0) refl h (names_joined [] bs) (names_joined (name ++ (b ∷ [])) bs)
  where
    go : (z : Bool) → eqb b 0 ≡ z → Texts (name_step z b name (names_in [] bs) (names_in (name ++ (b ∷ [])) bs)) → Joined [] bs
        → Joined (name ++ (b ∷ [])) bs → joined (name_step z b name (names_in [] bs) (names_in (name ++ (b ∷ [])) bs)) ≡ name ++ (b ∷ bs)
    go true e h first more = rw (first h, eqb-true b 0 e, append_assoc)
    go false e h first more = more h ∙ append_assoc name (b ∷ []) bs

-- Layouts of strings alone allow no number.
abbrev OnlyTexts : Layout → Type 0
OnlyTexts l = (vs : List Value) → Allowed l vs → Texts vs

done_texts : OnlyTexts done
done_texts [] a = tt
done_texts (v ∷ vs) a = absurd a

string_texts : (rule : List ℕ → ℕ) (k : List ℕ → Layout) → ((t : List ℕ) → OnlyTexts (k t)) → OnlyTexts (string rule k)
string_texts rule k h [] a = absurd a
string_texts rule k h (number v ∷ vs) a = absurd a
string_texts rule k h (text t ∷ vs) a = h t vs a.2

pub lists_texts : (m : ℕ) (vs : List Value) → Allowed (names m (names m done)) vs → Texts vs
lists_texts m = lists_all OnlyTexts done_texts string_texts m

-- The strings in some bytes, where they are two lists, print to those bytes: both are the strings joined.
pub lists-print : (m : ℕ) (bs : List ℕ) → Allowed (names m (names m done)) (names_in [] bs) → print (names m (names m done)) (names_in [] bs) ≡ bs
lists-print m bs a =
    let q = lists_strings m (names_in [] bs) a in
    let t = lists_texts m (names_in [] bs) a in
    sym (names_joined [] (print (names m (names m done)) (names_in [] bs)) (subst Texts (sym q) t)) ∙ ap joined q ∙ names_joined [] bs t

-- One empty name is a list, and not two.
pub no_lists : (m : ℕ) → Allowed (names m (names m done)) (names_in [] (0 ∷ [])) → ⊥
unfolding names_in
no_lists zero a = a.2
no_lists (suc m) a = a.2
