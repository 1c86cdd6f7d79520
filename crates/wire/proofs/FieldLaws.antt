-- Values of declared types as numbers, and back: signed numbers by their bits, a yes or no as 1 or 0, a struct by its fields in turn. What
-- code can hold is read back from its numbers, so that two values with the same numbers are the same.
-- Assumes nothing.
use mathlib.Core.Path.{◌≡◌, refl, sym, ap, ◌∙◌}
use mathlib.Core.List.{List, [], ◌∷◌, ◌++◌, append_assoc, map}
use mathlib.Core.Bool.{Bool, true, false}
use Prim.Native.Nat.{ℕ}
use lib.ListN.{drop}
use mir.Syntax.{Width}
use mir.Val.{Val, of_z, to_z}
use mir.ValLaws.{to_z-of_z}
use denote.RattleType.{RattleType, Valss}
use denote.Shadow.{shadow}
use denote.Laws.{Is}
use denote.Array.{each}
use denote.Struct.Struct.{AreAll}
use denote.Struct.Field.{Field, rows, uint_field, sint_field, bool-field, array_field}
use denote.Struct.Values.{Values, intos}
use denote.Struct.Declared.{field}
use denote.Struct.Record.{Record, Propositions, declared}
use Rattle.format.specs.Bytes.{is_set, bit_of}

-- Code can hold this value: its type relates it to some machine values.
abbrev pub Held : (R : RattleType) → R.Denot → Type 0
Held R x = (vs : List Val) × Is R x vs

-- What is seen of a value fixes it, among those that code can hold.
abbrev pub Fixed : (R : RattleType) {X : Type 0} → (R.Denot → X) → Type 0
Fixed R view = (x y : R.Denot) → Held R x → Held R y → view x ≡ view y → x ≡ y

pub fixed_by : (R : RattleType) {X : Type 0} (view : R.Denot → X) (undo : X → R.Denot) → ((x : R.Denot) → Held R x → undo (view x) ≡ x)
    → Fixed R view
fixed_by R view undo undone x y p q e = sym (undone x p) ∙ ap undo e ∙ undone y q

-- A field's value as numbers, and a value read from the front of some, with those behind it.
pub record AsNumbers (F : Field) : Type 2 where
  pub out : F.Value → List ℕ
  pub back : List ℕ → F.Value × List ℕ
  pub same : (x : F.Value) (vs : List Val) → Is F.row (F.into x) vs → (rest : List ℕ) → back (out x ++ rest) ≡ (x, rest)

-- The value that is read from these numbers alone.
abbrev pub from : {F : Field} → AsNumbers F → List ℕ → F.Value
from c ns = (c.back ns).0

pub from_front : {F : Field} (c : AsNumbers F) (x : F.Value) (vs : List Val) → Is F.row (F.into x) vs → (rest : List ℕ)
    → from c (c.out x ++ rest) ≡ x
from_front {F} c x vs h rest = ap (λ (p : F.Value × List ℕ). p.0) (c.same x vs h rest)

-- ---- numbers, over the width, and truth values

abbrev first : List ℕ → ℕ
first [] = 0
first (n ∷ ns) = n

abbrev pub unsigned : (w : Width) → AsNumbers (uint_field w)
unsigned w = record { out = λ n. n ∷ []; back = λ ns. (first ns, drop 1 ns); same = λ n vs h rest. refl }

abbrev pub signed : (w : Width) → AsNumbers (sint_field w)
signed w =
    record {
      out = λ z. of_z w z ∷ [];
      back = λ ns. (to_z w (first ns), drop 1 ns);
      same = λ z vs h rest i. (to_z-of_z w z (record { sfits = h.1 }) i, rest);
    }

pub set-bit : (b : Bool) → is_set (bit_of b) ≡ b
set-bit true = refl
set-bit false = refl

abbrev pub truth : AsNumbers bool-field
truth = record { out = λ b. bit_of b ∷ []; back = λ ns. (is_set (first ns), drop 1 ns); same = λ b vs h rest i. (set-bit b i, rest) }

-- ---- fields in turn

abbrev pub AllNumbers : List Field → Type 2
AllNumbers [] = Unit {2}
AllNumbers (F ∷ Fs) = AsNumbers F × AllNumbers Fs

abbrev pub outs : (Fs : List Field) → AllNumbers Fs → Values Fs → List ℕ
outs [] cs xs = []
outs (F ∷ Fs) cs xs = cs.0.out xs.0 ++ outs Fs cs.1 xs.1

abbrev pub backs : (Fs : List Field) → AllNumbers Fs → List ℕ → Values Fs × List ℕ
backs [] cs ns = (tt, ns)
backs (F ∷ Fs) cs ns =
    let a = cs.0.back ns in
    let b = backs Fs cs.1 a.1 in
    ((a.0, b.0), b.1)

pub sames : (Fs : List Field) (cs : AllNumbers Fs) (xs : Values Fs) (vss : Valss (rows Fs)) → AreAll (rows Fs) (intos Fs xs) vss → (rest : List ℕ)
    → backs Fs cs (outs Fs cs xs ++ rest) ≡ (xs, rest)
sames [] cs xs vss h rest = refl
sames (F ∷ Fs) cs xs vss h rest =
    let e : cs.0.back ((cs.0.out xs.0 ++ outs Fs cs.1 xs.1) ++ rest) ≡ (xs.0, outs Fs cs.1 xs.1 ++ rest) =
    ap cs.0.back (append_assoc (cs.0.out xs.0) (outs Fs cs.1 xs.1) rest)
    ∙ cs.0.same xs.0 vss.0 h.0 (outs Fs cs.1 xs.1 ++ rest) in
    ap (λ (a : F.Value × List ℕ). ((a.0, (backs Fs cs.1 a.1).0), (backs Fs cs.1 a.1).1)) e
    ∙ ap (λ (b : Values Fs × List ℕ). ((xs.0, b.0), b.1)) (sames Fs cs.1 xs.1 vss.1 h.1 rest)

-- A struct without ghost fields.
module _ (N : Record) (plain : (v : Values N.parts) → N.Ghost v) (props : Propositions N) (cs : AllNumbers N.parts) where
  abbrev pub made : Values N.parts → N.D
  made v = N.make v (plain v)

  pub made_values : (d : N.D) → made (N.as_values d) ≡ d
  made_values d = ap (N.make (N.as_values d)) (props (N.as_values d) (plain (N.as_values d)) (N.ghosts d)) ∙ N.eta d

  abbrev pub struct_back : List ℕ → N.D × List ℕ
  struct_back ns = let v = backs N.parts cs ns in (made v.0, v.1)

  pub struct-same : (d : N.D) (vs : List Val) → Is (field (declared N props)).row ((field (declared N props)).into d) vs → (rest : List ℕ)
      → struct_back (outs N.parts cs (N.as_values d) ++ rest) ≡ (d, rest)
  struct-same d vs h rest =
      ap (λ (p : Values N.parts × List ℕ). (made p.0, p.1)) (sames N.parts cs (N.as_values d) h.0 h.1.1 rest)
      ∙ (λ i. (made_values d i, rest))

  abbrev pub struct : AsNumbers (field (declared N props))
  struct = record { out = λ d. outs N.parts cs (N.as_values d); back = struct_back; same = struct-same }

-- ---- lists and arrays: a view that is undone for each element is undone for all

abbrev pub Each : {A : Type 0} → (A → Type 0) → List A → Type 0
Each P [] = Unit {0}
Each P (x ∷ xs) = P x × Each P xs

module _ (F : Field) {X : Type 0} (view : F.Value → X) (undo : X → F.Value)
    (undone : (x : F.Value) (vs : List Val) → Is F.row (F.into x) vs → undo (view x) ≡ x) where
  pub list_undone : (xs : List F.Value) → Each (λ x. Held F.row (F.into x)) xs → map undo (map view xs) ≡ xs
  list_undone [] h = refl
  list_undone (x ∷ xs) h = λ i. undone x h.0.0 h.0.1 i ∷ list_undone xs h.1 i

  each_held : (xs : List F.Value) (us : List Val) → shadow (each F.row.Denot F.row.own_val (map F.into xs) us)
      → Each (λ x. Held F.row (F.into x)) xs
  each_held [] us h = tt
  each_held (x ∷ xs) [] h = absurd h
  each_held (x ∷ xs) (u ∷ us) h = ((u ∷ [], h.0), each_held xs us h.1)

  pub array_undone : (n : ℕ) (xs : List F.Value) (vs : List Val) → Is (array_field F n).row ((array_field F n).into xs) vs
      → map undo (map view xs) ≡ xs
  array_undone n xs vs h = list_undone xs (each_held xs h.0 h.1.1)
