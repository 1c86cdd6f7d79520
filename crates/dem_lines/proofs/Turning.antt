-- The turns of a change's loop, and that they lead to the change: where a turn stands, the turn after it, and what all of them come to.
-- Assumes nothing.
use mathlib.Core.Path.{◌≡◌, refl, sym, ap, ◌∙◌, subst}
use mathlib.Core.List.{List, [], ◌∷◌, ◌++◌, map}
use mathlib.Core.Bool.{Bool, true, false}
use Prim.Native.Nat.{ℕ, zero, suc, ◌+◌, ◌-◌, ◌<◌, ◌≤◌}
use native.Mathlib.Omega.{arith}
use borrow.Author.Tests.{eqb-true, ltb-true}
use lib.Dec.{eqb, ltb}
use lib.ListN.{length, take, drop, set, get_or, replicate, length-map}
use lib.Seq.{drop-drop}
use borrow.Rule.Slice.PartMut.{put_mid}
use Rattle.std.proofs.lemmas.Simd.{splat_is_map}
use lib.IntN.{ℤ}
use mir.Syntax.{w16}
use mir.Val.{of_z}
use Rattle.dem.specs.Scene.{PlayerLine as Line, zero_line}
use Rattle.format.specs.Answer.{Answer, result, refusal}
use Rattle.dem_types.specs.declared.Player.{Player}
use Rattle.dem_scene.specs.Views.{line_of}
use Rattle.dem_scene.specs.declared.PlayerLine.{PlayerLine}
use Rattle.dem_scene.proofs.Changes.{set_seen, seen_at}
use Rattle.dem_lines.specs.declared.LineChange.{LineChange}
use Rattle.dem_lines.specs.declared.LineChange.TheVariants as C
use Rattle.std.specs.Prelude.{Result, Ok, Err}
use Rattle.format.specs.declared.refusal.Refused.{Refused}
use Rattle.dem_lines.specs.declared.Plan.{Plan}
use Rattle.dem_lines.specs.Lent.{Lent, lent, answer_of, changed_lines, player_of, change_lent}
use Rattle.dem_lines.proofs.Lending.{not_sixteen, no_line, changes}
use Rattle.dem_lines.specs.Turns.{line_plan, change_plan, plan_of, clear_line, changed_line, carried}

-- ---- the turns

-- The lines behind so many turns: those are changed, and the others are as they were.
abbrev pub turned : {A : Type 0} → (A → A) → ℕ → List A → List A
turned f k xs = map f (take k xs) ++ drop k xs

turn_here : {A : Type 0} (f : A → A) (k : ℕ) (xs : List A) (d : A) → k < length xs
    → set (turned f k xs) k (f (get_or (turned f k xs) k d)) ≡ turned f (suc k) xs
turn_here {A} f k [] d h = absurd (omega (arith, h))
turn_here {A} f zero (x ∷ xs) d h = refl
turn_here {A} f (suc k) (x ∷ xs) d h = ap (λ (l : List A). f x ∷ l) (turn_here f k xs d (omega (arith, h)))

-- One more turn, at the place reached.
pub turn : {A : Type 0} (f : A → A) (k : ℕ) (xs lines : List A) (d y : A) → k < length xs → lines ≡ turned f k xs → y ≡ f (get_or lines k d)
    → set lines k y ≡ turned f (k + 1) xs
turn {A} f k xs lines d y h e q =
    let one : suc k ≡ k + 1 = omega arith in
    (λ i. set (e i) k ((q ∙ ap (λ (l : List A). f (get_or l k d)) e) i)) ∙ turn_here f k xs d h ∙ ap (λ (j : ℕ). turned f j xs) one

-- Behind the last.
pub all_turned : {A : Type 0} (f : A → A) (k : ℕ) (xs : List A) → length xs ≤ k → turned f k xs ≡ map f xs
all_turned {A} f zero [] h = refl
all_turned {A} f (suc k) [] h = refl
all_turned {A} f zero (x ∷ xs) h = absurd (omega (arith, h))
all_turned {A} f (suc k) (x ∷ xs) h = ap (λ (l : List A). f x ∷ l) (all_turned f k xs (omega (arith, h)))

-- ---- the plan of a change

-- It goes up, and not past the last line.
abbrev Within : ℕ → Result Plan Refused → Type 0
Within n (Ok p) = (p.first ≤ p.end) × (p.end ≤ n)
Within n (Err r) = Unit {0}

line_within : (n q : ℕ) → n ≡ 16 → Within n (line_plan q)
line_within n q e = go (ltb q 16) refl
  where
    go : (b : Bool) → ltb q 16 ≡ b → Within n (line_plan q)
    go true h = let l = ltb-true q 16 h in rw h (omega arith, omega (arith, l, e))
    go false h = rw h tt

change_within : (n : ℕ) (c : LineChange) → n ≡ 16 → Within n (change_plan c)
change_within n C.Nothing e = (omega arith, omega arith)
change_within n (C.Frags p v) e = line_within n p.0 e
change_within n (C.Colours p v) e = line_within n p.0 e
change_within n C.Clear e = (omega arith, omega (arith, e))

pub plan_within : (n : ℕ) (c : LineChange) → Within n (plan_of n c)
plan_within n c = go (eqb n 16) refl
  where
    go : (b : Bool) → eqb n 16 ≡ b → Within n (plan_of n c)
    go true h = rw h (change_within n c (eqb-true n 16 h))
    go false h = rw h tt

-- ---- what the plan of a change comes to is the change
abbrev Lines : Type 0
Lines = Lent (Answer (Unit {0}))

abbrev told : LineChange → List PlayerLine → Result Plan Refused → Lines
told c xs (Ok p) = lent (result tt) (map line_of (carried c p xs))
told c xs (Err r) = lent (answer_of (Err r)) (map line_of xs)

-- One element changed in its place.
one_place : {A : Type 0} (f : A → A) (q : ℕ) (xs : List A) (d : A) → q < length xs
    → take q xs ++ (map f (take 1 (drop q xs)) ++ drop (suc q) xs) ≡ set xs q (f (get_or xs q d))
one_place {A} f q [] d h = absurd (omega (arith, h))
one_place {A} f zero (x ∷ xs) d h = refl
one_place {A} f (suc q) (x ∷ xs) d h = ap (λ (l : List A). x ∷ l) (one_place f q xs d (omega (arith, h)))

one-changed : (c : LineChange) (xs : List PlayerLine) (q : ℕ) → q < length xs
    → carried c (record { first = q; end = q + 1 }) xs ≡ set xs q (changed_line c (get_or xs q clear_line))
one-changed c xs q h =
    let one : q + 1 - q ≡ 1 = omega arith in
    let next : q + 1 ≡ suc q = omega arith in
    (λ i. take q xs ++ (map (changed_line c) (take (one i) (drop q xs)) ++ drop (next i) xs)) ∙ one_place (changed_line c) q xs clear_line h

all-cleared : (xs : List PlayerLine) → length xs ≡ 16 → map line_of (carried C.Clear (record { first = 0; end = 16 }) xs) ≡ replicate 16 zero_line
all-cleared xs e =
    ap (map line_of) (all_turned (changed_line C.Clear) 16 xs (omega (arith, e)) ∙ sym (splat_is_map xs 16 clear_line e))

-- One line, of a player that has one.
line-told : (c : LineChange) (xs : List PlayerLine) (q : ℕ) → length xs ≡ 16 → ltb q 16 ≡ true
    → told c xs (line_plan q) ≡ lent (result tt) (map line_of (set xs q (changed_line c (get_or xs q clear_line))))
line-told c xs q l e =
    rw e (ap (λ (ys : List PlayerLine). lent (result tt) (map line_of ys)) (one-changed c xs q (omega (arith, l, ltb-true q 16 e))))

line_refused_lem : (c : LineChange) (xs : List PlayerLine) (q : ℕ) → ltb q 16 ≡ false → told c xs (line_plan q) ≡ lent (refusal 9 0) (map line_of xs)
line_refused_lem c xs q e = rw e

-- The line is set here and, as the definitions see it, there.
abbrev Seen : LineChange → List PlayerLine → Type 0
Seen c xs = map line_of (set xs (player_of c) (changed_line c (get_or xs (player_of c) clear_line))) ≡ changed_lines c (map line_of xs)

line_comes : (c : LineChange) (xs : List PlayerLine) → length xs ≡ 16 → eqb (length (map line_of xs)) 16 ≡ true → Seen c xs
    → told c xs (line_plan (player_of c)) ≡ change_lent c (map line_of xs)
line_comes c xs l e seen = go (ltb (player_of c) 16) refl
  where
    go : (b : Bool) → ltb (player_of c) 16 ≡ b → told c xs (line_plan (player_of c)) ≡ change_lent c (map line_of xs)
    go true h = line-told c xs (player_of c) l h ∙ ap (lent (result tt)) seen ∙ sym (changes c (map line_of xs) e h)
    go false h = line_refused_lem c xs (player_of c) h ∙ sym (no_line c (map line_of xs) e h)

seen-frags : (p : Player) (v : ℤ) (xs : List PlayerLine) → Seen (C.Frags p v) xs
seen-frags p v xs =
    set_seen line_of xs p.0 _ _ (λ i. record { frags = of_z w16 v; colours = ap (λ (l : Line). l.colours) (seen_at line_of xs p.0 clear_line) i })

seen-colours : (p : Player) (v : ℕ) (xs : List PlayerLine) → Seen (C.Colours p v) xs
seen-colours p v xs =
    set_seen line_of xs p.0 _ _ (λ i. record { frags = ap (λ (l : Line). l.frags) (seen_at line_of xs p.0 clear_line) i; colours = v })

sixteen_come : (c : LineChange) (xs : List PlayerLine) → length xs ≡ 16 → eqb (length (map line_of xs)) 16 ≡ true
    → told c xs (change_plan c) ≡ change_lent c (map line_of xs)
sixteen_come C.Nothing xs e h = sym (changes C.Nothing (map line_of xs) h refl)
sixteen_come (C.Frags p v) xs e h = line_comes (C.Frags p v) xs e h (seen-frags p v xs)
sixteen_come (C.Colours p v) xs e h = line_comes (C.Colours p v) xs e h (seen-colours p v xs)
sixteen_come C.Clear xs e h = ap (lent (result tt)) (all-cleared xs e) ∙ sym (changes C.Clear (map line_of xs) h refl)

pub plan_comes : (c : LineChange) (xs : List PlayerLine) → told c xs (plan_of (length xs) c) ≡ change_lent c (map line_of xs)
plan_comes c xs = go (eqb (length xs) 16) refl
  where
    seen : (b : Bool) → eqb (length xs) 16 ≡ b → eqb (length (map line_of xs)) 16 ≡ b
    seen b h = ap (λ (n : ℕ). eqb n 16) (length-map xs line_of) ∙ h

    go : (b : Bool) → eqb (length xs) 16 ≡ b → told c xs (plan_of (length xs) c) ≡ change_lent c (map line_of xs)
    go true h = rw h (sixteen_come c xs (eqb-true (length xs) 16 h) (seen true h))
    go false h = rw h (sym (not_sixteen c (map line_of xs) (seen false h)))

-- By what was planned.
module _ (c : LineChange) (xs : List PlayerLine) where
  pub refused_comes : (r : Refused) → Err r ≡ plan_of (length xs) c → lent (answer_of (Err r)) (map line_of xs) ≡ change_lent c (map line_of xs)
  refused_comes r e = ap (told c xs) e ∙ plan_comes c xs

  pub part_comes : (p : Plan) (k : ℕ) (ys : List PlayerLine) → Ok p ≡ plan_of (length xs) c
      → ys ≡ turned (changed_line c) k (take (p.end - p.first) (drop p.first xs)) → length (take (p.end - p.first) (drop p.first xs)) ≤ k
      → lent (result tt) (map line_of (put_mid p.first (p.end - p.first) xs ys)) ≡ change_lent c (map line_of xs)
  part_comes p k ys e q h =
      let w : Within (length xs) (Ok p) = subst (Within (length xs)) (sym e) (plan_within (length xs) c) in
      let to_end : p.first + (p.end - p.first) ≡ p.end = omega (arith, w.0) in
      let changed = q ∙ all_turned (changed_line c) k (take (p.end - p.first) (drop p.first xs)) h in
      let behind = drop-drop (p.end - p.first) p.first xs ∙ ap (λ (j : ℕ). drop j xs) to_end in
      (λ i. lent (result tt) (map line_of (take p.first xs ++ (changed i ++ behind i)))) ∙ ap (told c xs) e ∙ plan_comes c xs
