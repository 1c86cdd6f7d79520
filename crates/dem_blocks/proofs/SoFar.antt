-- What is written of a block so far: the front of the scratch, and then input that is kept as it was read, which is not copied yet.
-- Assumes nothing.
use mathlib.Core.Path.{◌≡◌, refl, sym, ap, ap₂, ◌∙◌, subst}
use mathlib.Core.List.{List, [], ◌++◌, append-nil, append_assoc}
use mathlib.Core.Bool.{Bool, true, false, cond, ◌&&◌}
use Prim.Native.Nat.{ℕ, ◌+◌, ◌-◌, ◌<◌, ◌≤◌}
use native.Mathlib.Omega.{arith}
use lib.ListN.{length, take, drop, length-take, length-drop, length-append}
use lib.Seq.{take-add, drop-drop}
use Rattle.format.proofs.ResultLaws.{clash}
use Rattle.dem_normal.specs.Put.{Put, Behind}
use Rattle.dem_blocks.specs.Runs.{so_far}

-- A test that is made only where normal forms are wanted.
pub and_false : (a b : Bool) → a ≡ true → (a && b) ≡ false → b ≡ false
and_false true b t e = e
and_false false b t e = clash (cc)

module _ (s : List ℕ) where
  stretch : (kept at to : ℕ) → kept ≤ at → at ≤ to → take (to - kept) (drop kept s) ≡ take (at - kept) (drop kept s) ++ take (to - at) (drop at s)
  stretch kept at to l m =
      let n : to - kept ≡ (at - kept) + (to - at) = omega arith in
      let p : kept + (at - kept) ≡ at = omega arith in
      ap (λ (k : ℕ). take k (drop kept s)) n ∙ take-add (at - kept) (to - at) (drop kept s)
      ∙ ap (λ (bs : List ℕ). take (at - kept) (drop kept s) ++ take (to - at) bs) (drop-drop (at - kept) kept s ∙ ap (λ (k : ℕ). drop k s) p)

  nothing : (at : ℕ) → take (at - at) (drop at s) ≡ []
  nothing at = let z : at - at ≡ 0 = omega arith in ap (λ (k : ℕ). take k (drop at s)) z

  pub far_begins : (on : Bool) (filled : List ℕ) (at : ℕ) → so_far on filled 0 s at at ≡ []
  far_begins true filled at = nothing at
  far_begins false filled at = refl

  -- Bytes that stay as they were read.
  pub far_kept : (on : Bool) (filled : List ℕ) (size kept at to : ℕ) → kept ≤ at → at ≤ to
      → so_far on filled size s kept to ≡ so_far on filled size s kept at ++ cond on (take (to - at) (drop at s)) []
  far_kept true filled size kept at to l m =
      ap (λ (bs : List ℕ). take size filled ++ bs) (stretch kept at to l m)
      ∙ sym (append_assoc (take size filled) (take (at - kept) (drop kept s)) (take (to - at) (drop at s)))
  far_kept false filled size kept at to l m = sym (append-nil (take size filled ++ []))

  -- Bytes that are put anew, behind what was kept.
  far_anew : (before after : List ℕ) (size size' kept at to : ℕ) (form : List ℕ) → Put before after size size' (take (at - kept) (drop kept s) ++ form)
      → so_far true after size' s to to ≡ so_far true before size s kept at ++ form
  far_anew before after size size' kept at to form p =
      ap (λ (bs : List ℕ). take size' after ++ bs) (nothing to) ∙ append-nil (take size' after) ∙ p.0
      ∙ sym (append_assoc (take size before) (take (at - kept) (drop kept s)) form)

-- One message more is written: what that leaves, and that no more room is needed for the rest of the block than before.
pub record Grown (on : Bool) (s before after : List ℕ) (size kept at size' kept' to : ℕ) (form : List ℕ) : Type 0 where
  pub far : so_far on after size' s kept' to ≡ so_far on before size s kept at ++ cond on form []
  pub long : length after ≡ length before
  pub spare : size' + (length s - kept') ≤ size + (length s - kept)
  pub inside : kept' ≤ to

module _ (on : Bool) (s before : List ℕ) (size kept at to : ℕ) (form : List ℕ) (l : kept ≤ at) (m : at < to) (in? : at ≤ length s)
    (short : length (cond on form []) + (length s - to) ≤ length s - at) where
  -- It stays as it was read.
  pub grown_kept : (on ≡ true → form ≡ take (to - at) (drop at s)) → Grown on s before before size kept at size kept to form
  grown_kept e =
      record {
        far = far_kept s on before size kept at to l (omega arith) ∙ ap (λ (bs : List ℕ). so_far on before size s kept at ++ bs) (same on refl);
        long = refl;
        spare = omega arith;
        inside = omega arith;
      }
    where
      same : (b : Bool) → on ≡ b → cond b (take (to - at) (drop at s)) [] ≡ cond b form []
      same true q = sym (e q)
      same false q = refl

  grown_anew : on ≡ true → (after : List ℕ) (size' kept' : ℕ) → Put before after size size' (take (at - kept) (drop kept s) ++ form) × (kept' ≡ to)
      → Grown on s before after size kept at size' kept' to form
  grown_anew q after size' kept' p =
      let n : length (cond on form []) ≡ length form = ap (λ (b : Bool). length (cond b form [])) q in
      record {
        far = ap₂ (λ (b : Bool) (k : ℕ). so_far b after size' s k to) q p.1 ∙ far_anew s before after size size' kept at to form p.0
            ∙ sym (ap (λ (b : Bool). so_far b before size s kept at ++ cond b form []) q);
        long = p.0.1;
        spare = omega (arith, short, n, p.0.2, p.1, length-append (take (at - kept) (drop kept s)) form, length-take (at - kept) (drop kept s), length-drop kept s);
        inside = omega (arith, p.1);
      }

  -- It is put anew or stays as it was read.
  pub grown-behind : (anew : Bool) → (anew ≡ true → on ≡ true) → (on ≡ true → anew ≡ false → form ≡ take (to - at) (drop at s))
      → (after : List ℕ) (size' kept' : ℕ) → Behind anew before after size kept size' kept' to (take (at - kept) (drop kept s) ++ form)
      → Grown on s before after size kept at size' kept' to form
  grown-behind true o e after size' kept' p = grown_anew (o refl) after size' kept' p
  grown-behind false o e after size' kept' p =
      let t : ◌≡◌ {A = List ℕ × ℕ × ℕ} (after, size', kept') (before, size, kept) = λ i. (p.0 i, p.1 i, p.2 i) in
      subst (λ (y : List ℕ × ℕ × ℕ). Grown on s before y.0 size kept at y.1 y.2 to form) (sym t) (grown_kept (λ q. e q refl))
