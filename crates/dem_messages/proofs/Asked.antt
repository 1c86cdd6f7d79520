-- What the tests in front of an entry tell: a scene in range and a place in the input, or what is refused then, whatever is asked; and room.
-- Assumes nothing.
use mathlib.Core.Path.{◌≡◌, refl, ap, ap₂, ◌∙◌}
use mathlib.Core.List.{List}
use mathlib.Core.Bool.{Bool, true, false, cond, not}
use Prim.Native.Nat.{ℕ, ◌<◌, ◌≤◌, zero-le}
use borrow.Author.Tests.{ltb-true, ltb-false, le-ltb}
use lib.Dec.{ltb}
use lib.ListN.{length}
use Rattle.format.specs.Refusal.{code, cut_message, short_room, wrong_scene}
use Rattle.format.specs.Answer.{Answer, result, refusal, guarded}
use Rattle.format.proofs.ResultLaws.{clash}

abbrev A : Type 0
A = Answer (Unit {0})

-- ---- a scene and a place

module _ (b : Bool) (s : List ℕ) (at : ℕ) where
  -- What was asked is answered.
  pub asked-ok : ◌≡◌ {A = A} (result tt) (guarded b s at refusal (result tt)) → (b ≡ true) × (at ≤ length s)
  asked-ok = go b (ltb (length s) at) refl
    where
      go : (x y : Bool) → ltb (length s) at ≡ y
          → ◌≡◌ {A = A} (result tt) (cond (not x) (refusal (code wrong_scene) 0) (cond y (refusal (code cut_message) at) (result tt)))
          → (x ≡ true) × (at ≤ length s)
      go true false e q = (refl, ltb-false (length s) at e)
      go true true e q = clash (cc)
      go false y e q = clash (cc)

  -- What is refused is so whatever is asked.
  pub asked-refused : {X : Type 0} (refuse : ℕ → ℕ → X) (x : X) (n p : ℕ) → ◌≡◌ {A = A} (refusal n p) (guarded b s at refusal (result tt))
      → refuse n p ≡ guarded b s at refuse x
  asked-refused {X} refuse x n p = go b (ltb (length s) at)
    where
      same : (m q : ℕ) → ◌≡◌ {A = A} (refusal n p) (refusal m q) → refuse n p ≡ refuse m q
      same m q e = let y : n ≡ m = cc in let z : p ≡ q = cc in ap₂ refuse y z

      go : (w y : Bool)
          → ◌≡◌ {A = A} (refusal n p) (cond (not w) (refusal (code wrong_scene) 0) (cond y (refusal (code cut_message) at) (result tt)))
          → refuse n p ≡ cond (not w) (refuse (code wrong_scene) 0) (cond y (refuse (code cut_message) at) x)
      go true false q = clash (cc)
      go true true q = same (code cut_message) at q
      go false y q = same (code wrong_scene) 0 q

-- At the first place there always is one.
pub asked-first : {X : Type 0} (b : Bool) (s : List ℕ) (refuse : ℕ → ℕ → X) (x : X) (n p : ℕ)
    → ◌≡◌ {A = A} (refusal n p) (guarded b s 0 refusal (result tt)) → refuse n p ≡ cond (not b) (refuse (code wrong_scene) 0) x
asked-first {X} b s refuse x n p e =
    asked-refused b s 0 refuse x n p e
    ∙ ap (λ (y : Bool). cond (not b) (refuse (code wrong_scene) 0) (cond y (refuse (code cut_message) 0) x)) (le-ltb (length s) 0 zero-le)

-- ---- room

module _ (len needed : ℕ) where
  pub room-ok : ◌≡◌ {A = A} (result tt) (cond (ltb len needed) (refusal (code short_room) needed) (result tt)) → needed ≤ len
  room-ok = go (ltb len needed) refl
    where
      go : (y : Bool) → ltb len needed ≡ y → ◌≡◌ {A = A} (result tt) (cond y (refusal (code short_room) needed) (result tt)) → needed ≤ len
      go false e q = ltb-false len needed e
      go true e q = clash (cc)

  pub room-refused : (n p : ℕ) → ◌≡◌ {A = A} (refusal n p) (cond (ltb len needed) (refusal (code short_room) needed) (result tt))
      → (len < needed) × (n ≡ code short_room) × (p ≡ needed)
  room-refused n p = go (ltb len needed) refl
    where
      go : (y : Bool) → ltb len needed ≡ y → ◌≡◌ {A = A} (refusal n p) (cond y (refusal (code short_room) needed) (result tt))
          → (len < needed) × (n ≡ code short_room) × (p ≡ needed)
      go false e q = clash (cc)
      go true e q = (ltb-true len needed e, (cc), (cc))
