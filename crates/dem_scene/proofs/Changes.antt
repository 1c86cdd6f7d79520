-- What a change of the rest does to the scene. The scene sees stats and player lines through a map, and a map goes past `set`.
-- Assumes nothing.
use mathlib.Core.Path.{◌≡◌, refl, sym, ap, ◌∙◌}
use mathlib.Core.List.{List, map}
use mathlib.Core.Bool.{Bool, cond}
use Prim.Native.Nat.{ℕ, suc, ◌+◌, ◌-◌, ◌^◌, ◌≤◌, ◌<◌}
use native.Mathlib.Omega.{arith}
use borrow.Author.Tests.{lt-ltb, le-ltb}
use lib.IntN.{ℤ, pos, negsuc}
use lib.Signed.{mag}
use lib.ListN.{length, set, get_or, length-map, get_or-map}
use lib.Seq.{set_out, sets}
use mir.Syntax.{w16, w32}
use mir.Val.{of_z, to_z, hbits}
use Rattle.format.specs.Bytes.{extend}
use Rattle.dem.specs.Scene.{PlayerLine, Scene}
use Rattle.format.proofs.ListLaws.{map_set, map_sets}
use Rattle.wire.proofs.SignedLaws.{same_bits}

-- ---- a scene with other player lines

abbrev pub with_players : List PlayerLine → Scene → Scene
with_players players s =
    record {
      baselines = s.baselines;
      records = s.records;
      present = s.present;
      present_count = s.present_count;
      stats = s.stats;
      client = s.client;
      view = s.view;
      pause = s.pause;
      statics = s.statics;
      limit = s.limit;
      time = s.time;
      ended = s.ended;
      players = players;
    }

-- ---- an element set where the scene sees a list through a map

module _ {A B : Type 0} (f : A → B) (l : List A) (i : ℕ) where
  pub set_seen : (a : A) (v : B) → f a ≡ v → map f (set l i a) ≡ set (map f l) i v
  set_seen a v e = map_set f l i a ∙ ap (λ (w : B). set (map f l) i w) e

  -- Past the list's end nothing is set.
  pub set_past : (v : B) → length l ≤ i → map f l ≡ set (map f l) i v
  set_past v h = sym (set_out (map f l) i v (omega (arith, length-map l f)))

-- What code finds in the list, the scene sees in its own.
pub seen_at : {A B : Type 0} (f : A → B) (l : List A) (i : ℕ) (d : A) → f (get_or l i d) ≡ get_or (map f l) i (f d)
seen_at f l i d = sym (get_or-map f l i d)

-- ---- player lines

pub line_equal : (p q : PlayerLine) → p.frags ≡ q.frags → p.colours ≡ q.colours → p ≡ q
line_equal p q ef ec = λ i. record { frags = ef i; colours = ec i }

-- ---- clientdata's numbers as stats

-- A number of 16 bits, in 32, keeps its sign.
pub extended : (z : ℤ) → mag z < 32768 → of_z w32 z ≡ extend (of_z w16 z)
extended (pos n) f = sym (ap (λ (b : Bool). cond b n (n + (2 ^ 32 - 2 ^ 16))) (lt-ltb n 32768 f))
extended (negsuc n) f =
    let m : ℕ = 65536 - suc n in
    omega (arith, ap (λ (b : Bool). cond b m (m + (2 ^ 32 - 2 ^ 16))) (le-ltb m 32768 (omega arith)))

-- A stat as it is stored.
abbrev put : ℤ → ℤ
put r = to_z w32 (of_z w32 r)

-- By the bits of the number that it is made of.
pub stored : (r z : ℤ) → mag r < 2 ^ hbits w32 → r ≡ z → of_z w32 (put r) ≡ of_z w32 z
stored r z f e = same_bits w32 r _ (record { sfits = f }) refl ∙ ap (of_z w32) e

-- Health at stat 0, and others from stat 2 on.
pub client-stats_seen : (l : List ℤ) (r : ℤ) (rs : List ℤ) (b : ℕ) (ns : List ℕ) → of_z w32 (put r) ≡ b
    → map (of_z w32) (map put rs) ≡ ns → map (of_z w32) (sets (set l 0 (put r)) 2 (map put rs)) ≡ sets (set (map (of_z w32) l) 0 b) 2 ns
client-stats_seen l r rs b ns e f =
    map_sets (of_z w32) (map put rs) (set l 0 (put r)) 2
    ∙ (λ i. sets (set_seen (of_z w32) l 0 (put r) b e i) 2 (f i))
