-- A scene with other tables, and an update of one entity.
-- Assumes nothing.
use mathlib.Core.Path.{◌≡◌, sym, ap, ap₂, ◌∙◌, subst}
use mathlib.Core.List.{List, [], ◌∷◌}
use mathlib.Core.Bool.{true, false, ◌||◌}
use Prim.Native.Nat.{ℕ, ◌≤◌}
use borrow.Author.Tests.{le-leb}
use lib.ListN.{set}
use Rattle.dem.specs.Kind
use Rattle.format.specs.Layout.{Value, number, numbers, tail}
use Rattle.dem.specs.Scene.{Scene, Baseline, baseline_at}
use Rattle.dem.specs.Message.{count_with, fill_update, fill, apply}
use Rattle.dem.proofs.MessageLaws.{fill-update}
use Rattle.dem.proofs.SceneLaws.{Part, baselines, records, present, present_count, changes, Unchanged, filled_frame}
use Rattle.dem_types.specs.Values.{update_values, values_by}
use Rattle.dem_types.specs.declared.Entity.{Entity}
use Rattle.dem_types.specs.declared.Look.{Look}
use Rattle.dem_types.specs.declared.Pose.{Pose}
use Rattle.dem_types.specs.declared.Serverinfo.{Serverinfo}
use Rattle.dem_types.specs.declared.Update.{Update}
use types.Run.{OneOf}
use Rattle.wire.specs.declared.Text.{Text}
use Rattle.dem_types.proofs.ByNumber.{place_of, update_place, by_number, not_at, not_among}
use Rattle.dem_types.specs.declared.Message.{Message as Sent}
use Rattle.dem_types.specs.declared.Message.TheVariants as M
use Rattle.dem_scene.specs.Views.{record_values, baseline_numbers, BaselineOf, Tables, no_tables, unmarked, scene_with, with_tables}
use Rattle.dem_scene.specs.declared.Baseline.{Baseline as Held}
use Rattle.dem_scene.specs.declared.Rest.{Rest}
use Rattle.dem_scene.specs.declared.Record.{Record}

abbrev pub tables_in : Scene → Tables
tables_in s = record { baselines = s.baselines; records = s.records; present = s.present; present_count = s.present_count }

abbrev pub with_baselines : List Baseline → Scene → Scene
with_baselines b s = with_tables (record { baselines = b; records = s.records; present = s.present; present_count = s.present_count }) s

-- The tables with an entity's record and mark set.
abbrev pub updated : Scene → ℕ → List ℕ → Tables
updated s i r =
    record {
      baselines = s.baselines;
      records = set s.records i r;
      present = set s.present i true;
      present_count = count_with s.present i s.present_count;
    }

-- What an update does, by the record that it is filled in to.
pub update_applied : (s : Scene) (u : Update) (r : Record) (b : Baseline) → Kind.update ≤ u.number → b ≡ baseline_at s u.entity.0
    → number Kind.update ∷ number u.entity.0 ∷ record_values r ≡ fill_update b u.number (tail (update_values u))
    → with_tables (updated s u.entity.0 (numbers (record_values r))) s ≡ apply s (fill s (update_values u))
unfolding apply
update_applied s u r b h e f =
    ap (apply s) (f ∙ ap (λ (x : Baseline). fill_update x u.number (tail (update_values u))) e
    ∙ sym (fill-update s u.number (tail (update_values u)) (le-leb Kind.update u.number h)))

-- A message that a pattern matched.
pub matched : (s : Scene) (t : Text → List ℕ) (m k : Sent) → m ≡ k → apply s (fill s (values_by t k)) ≡ apply s (fill s (values_by t m))
matched s t m k e = ap (λ (x : Sent). apply s (fill s (values_by t x))) (sym e)

-- A time clears every mark.
pub time_tables : (s : Scene) (t : Text → List ℕ) (m : Sent) (v : ℕ) → m ≡ M.Time v
    → tables_in (apply s (fill s (values_by t m))) ≡ unmarked (tables_in s)
unfolding apply fill
time_tables s t m v e = ap (λ (x : Sent). tables_in (apply s (fill s (values_by t x)))) e

-- ---- the messages that change no table

pub record Tableless (m : Sent) : Type 0 where
  pub time : (v : ℕ) → m ≡ M.Time v → ⊥
  pub serverinfo : (i : Serverinfo) → m ≡ M.Serverinfo i → ⊥
  pub baseline : (e : Entity) (l : Look) (p : Pose) → m ≡ M.Baseline e l p → ⊥
  pub update : (u : Update) → m ≡ M.Update u → ⊥

abbrev pub others : List ℕ
others = 0 ∷ 1 ∷ 2 ∷ 3 ∷ 4 ∷ 5 ∷ 7 ∷ 8 ∷ 9 ∷ 11 ∷ 12 ∷ 13 ∷ 14 ∷ 15 ∷ 16 ∷ 17 ∷ 18 ∷ 19 ∷ 21 ∷ 22 ∷ 23 ∷ 24 ∷ 25 ∷ 26 ∷ 27 ∷ 28 ∷ 29 ∷ 30 ∷ 31 ∷ 32 ∷ []

pub others_tableless : (m : Sent) → OneOf others (place_of m) → Tableless m
others_tableless m h =
    record {
      time = λ v e. not_among others m h 6 tt (ap place_of e);
      serverinfo = λ i e. not_among others m h 10 tt (ap place_of e);
      baseline = λ e l p q. not_among others m h 20 tt (ap place_of q);
      update = λ u e. not_among others m h update_place tt (ap place_of e);
    }

-- The tables of a scene after one of them.
pub tables_kept : (s : Scene) (t : Text → List ℕ) (m : Sent) → Tableless m → tables_in (apply s (fill s (values_by t m))) ≡ tables_in s
tables_kept s t m h =
    let k = by_number t m (not_at update_place m (λ x. h.update x.0)) in
    let time = k.other 6 (not_at 6 m (λ x. h.time x.0)) in
    let serverinfo = k.other 10 (not_at 10 m (λ x. h.serverinfo x.0)) in
    let baseline = k.other 20 (not_at 20 m (λ x. h.baseline x.0 x.1.0 x.1.1.0)) in
    let marks = ap₂ ◌||◌ k.low time in
    let kept : (p : Part) → changes k.n p ≡ false → Unchanged p s (apply s (fill s (values_by t m))) =
    λ p e. subst (λ (vs : List Value). Unchanged p s (apply s (fill s vs))) (sym k.is) (filled_frame p s k.n k.us k.low e serverinfo) in
    λ i. record {
      baselines = kept baselines baseline i;
      records = kept records k.low i;
      present = kept present marks i;
      present_count = kept present_count marks i;
    }

-- A scene from its tables and its rest.
pub rest_joined : (s : Scene) (x : Rest) (t : Tables) → scene_with no_tables x ≡ with_tables no_tables s → tables_in s ≡ t → scene_with t x ≡ s
unfolding scene_with
rest_joined s x t q e = ap (with_tables t) q ∙ ap (λ (k : Tables). with_tables k s) (sym e)

-- ---- the baseline that a message is filled in from

pub of-update : (s : Scene) (m : Sent) (u : Update) (b : Held) → m ≡ M.Update u → baseline_numbers b ≡ baseline_at s u.entity.0
    → BaselineOf s m b
of-update s m u b e q v f = let z : v ≡ u = cc in ap (λ (w : Update). baseline_at s w.entity.0) z ∙ sym q
