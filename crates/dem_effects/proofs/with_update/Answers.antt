-- `dem_effects::with_update` meets its contract: the record is filled in from the entity's baseline, and it and the mark are set; the mark is counted if it was not.
use mathlib.Core.Path.{◌≡◌, refl, sym, ap, ap₂, ◌∙◌}
use mathlib.Core.List.{List}
use mathlib.Core.Bool.{Bool, true, false, cond}
use Prim.Native.Nat.{ℕ, ◌+◌, ◌≤◌, ◌<◌}
use native.Mathlib.Omega.{arith}
use lib.ListN.{length, set, get_or, get_or-eq_default}
use lib.Seq.{set_out}
use Rattle.dem.specs.Limits.{entity_count}
use Rattle.dem.specs.Message.{count_with}
use Rattle.dem.proofs.CountLaws.{mark_there}
use Rattle.dem_scene.specs.Views.{scene_with, scene_of, baseline_numbers, record_numbers, with_tables}
use Rattle.dem_scene.proofs.Changes.{set_seen, set_past}
use Rattle.dem_effects.proofs.Tables.{update_applied}
use Rattle.dem_effects.proofs.with_update.Goals as goal

pub returns-then-i-lt-ENTITY_COUNT : goal.returns-then-i-lt-ENTITY_COUNT
unfolding scene_with
returns-then-i-lt-ENTITY_COUNT c h =
    let a = c.args in
    let s = scene_of a.s in
    let b = c.baseline_of in
    let f = c.fill_update-record in
    let i = a.u.entity.0 in
    let e = c.index_of-i.ensures in
    let marks = a.s.present in
    let count = a.s.present_count in
    let there : i < length marks = omega (arith, e, c.if-i-lt-ENTITY_COUNT.true) in
    let counted : c.count_with.result ≡ count_with marks i count =
    c.count_with.ensures ∙ ap (λ (j : ℕ). cond (get_or marks j false) count (count + 1)) e ∙ ap (λ (m : Bool). cond m count (count + 1)) (mark_there marks i false true there) in
    rw e
    (ap₂ (λ (l : List (List ℕ)) (n : ℕ). with_tables (record { baselines = s.baselines; records = l; present = set marks i true; present_count = n }) s)
    (set_seen record_numbers a.s.records i f.result _ refl) counted
    ∙ update_applied s a.u f.result (baseline_numbers b.result) h b.ensures f.ensures)

pub returns-else-i-lt-ENTITY_COUNT : goal.returns-else-i-lt-ENTITY_COUNT
unfolding scene_with
returns-else-i-lt-ENTITY_COUNT c h =
    let a = c.args in
    let s = scene_of a.s in
    let b = c.baseline_of in
    let f = c.fill_update-record in
    let i = a.u.entity.0 in
    let marks = a.s.present in
    let count = a.s.present_count in
    let past : entity_count ≤ i = omega (arith, c.index_of-i.ensures, c.if-i-lt-ENTITY_COUNT.false) in
    let m : length marks ≤ i = omega arith in
    let n : length a.s.records ≤ i = omega arith in
    (λ j. with_tables (record {
      baselines = s.baselines;
      records = set_past record_numbers a.s.records i (record_numbers f.result) n j;
      present = sym (set_out marks i true m) j;
      present_count = ap (λ (b' : Bool). cond b' count (count + 1)) (sym (get_or-eq_default marks true {n = i} m)) j;
    }) s)
    ∙ update_applied s a.u f.result (baseline_numbers b.result) h b.ensures f.ensures
