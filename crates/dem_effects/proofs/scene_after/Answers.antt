-- `dem_effects::scene_after` meets its contract: each arm changes the tables that its message names, and the rest by `apply_rest`.
use mathlib.Core.Path.{◌∙◌}
use borrow.Author.Tests.{leb-true}
use borrow.Enum.Refused.{opened}
use Rattle.dem.specs.Kind
use Rattle.dem.specs.Message.{apply, fill}
use Rattle.wire.specs.Reads.{placed}
use Rattle.dem_types.specs.Values.{values_by}
use Rattle.dem_scene.specs.Views.{unmarked, scene_with, scene_of}
use Rattle.dem_effects.proofs.Tables.{tables_in, matched, time_tables, others_tableless, tables_kept, rest_joined}
use Rattle.dem_effects.proofs.scene_after.Goals as goal

pub returns-in-Update : goal.returns-in-Update
unfolding fill
returns-in-Update c n =
    let a = c.args in
    let e = c.in-Update.is in
    c.with_update.ensures (leb-true Kind.update _ (n _ e)) ∙ matched (scene_of a.s) (placed a.text.now) _ _ e

pub returns-in-Baseline : goal.returns-in-Baseline
unfolding fill
returns-in-Baseline c n =
    let a = c.args in
    c.with_baseline.ensures ∙ matched (scene_of a.s) (placed a.text.now) _ _ c.in-Baseline.is

pub returns-in-Time : goal.returns-in-Time
unfolding scene_with
returns-in-Time c n =
    let a = c.args in
    let s = scene_of a.s in
    let t = placed a.text.now in
    let k = time_tables s t a.m _ c.in-Time.is in
    rest_joined (apply s (fill s (values_by t a.m))) c.apply_rest-s.result (unmarked (tables_in s)) (c.apply_rest-s.ensures (tables_in s) n) k

pub returns-in_default : goal.returns-in_default
unfolding scene_with
returns-in_default c n =
    let a = c.args in
    let s = scene_of a.s in
    let t = placed a.text.now in
    let k = tables_kept s t a.m (others_tableless a.m (opened c.in_default.in_default-own.keys5)) in
    rest_joined (apply s (fill s (values_by t a.m))) c.apply_rest-s-in_default.result (tables_in s) (c.apply_rest-s-in_default.ensures (tables_in s) n) k
