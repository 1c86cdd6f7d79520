-- `dem_scene::apply_rest` meets its contract: each arm that calls by what it calls, the last by the list of messages that change no rest.
use mathlib.Core.Path.{refl, ap, ◌∙◌}
use mathlib.Core.List.{[], ◌∷◌}
use native.Mathlib.Omega.{arith}
use mir.Syntax.{w16, w32}
use borrow.Enum.Refused.{opened}
use Rattle.dem.specs.Kind
use Rattle.format.specs.Layout.{number}
use Rattle.dem.specs.Message.{apply, fill}
use Rattle.wire.specs.Reads.{placed}
use Rattle.wire.proofs.SignedLaws.{same_bits}
use Rattle.dem_scene.specs.Views.{no_tables, scene_with, with_tables}
use Rattle.dem_scene.proofs.Applied.{after_match, after_call, quiet-after}
use Rattle.dem_scene.proofs.apply_rest.Goals as goal

pub returns-in-Stat : goal.returns-in-Stat
unfolding scene_with apply fill
returns-in-Stat c t n =
    let v = same_bits w32 c.in-Stat.v _ (record { sfits = omega arith }) refl in
    after_call c.args.x t (placed c.args.text.now) c.with_stat.result _ _ _ c.in-Stat.is (c.with_stat.ensures t)
    (λ i. number Kind.stat ∷ number c.in-Stat.i ∷ number (v i) ∷ [])

pub returns-in-Time : goal.returns-in-Time
unfolding scene_with apply fill
returns-in-Time c t n =
    ap (with_tables no_tables) (c.with_time.ensures t)
    ∙ after_match c.args.x t (placed c.args.text.now) _ _ c.in-Time.is

pub returns-in-Serverinfo : goal.returns-in-Serverinfo
unfolding scene_with apply fill
returns-in-Serverinfo c t n =
    ap (with_tables no_tables) (c.cleared_rest.ensures t)
    ∙ after_match c.args.x t (placed c.args.text.now) _ _ c.in-Serverinfo.is

pub returns-in-Frags : goal.returns-in-Frags
unfolding scene_with apply fill
returns-in-Frags c t n =
    let v = same_bits w16 c.in-Frags.v _ (record { sfits = omega arith }) refl in
    after_call c.args.x t (placed c.args.text.now) c.with_frags.result _ _ _ c.in-Frags.is (c.with_frags.ensures t)
    (λ i. number Kind.frags ∷ number c.in-Frags.p.0 ∷ number (v i) ∷ [])

pub returns-in-Clientdata : goal.returns-in-Clientdata
unfolding scene_with apply fill
returns-in-Clientdata c t n =
    after_call c.args.x t (placed c.args.text.now) c.with_client.result _ _ _ c.in-Clientdata.is (c.with_client.ensures t)
    c.fill_client.ensures

pub returns-in-Colours : goal.returns-in-Colours
unfolding scene_with apply fill
returns-in-Colours c t n =
    after_call c.args.x t (placed c.args.text.now) c.with_colours.result _ _ _ c.in-Colours.is (c.with_colours.ensures t) refl

pub returns-in-Killed : goal.returns-in-Killed
unfolding scene_with apply fill
returns-in-Killed c t n =
    after_call c.args.x t (placed c.args.text.now) c.raised.result _ _ (number Kind.killed ∷ []) c.in-Killed.is
    (c.raised.ensures t) refl

pub returns-in-Secret : goal.returns-in-Secret
unfolding scene_with apply fill
returns-in-Secret c t n =
    after_call c.args.x t (placed c.args.text.now) c.raised-in-Secret.result _ _ (number Kind.secret ∷ []) c.in-Secret.is
    (c.raised-in-Secret.ensures t) refl

pub returns-in_default : goal.returns-in_default
returns-in_default c t n =
    let a = c.args in
    quiet-after a.x a.m (opened c.in_default.in_default-own.keys13) t (placed a.text.now) n
