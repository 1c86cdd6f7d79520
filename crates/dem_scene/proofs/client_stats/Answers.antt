-- `dem_scene::client_stats` meets its contract: the stats set one after another are those that the definition sets, by their bits.
use mathlib.Core.Path.{◌∙◌}
use mathlib.Core.List.{[], ◌∷◌}
use native.Mathlib.Omega.{arith}
use Prim.Native.Nat.{◌<◌}
use lib.Signed.{mag}
use mir.Syntax.{w16}
use mir.ValLaws.{to_z-of_z}
use Rattle.dem_scene.proofs.Changes.{extended, stored, client-stats_seen}
use Rattle.dem_scene.proofs.client_stats.Goals as goal

pub returns : goal.returns
returns c =
    let z = c.args.c.supplies.health in
    let f : mag z < 32768 = omega arith in
    let health = stored c.from.result z c.from.type_inv (c.from.ensures ∙ to_z-of_z w16 z (record { sfits = f })) ∙ extended z f in
    let e2 = stored c.from-2.result _ c.from-2.type_inv c.from-2.ensures in
    let e3 = stored c.from-3.result _ c.from-3.type_inv c.from-3.ensures in
    let e4 = stored c.from-4.result _ c.from-4.type_inv c.from-4.ensures in
    let e5 = stored c.from-5.result _ c.from-5.type_inv c.from-5.ensures in
    let e6 = stored c.from-6.result _ c.from-6.type_inv c.from-6.ensures in
    let e7 = stored c.from-7.result _ c.from-7.type_inv c.from-7.ensures in
    let e8 = stored c.from-8.result _ c.from-8.type_inv c.from-8.ensures in
    let e9 = stored c.from-9.result _ c.from-9.type_inv c.from-9.ensures in
    let e10 = stored c.from-10.result _ c.from-10.type_inv c.from-10.ensures in
    let rest =
    c.from-2.result ∷ c.from-3.result ∷ c.from-4.result ∷ c.from-5.result ∷ c.from-6.result ∷ c.from-7.result ∷ c.from-8.result
    ∷ c.from-9.result ∷ c.from-10.result ∷ [] in
    client-stats_seen c.args.stats c.from.result rest _ _ health
    (λ i. e2 i ∷ e3 i ∷ e4 i ∷ e5 i ∷ e6 i ∷ e7 i ∷ e8 i ∷ e9 i ∷ e10 i ∷ [])
