-- `dem_scene::raised` meets its contract: one more in 32 bits, wrapped, is one more by the bits.
use mathlib.Core.Path.{ap, ◌∙◌}
use Prim.Native.Nat.{ℕ, ◌+◌, ◌%◌, ◌^◌}
use native.Mathlib.Omega.{arith}
use lib.IntN.{pos}
use mir.Syntax.{w32}
use mir.Val.{of_z}
use mir.ValLaws.{of_z-to_z}
use Rattle.dem_scene.specs.Views.{scene_with, with_stats}
use Rattle.dem_scene.proofs.Changes.{set_seen, seen_at}
use Rattle.dem_scene.proofs.raised.Goals as goal

pub returns : goal.returns
unfolding scene_with
returns c t =
    let x = c.args.x in
    let i = c.args.i in
    ap (λ s. with_stats s (scene_with t x))
    (set_seen (of_z w32) x.stats i _ _
    (of_z-to_z w32 _ (record { fits = omega arith }) ∙ ap (λ (n : ℕ). (n + 1) % 2 ^ 32) (seen_at (of_z w32) x.stats i (pos 0))))
