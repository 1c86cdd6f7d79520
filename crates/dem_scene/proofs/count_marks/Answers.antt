-- `dem_scene::count_marks` meets its contract: each turn counts one mark more.
use mathlib.Core.Path.{◌≡◌, refl, ◌∙◌}
use mathlib.Core.Bool.{Bool, true, false}
use native.Mathlib.Omega.{arith}
use mir.Val.{bool_byte}
use Rattle.format.specs.Bytes.{bit_of}
use Rattle.dem.proofs.CountLaws.{counted_more, counted_few}
use Rattle.dem_scene.proofs.count_marks.Goals as goal

one : (b : Bool) → bool_byte b ≡ bit_of b
one true = refl
one false = refl

pub loop-set-preserved : goal.loop-set-preserved
loop-set-preserved c =
    let l = c.loop-set in
    let m = counted_more c.args.present.now l.set-index l.count l.invariant.counted false (omega arith) in
    let e = c.from-count.ensures ∙ one _ in
    record { counted = (m.0, omega (arith, m.1, e)); few = omega (arith, counted_few _ _ _ m, e) }
