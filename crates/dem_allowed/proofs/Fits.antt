-- What the types of a message's fields say of its values: each number fits its field. Owning a value of a declared type tells this of
-- each of its fields.
-- Assumes nothing.
use mathlib.Core.List.{List, [], ◌∷◌, ◌++◌}
use Prim.Native.Nat.{ℕ, ◌<◌, ◌^◌}
use lib.IntN.{ℤ}
use mir.Syntax.{Width, w8, w16}
use lib.Signed.{mag}
use mir.Val.{Val, of_z, bits, hbits}
use mir.ValLaws.{of_z_fits}
use denote.Laws.{Is}
use denote.Struct.Declared.{row}
use Rattle.format.specs.Layout.{Value, number, text}
use Rattle.dem_types.specs.Values.{char, vector_values, look_values, pose_values, motion_values, arms_values, supplies_values, particle_values}
use Rattle.dem_types.specs.declared.Vector.{Vector}
use Rattle.dem_types.specs.declared.Look.{Look}
use Rattle.dem_types.specs.declared.Pose.{Pose}
use Rattle.dem_types.specs.declared.Motion.{Motion}
use Rattle.dem_types.specs.declared.Arms.{Arms}
use Rattle.dem_types.specs.declared.Supplies.{Supplies}
use Rattle.dem_types.specs.declared.Particle.{Particle}
use Rattle.dem_types.specs.contracts.Vector as VectorType
use Rattle.dem_types.specs.contracts.Look as LookType
use Rattle.dem_types.specs.contracts.Pose as PoseType
use Rattle.dem_types.specs.contracts.Motion as MotionType
use Rattle.dem_types.specs.contracts.Arms as ArmsType
use Rattle.dem_types.specs.contracts.Supplies as SuppliesType
use Rattle.dem_types.specs.contracts.Particle as ParticleType
use Rattle.dem_allowed.proofs.Steps.{Wide}

-- A signed number's bits.
pub signed : (w : Width) (z : ℤ) → mag z < 2 ^ hbits w → of_z w z < 2 ^ bits w
signed w z h = (of_z_fits w z (record { sfits = h })).fits

pub vector_wide : (v : Vector) (vs : List Val) → Is (row VectorType.the_type) v vs → Wide (2 ∷ 2 ∷ 2 ∷ []) (vector_values v)
vector_wide v vs p =
    let f = p.1.1 in (signed w16 v.x f.0.1, (signed w16 v.y f.1.0.1, (signed w16 v.z f.1.1.0.1, tt)))

pub look_wide : (l : Look) (vs : List Val) → Is (row LookType.the_type) l vs → Wide (1 ∷ 1 ∷ 1 ∷ 1 ∷ []) (look_values l)
look_wide l vs p = let f = p.1.1 in (f.0.1, (f.1.0.1, (f.1.1.0.1, (f.1.1.1.0.1, tt))))

pub pose_wide : (p : Pose) (vs : List Val) → Is (row PoseType.the_type) p vs → Wide (2 ∷ 1 ∷ 2 ∷ 1 ∷ 2 ∷ 1 ∷ []) (pose_values p)
pose_wide p vs q =
    let f = q.1.1 in (
      signed w16 p.x f.0.1,
      (
        signed w8 p.angle0 f.1.0.1,
        (
          signed w16 p.y f.1.1.0.1,
          (
            signed w8 p.angle1 f.1.1.1.0.1,
            (signed w16 p.z f.1.1.1.1.0.1, (signed w8 p.angle2 f.1.1.1.1.1.0.1, tt)),
          ),
        ),
      ),
    )

pub motion_wide : (m : Motion) (vs : List Val) → Is (row MotionType.the_type) m vs
    → Wide (1 ∷ 1 ∷ 1 ∷ 1 ∷ 1 ∷ 1 ∷ 1 ∷ 1 ∷ []) (motion_values m)
motion_wide m vs q =
    let f = q.1.1 in (
      signed w8 m.view_height f.0.1,
      (
        signed w8 m.pitch f.1.0.1,
        (
          signed w8 m.punch0 f.1.1.0.1,
          (
            signed w8 m.velocity0 f.1.1.1.0.1,
            (
              signed w8 m.punch1 f.1.1.1.1.0.1,
              (
                signed w8 m.velocity1 f.1.1.1.1.1.0.1,
                (signed w8 m.punch2 f.1.1.1.1.1.1.0.1, (signed w8 m.velocity2 f.1.1.1.1.1.1.1.0.1, tt)),
              ),
            ),
          ),
        ),
      ),
    )

pub arms_wide : (a : Arms) (vs : List Val) → Is (row ArmsType.the_type) a vs → Wide (1 ∷ 1 ∷ 1 ∷ []) (arms_values a)
arms_wide a vs p = let f = p.1.1 in (f.0.1, (f.1.0.1, (f.1.1.0.1, tt)))

pub supplies_wide : (s : Supplies) (vs : List Val) → Is (row SuppliesType.the_type) s vs
    → Wide (2 ∷ 1 ∷ 1 ∷ 1 ∷ 1 ∷ 1 ∷ 1 ∷ []) (supplies_values s)
supplies_wide s vs p =
    let f = p.1.1 in (
      signed w16 s.health f.0.1,
      (f.1.0.1, (f.1.1.0.1, (f.1.1.1.0.1, (f.1.1.1.1.0.1, (f.1.1.1.1.1.0.1, (f.1.1.1.1.1.1.0.1, tt)))))),
    )

-- One run behind another.
pub both_wide : (ws xs : List ℕ) (us vs : List Value) → Wide ws us → Wide xs vs → Wide (ws ++ xs) (us ++ vs)
both_wide [] xs [] vs p q = q
both_wide [] xs (u ∷ us) vs p q = absurd p
both_wide (w ∷ ws) xs [] vs p q = absurd p
both_wide (w ∷ ws) xs (text t ∷ us) vs p q = absurd p
both_wide (w ∷ ws) xs (number u ∷ us) vs p q = (p.0, both_wide ws xs us vs p.1 q)

pub particle_wide : (p : Particle) (vs : List Val) → Is (row ParticleType.the_type) p vs
    → Wide (2 ∷ 2 ∷ 2 ∷ 1 ∷ 1 ∷ 1 ∷ 1 ∷ 1 ∷ []) (particle_values p)
particle_wide p vs q =
    let f = q.1.1 in
    both_wide (2 ∷ 2 ∷ 2 ∷ []) (1 ∷ 1 ∷ 1 ∷ 1 ∷ 1 ∷ []) (vector_values p.origin)
    (char p.direction0 ∷ char p.direction1 ∷ char p.direction2 ∷ number p.count ∷ number p.colour ∷ [])
    (vector_wide p.origin _ f.0) (
      signed w8 p.direction0 f.1.0.1,
      (
        signed w8 p.direction1 f.1.1.0.1,
        (signed w8 p.direction2 f.1.1.1.0.1, (f.1.1.1.1.0.1, (f.1.1.1.1.1.0.1, tt))),
      ),
    )
