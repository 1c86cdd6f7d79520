-- The bytes of a sound.
use Rattle.std.specs.Prelude.{List, ◌++◌, ℕ, ◌+◌, ◌*◌}
use Rattle.std.proofs.Common.{of_z}
use Rattle.std.specs.Int.{w16}
use Rattle.format.specs.Bytes.{le_write}
use Rattle.dem_types.specs.declared.Vector.{Vector}
use Rattle.dem_scene.specs.declared.FilledSound.{FilledSound}

abbrev pub vector_bytes : Vector → List ℕ
vector_bytes v = le_write 2 (of_z w16 v.x) ++ (le_write 2 (of_z w16 v.y) ++ le_write 2 (of_z w16 v.z))

-- Behind a sound's slots: channel and entity, sound, origin.
abbrev pub place_bytes : FilledSound → List ℕ
place_bytes s = le_write 2 (s.entity.0 * 8 + s.channel) ++ (le_write 1 s.sound ++ vector_bytes s.origin)
