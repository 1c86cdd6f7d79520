-- The structs of messages as numbers, and back, so that each is fixed by its numbers.
-- Assumes nothing.
use mir.Syntax.{w8, w16, w32}
use denote.Struct.Field.{uint_field, sint_field}
use Rattle.wire.proofs.FieldLaws.{AsNumbers, unsigned, signed, struct}
use Rattle.dem_types.specs.contracts.Player as PlayerType
use Rattle.dem_types.specs.contracts.Entity as EntityType
use Rattle.dem_types.specs.contracts.Vector as VectorType
use Rattle.dem_types.specs.contracts.Look as LookType
use Rattle.dem_types.specs.contracts.Pose as PoseType
use Rattle.dem_types.specs.contracts.Sound as SoundType
use Rattle.dem_types.specs.contracts.Motion as MotionType
use Rattle.dem_types.specs.contracts.Arms as ArmsType
use Rattle.dem_types.specs.contracts.Supplies as SuppliesType
use Rattle.dem_types.specs.contracts.Clientdata as ClientdataType
use Rattle.dem_types.specs.contracts.Particle as ParticleType
use Rattle.dem_types.specs.contracts.Update as UpdateType

abbrev pub byte : AsNumbers (uint_field w8)
byte = unsigned w8

abbrev pub word : AsNumbers (uint_field w16)
word = unsigned w16

abbrev pub four : AsNumbers (uint_field w32)
four = unsigned w32

abbrev pub char : AsNumbers (sint_field w8)
char = signed w8

abbrev pub short : AsNumbers (sint_field w16)
short = signed w16

abbrev pub long : AsNumbers (sint_field w32)
long = signed w32

abbrev pub player : AsNumbers PlayerType.the_field
player = struct PlayerType.struct (λ v. tt) PlayerType.the_propositions (byte, tt)

abbrev pub entity : AsNumbers EntityType.the_field
entity = struct EntityType.struct (λ v. tt) EntityType.the_propositions (word, tt)

abbrev pub vector : AsNumbers VectorType.the_field
vector = struct VectorType.struct (λ v. tt) VectorType.the_propositions (short, (short, (short, tt)))

abbrev pub look : AsNumbers LookType.the_field
look = struct LookType.struct (λ v. tt) LookType.the_propositions (byte, (byte, (byte, (byte, tt))))

abbrev pub pose : AsNumbers PoseType.the_field
pose = struct PoseType.struct (λ v. tt) PoseType.the_propositions (short, (char, (short, (char, (short, (char, tt))))))

abbrev pub sound : AsNumbers SoundType.the_field
sound = struct SoundType.struct (λ v. tt) SoundType.the_propositions (byte, (byte, (byte, (byte, (entity, (byte, (vector, tt)))))))

abbrev pub motion : AsNumbers MotionType.the_field
motion = struct MotionType.struct (λ v. tt) MotionType.the_propositions (char, (char, (char, (char, (char, (char, (char, (char, tt))))))))

abbrev pub arms : AsNumbers ArmsType.the_field
arms = struct ArmsType.struct (λ v. tt) ArmsType.the_propositions (byte, (byte, (byte, tt)))

abbrev pub supplies : AsNumbers SuppliesType.the_field
supplies = struct SuppliesType.struct (λ v. tt) SuppliesType.the_propositions (short, (byte, (byte, (byte, (byte, (byte, (byte, tt)))))))

abbrev pub clientdata : AsNumbers ClientdataType.the_field
clientdata = struct ClientdataType.struct (λ v. tt) ClientdataType.the_propositions (word, (motion, (long, (arms, (supplies, tt)))))

abbrev pub particle : AsNumbers ParticleType.the_field
particle = struct ParticleType.struct (λ v. tt) ParticleType.the_propositions (vector, (char, (char, (char, (byte, (byte, tt))))))

abbrev pub update : AsNumbers UpdateType.the_field
update = struct UpdateType.struct (λ v. tt) UpdateType.the_propositions (byte, (byte, (entity, (look, (byte, (pose, tt))))))
