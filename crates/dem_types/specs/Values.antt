-- Document 01's number and values of each message as sent.
use Rattle.std.specs.Prelude.{List, [], ◌∷◌, ◌++◌, ℕ, ℤ, Option, Some, None}
use Rattle.std.proofs.Math.Option as Math
use Rattle.std.proofs.Common.{of_z}
use Rattle.std.specs.Int.{w8, w16, w32}
use Rattle.dem.specs.Kind
use Rattle.format.specs.Layout.{Value, number, text}
use Rattle.dem.specs.Message.{explosion2_type}
use Rattle.wire.specs.Reads.{placed}
use Rattle.wire.specs.declared.Text.{Text}
use Rattle.strings.specs.Names.{names_in}
use Rattle.dem_types.specs.declared.Vector.{Vector}
use Rattle.dem_types.specs.declared.Look.{Look}
use Rattle.dem_types.specs.declared.Pose.{Pose}
use Rattle.dem_types.specs.declared.Sound.{Sound}
use Rattle.dem_types.specs.declared.Serverinfo.{Serverinfo}
use Rattle.dem_types.specs.declared.Motion.{Motion}
use Rattle.dem_types.specs.declared.Arms.{Arms}
use Rattle.dem_types.specs.declared.Supplies.{Supplies}
use Rattle.dem_types.specs.declared.Clientdata.{Clientdata}
use Rattle.dem_types.specs.declared.Particle.{Particle}
use Rattle.dem_types.specs.declared.Update.{Update}
use Rattle.dem_types.specs.declared.Temporary.{Temporary}
use Rattle.dem_types.specs.declared.Temporary.TheVariants.{Point, Line, Explosion2}
use Rattle.dem_types.specs.declared.Message.{Message}
use Rattle.dem_types.specs.declared.Message.TheVariants as M

-- Signed numbers by their bits.
abbrev pub char : ℤ → Value
char z = number (of_z w8 z)

abbrev pub short : ℤ → Value
short z = number (of_z w16 z)

abbrev pub long : ℤ → Value
long z = number (of_z w32 z)

abbrev pub vector_values : Vector → List Value
vector_values v = short v.x ∷ short v.y ∷ short v.z ∷ []

abbrev pub look_values : Look → List Value
look_values l = number l.model ∷ number l.frame ∷ number l.colormap ∷ number l.skin ∷ []

abbrev pub pose_values : Pose → List Value
pose_values p =
    short p.x ∷ char p.angle0 ∷ short p.y ∷ char p.angle1 ∷ short p.z ∷ char p.angle2 ∷ []

abbrev pub sound_values : Sound → List Value
sound_values s =
    number s.mask ∷ number s.volume ∷ number s.attenuation ∷ number s.channel ∷ number s.entity.0 ∷ number s.sound
    ∷ vector_values s.origin

abbrev pub temporary_values : Temporary → List Value
temporary_values (Point k v) = number k ∷ vector_values v
temporary_values (Line k e v w) = number k ∷ number e.0 ∷ (vector_values v ++ vector_values w)
temporary_values (Explosion2 v first count) = number explosion2_type ∷ (vector_values v ++ number first ∷ number count ∷ [])

abbrev pub serverinfo_values : (Text → List ℕ) → Serverinfo → List Value
serverinfo_values t s =
    long s.protocol ∷ number s.limit ∷ number s.game ∷ text (t s.map) ∷ names_in [] (t s.names)

abbrev pub motion_values : Motion → List Value
motion_values m =
    char m.view_height ∷ char m.pitch ∷ char m.punch0 ∷ char m.velocity0 ∷ char m.punch1 ∷ char m.velocity1
    ∷ char m.punch2 ∷ char m.velocity2 ∷ []

abbrev pub arms_values : Arms → List Value
arms_values a = number a.weapon_frame ∷ number a.armour ∷ number a.weapon_model ∷ []

abbrev pub supplies_values : Supplies → List Value
supplies_values s =
    short s.health ∷ number s.ammo ∷ number s.count0 ∷ number s.count1 ∷ number s.count2 ∷ number s.count3
    ∷ number s.weapon ∷ []

abbrev pub client_values : Clientdata → List Value
client_values c =
    number c.mask ∷ (motion_values c.motion ++ (long c.items ∷ (arms_values c.arms ++ supplies_values c.supplies)))

abbrev pub particle_values : Particle → List Value
particle_values p =
    vector_values p.origin ++ (char p.direction0 ∷ char p.direction1 ∷ char p.direction2 ∷ number p.count
    ∷ number p.colour ∷ [])

abbrev pub update_values : Update → List Value
update_values u =
    number u.number ∷ number u.high ∷ number u.entity.0 ∷ (look_values u.look ++ (number u.effects ∷ pose_values u.pose))

-- A message whose strings are the bytes that t says.
abbrev pub values_by : (Text → List ℕ) → Message → List Value
values_by t M.Nop = number 1 ∷ []
values_by t M.Disconnect = number Kind.disconnect ∷ []
values_by t (M.Stat i v) = number Kind.stat ∷ number i ∷ long v ∷ []
values_by t (M.Version v) = number 4 ∷ long v ∷ []
values_by t (M.View e) = number Kind.view ∷ number e.0 ∷ []
values_by t (M.Sound s) = number Kind.sound ∷ sound_values s
values_by t (M.Time v) = number Kind.time ∷ number v ∷ []
values_by t (M.Print p) = number 8 ∷ text (t p) ∷ []
values_by t (M.Stufftext p) = number 9 ∷ text (t p) ∷ []
values_by t (M.SetAngles a b c) = number 10 ∷ char a ∷ char b ∷ char c ∷ []
values_by t (M.Serverinfo s) = number Kind.serverinfo ∷ serverinfo_values t s
values_by t (M.Style i p) = number 12 ∷ number i ∷ text (t p) ∷ []
values_by t (M.Name p n) = number 13 ∷ number p.0 ∷ text (t n) ∷ []
values_by t (M.Frags p v) = number Kind.frags ∷ number p.0 ∷ short v ∷ []
values_by t (M.Clientdata c) = number Kind.clientdata ∷ client_values c
values_by t (M.Stopsound c e) = number 16 ∷ number c ∷ number e.0 ∷ []
values_by t (M.Colours p v) = number Kind.colours ∷ number p.0 ∷ number v ∷ []
values_by t (M.Particle p) = number 18 ∷ particle_values p
values_by t (M.Damage a b v) = number 19 ∷ number a ∷ number b ∷ vector_values v
values_by t (M.Static l p) = number Kind.static ∷ (look_values l ++ pose_values p)
values_by t (M.Baseline e l p) = number Kind.baseline ∷ number e.0 ∷ (look_values l ++ pose_values p)
values_by t (M.Temporary k) = number Kind.temporary ∷ temporary_values k
values_by t (M.Pause v) = number Kind.pause ∷ number v ∷ []
values_by t (M.Signon v) = number 25 ∷ number v ∷ []
values_by t (M.Centerprint p) = number 26 ∷ text (t p) ∷ []
values_by t M.Killed = number Kind.killed ∷ []
values_by t M.Secret = number Kind.secret ∷ []
values_by t (M.StaticSound v a b c) = number 29 ∷ (vector_values v ++ (number a ∷ number b ∷ number c ∷ []))
values_by t M.Intermission = number 30 ∷ []
values_by t (M.Finale p) = number 31 ∷ text (t p) ∷ []
values_by t (M.Track a b) = number 32 ∷ number a ∷ number b ∷ []
values_by t M.Sellscreen = number 33 ∷ []
values_by t (M.Cutscene p) = number 34 ∷ text (t p) ∷ []
values_by t (M.Update u) = update_values u

-- The bits of the latest time, or none yet.
abbrev pub time_of : Option ℕ → Math.Option ℕ
time_of None = Math.none
time_of (Some bits) = Math.some bits

-- A message that was read from these bytes.
abbrev pub values_of : List ℕ → Message → List Value
values_of s m = values_by (placed s) m
