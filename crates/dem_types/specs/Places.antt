-- Where a message's strings lie: in the bytes that it was read from, in front of the place where it ends.
use Rattle.std.specs.Prelude.{List, [], Bool, true, cond, ◌&&◌, ℕ, ◌+◌, eqb}
use Rattle.format.specs.Layout.{Value}
use Rattle.wire.specs.declared.Text.{Text}
use Rattle.dem_types.specs.declared.Message.{Message}
use Rattle.dem_types.specs.declared.Message.TheVariants as M
use Rattle.dem_types.specs.Values.{values_of}

-- A string and its zero end at a place.
abbrev pub ends_at : ℕ → Text → Bool
ends_at place t = eqb (t.start + t.len + 1) place

-- Whether the strings of a message that ends at a place lie where they were read. Serverinfo's two lists, with their closing empty names,
-- end with it, and the map's name ends where they start.
abbrev pub in_place : ℕ → Message → Bool
in_place end M.Nop = true
in_place end M.Disconnect = true
in_place end (M.Stat i v) = true
in_place end (M.Version v) = true
in_place end (M.View e) = true
in_place end (M.Sound s) = true
in_place end (M.Time v) = true
in_place end (M.Print p) = ends_at end p
in_place end (M.Stufftext p) = ends_at end p
in_place end (M.SetAngles a b c) = true
in_place end (M.Serverinfo s) = ends_at s.names.start s.map && eqb (s.names.start + s.names.len) end
in_place end (M.Style i p) = ends_at end p
in_place end (M.Name p n) = ends_at end n
in_place end (M.Frags p v) = true
in_place end (M.Clientdata c) = true
in_place end (M.Stopsound c e) = true
in_place end (M.Colours p v) = true
in_place end (M.Particle p) = true
in_place end (M.Damage a b v) = true
in_place end (M.Static l p) = true
in_place end (M.Baseline e l p) = true
in_place end (M.Temporary k) = true
in_place end (M.Pause v) = true
in_place end (M.Signon v) = true
in_place end (M.Centerprint p) = ends_at end p
in_place end M.Killed = true
in_place end M.Secret = true
in_place end (M.StaticSound v a b c) = true
in_place end M.Intermission = true
in_place end (M.Finale p) = ends_at end p
in_place end (M.Track a b) = true
in_place end M.Sellscreen = true
in_place end (M.Cutscene p) = ends_at end p
in_place end (M.Update u) = true

-- A message that was read from these bytes and ends at a place; with strings that lie elsewhere it is no message, and has no values.
abbrev pub values_to : List ℕ → ℕ → Message → List Value
values_to s end m = cond (in_place end m) (values_of s m) []
