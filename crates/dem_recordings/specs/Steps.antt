-- How code goes about a whole recording: what it hands on says of the answer.
use Rattle.std.specs.Prelude.{Result, Ok, Err}
use Rattle.format.specs.declared.refusal.Refused.{Refused}
use Rattle.format.specs.Refusals.{number_of}
use Rattle.format.specs.Answer.{Reply, reply, result, refusal}
use Rattle.dem.specs.Scene.{Scene as Described, fresh}
use Rattle.dem_scene.specs.Views.{scene_of}
use Rattle.dem_scene.specs.declared.Scene.{Scene}

-- A result and the scene after it, or a refusal in the scene at the start.
abbrev pub from_start : {A B : Type 0} → (A → B) → Result (A × Scene) Refused → Reply Described B
from_start f (Ok p) = reply (scene_of p.1) (result (f p.0))
from_start f (Err r) = reply fresh (refusal (number_of r.refusal) r.place)
