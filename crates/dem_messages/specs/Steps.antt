-- How code goes about a message: what its steps on the way to an answer say of it.
use Rattle.std.specs.Prelude.{◌≡◌, List, ℕ, length, take, Option, None, Some, Result, Ok, Err}
use Rattle.format.specs.declared.refusal.Refused.{Refused}
use Rattle.format.specs.Refusals.{number_of}
use Rattle.dem.specs.Scene.{Scene as Described}
use Rattle.dem.specs.Message.{Message as Values, fill, apply}
use Rattle.format.specs.Answer.{result, at_end, refusal, Item, Reply, reply, written, into_room}
use Rattle.dem_types.specs.Places.{values_to}
use Rattle.dem_types.specs.declared.Message.{Message}
use Rattle.dem_messages.specs.Replies.{count_of}

-- A message as sent, its strings in front of the place behind it, says what is filled in and the scene after it.
abbrev pub read_step : Described → List ℕ → Result (Option (Message × ℕ)) Refused → Reply Described (Item Values Values)
read_step t s (Ok (Some p)) =
    let vs = values_to s p.1 p.0 in reply (apply t (fill t vs)) (result (record { sent = vs; filled = fill t vs; next = p.1 }))
read_step t s (Ok None) = reply t at_end
read_step t s (Err r) = reply t (refusal (number_of r.refusal) r.place)

-- A message with these values that was written leads to the scene after it.
abbrev pub write_step : Described → Values → Result ℕ Refused → Reply Described ℕ
write_step t vs (Ok n) = reply (apply t (fill t vs)) (result n)
write_step t vs (Err r) = reply t (refusal (number_of r.refusal) r.place)

-- The bytes at a scratch's front, or none there: those that were read.
abbrev pub chosen : Option ℕ → List ℕ → List ℕ → List ℕ
chosen None read form = read
chosen (Some n) read form = take n form

-- Bytes into room, as an entry leaves it.
abbrev pub Puts : List ℕ → List ℕ → Result ℕ Refused → List ℕ → Type 0
Puts bytes before r after =
    written (reply (tt {0}) (count_of r)) after ≡ into_room (tt {0}) (reply (tt {0}) (result (length bytes))) bytes before
