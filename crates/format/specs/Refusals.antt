-- The refusals that code answers with, as those of document 01.
use Rattle.std.specs.Prelude.{ℕ, Option, None, Some}
use Rattle.format.specs.Refusal as Document
use Rattle.format.specs.declared.refusal.Refusal.{Refusal}
use Rattle.format.specs.declared.refusal.Refused.{Refused}
use Rattle.format.specs.declared.refusal.Refusal.TheVariants.{WrongTrack, CutBlock, LongBlock, WrongAngle, CutMessage, UnknownMessage, WrongString, ReservedBit, WrongNumber, WrongTime, AfterDisconnect, ShortRoom, Unreadable, WrongScene}

abbrev pub refusal_of : Refusal → Document.Refusal
refusal_of WrongTrack = Document.wrong_track
refusal_of CutBlock = Document.cut_block
refusal_of LongBlock = Document.long_block
refusal_of WrongAngle = Document.wrong_angle
refusal_of CutMessage = Document.cut_message
refusal_of UnknownMessage = Document.unknown_message
refusal_of WrongString = Document.wrong_string
refusal_of ReservedBit = Document.reserved_bit
refusal_of WrongNumber = Document.wrong_number
refusal_of WrongTime = Document.wrong_time
refusal_of AfterDisconnect = Document.after_disconnect
refusal_of ShortRoom = Document.short_room
refusal_of Unreadable = Document.unreadable
refusal_of WrongScene = Document.wrong_scene

abbrev pub number_of : Refusal → ℕ
number_of r = Document.code (refusal_of r)

-- The refusal met behind what was read up to a place, 0 for none, and its place, which is then that one.
abbrev pub refusal_in : Option Refused → ℕ
refusal_in None = 0
refusal_in (Some r) = number_of r.refusal

abbrev pub place_in : ℕ → Option Refused → ℕ
place_in next None = next
place_in next (Some r) = r.place
