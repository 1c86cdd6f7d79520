-- `dem_stream::first_line` meets its contract: a line that was put is within the piece and the room.
use Rattle.dem_messages.specs.Replies.{normalised_of}
use Rattle.dem_stream.proofs.AnswerLaws.{line_within}
use Rattle.dem_stream.proofs.first_line.Goals as goal

pub returns-in-Ok-clause-within : goal.returns-in-Ok-clause-within
returns-in-Ok-clause-within c =
    line_within c.args.bytes.now c.args.room.now (normalised_of c.in-Ok.line) c.normal_track.new.room c.in-Ok.ensures
