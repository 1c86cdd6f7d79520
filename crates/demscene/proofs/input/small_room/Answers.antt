-- A lemma on repeats, since counting the list out is past what antt can hold.
use Rattle.std.proofs.Common.{ℕ, sym}
use Rattle.std.proofs.lemmas.List.{length-replicate}
use Rattle.demscene.proofs.input.small_room.Goals as goal

pub returns : goal.returns
returns c = sym {0} (length-replicate {0} {A = ℕ} 1048576 0)
