use mathlib.Core.Path.{◌≡◌}
use lib.ListN.{length}
use Rattle.dem.specs.Limits.{entity_count}
use Rattle.format.specs.Bytes.{bit_of}
use Rattle.dem_blocks.proofs.Marks.{Made}
use Rattle.dem_blocks.proofs.marks_of.Given as goal

abbrev pub invariant-loop-i : goal.invariant-loop-i
invariant-loop-i l = (length l.present ≡ entity_count) × Made bit_of l.present l.marks l.i
