use mathlib.Core.Path.{◌≡◌}
use lib.ListN.{length}
use lib.Dec.{ltb}
use Rattle.dem.specs.Limits.{entity_count}
use Rattle.dem.proofs.CountLaws.{CountedTo}
use Rattle.dem_blocks.specs.Marks.{marked}
use Rattle.dem_blocks.proofs.Marks.{Made}
use Rattle.dem_blocks.proofs.present_of.Given as goal

abbrev pub invariant-loop-i : goal.invariant-loop-i
invariant-loop-i l =
    (length l.marks ≡ entity_count) × Made (ltb l.since) l.marks l.set l.i × CountedTo (marked l.since l.marks) l.i l.count
