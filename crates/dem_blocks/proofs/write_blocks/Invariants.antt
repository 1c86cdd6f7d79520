-- What the loops of `write_blocks` keep: that over blocks, that over a block's messages, and those over updates inside it.
use mathlib.Core.List.{[], ◌∷◌}
use Prim.Native.Nat.{◌-◌, ◌≤◌}
use lib.ListN.{length}
use Rattle.format.specs.Layout.{number}
use Rattle.dem_scene.specs.Views.{scene_of}
use Rattle.dem_blocks.specs.Runs.{so_far}
use Rattle.dem_blocks.specs.Marks.{marked}
use Rattle.dem_blocks.proofs.Turns.{inside}
use Rattle.dem_blocks.proofs.Arms.{held}
use Rattle.dem_blocks.proofs.Places.{Along, Blocks}
use Rattle.dem_blocks.proofs.write_blocks.Given as goal

-- The loop over messages.
abbrev pub invariant-loop-at : goal.invariant-loop-at
invariant-loop-at l =
    let angles = number l.h.angle0 ∷ number l.h.angle1 ∷ number l.h.angle2 ∷ [] in
    Along (inside (scene_of l.given) l.d l.on l.stores l.room l.base l.blocks (l.most - l.blocks - 1) l.start l.end angles l.written l.out) l.on l.s l.end
    l.initial.messages (held l.initial.baselines l.initial.records (marked l.initial.since l.initial.marks) l.initial.rest) [] l.initial.at l.messages (held l.baselines l.records (marked l.since l.marks) l.rest) l.body l.at l.scratch.size l.scratch.kept l.marks l.since

abbrev pub decreases-loop-at : goal.decreases-loop-at
decreases-loop-at l = length l.s - l.at

-- The loops over updates inside it, which leave the baselines and the rest as they are and do not go back.
abbrev pub invariant-loop-at-2 : goal.invariant-loop-at-2
invariant-loop-at-2 l =
    let angles = number l.h.angle0 ∷ number l.h.angle1 ∷ number l.h.angle2 ∷ [] in
    Along (inside (scene_of l.given) l.d l.on l.stores l.room l.base l.blocks (l.most - l.blocks - 1) l.start l.end angles l.written l.out) l.on l.s l.end
    l.initial.messages (held l.baselines l.initial.records (marked l.since l.initial.marks) l.rest) (so_far l.on l.body l.scratch.size l.s l.scratch.kept l.initial.at) l.initial.at l.messages (held l.baselines l.records (marked l.since l.marks) l.rest) l.body l.at l.scratch.size l.scratch.kept l.marks l.since
    × (l.initial.at ≤ l.at)

abbrev pub decreases-loop-at-2 : goal.decreases-loop-at-2
decreases-loop-at-2 l = length l.s - l.at

abbrev pub invariant-loop-at-3 : goal.invariant-loop-at-3
invariant-loop-at-3 l =
    let angles = number l.h.angle0 ∷ number l.h.angle1 ∷ number l.h.angle2 ∷ [] in
    Along (inside (scene_of l.given) l.d l.on l.stores l.room l.base l.blocks (l.most - l.blocks - 1) l.start l.end angles l.written l.out) l.on l.s l.end
    l.initial.messages (held l.baselines l.initial.records (marked l.since l.initial.marks) l.rest) (so_far l.on l.body l.scratch.size l.s l.scratch.kept l.initial.at) l.initial.at l.messages (held l.baselines l.records (marked l.since l.marks) l.rest) l.body l.at l.scratch.size l.scratch.kept l.marks l.since
    × (l.initial.at ≤ l.at)

abbrev pub decreases-loop-at-3 : goal.decreases-loop-at-3
decreases-loop-at-3 l = length l.s - l.at

-- The loop over blocks.
abbrev pub invariant-loop-blocks : goal.invariant-loop-blocks
invariant-loop-blocks l =
    Blocks l.d l.from l.most l.given l.on l.room l.initial.out l.base l.stores l.out l.baselines l.records l.marks l.since l.rest l.body l.start l.blocks l.messages l.written l.refused

abbrev pub decreases-loop-blocks : goal.decreases-loop-blocks
decreases-loop-blocks l = l.most - l.blocks
