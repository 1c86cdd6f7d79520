use mathlib.Core.Path.{◌≡◌}
use Prim.Native.Nat.{◌-◌, ◌≤◌}
use Rattle.dem.specs.Limits.{name_limit}
use Rattle.format.specs.Layout.{Layout}
use Rattle.strings.specs.Names.{names_then, end_at}
use Rattle.strings.proofs.read_list.Given as goal

-- The list ends as what is left of it does from here.
abbrev pub invariant-loop : goal.invariant-loop
invariant-loop l =
    (l.start ≤ l.at) × ((k : Layout) → end_at l.s (names_then name_limit k) l.start ≡ end_at l.s (names_then (name_limit - l.counter) k) l.at)
