-- `dem_stream::move_front` meets its contract: what is copied is all between the two places that the room has.
use mathlib.Core.Path.{◌≡◌, sym, ap, ◌∙◌}
use mathlib.Core.List.{List, ◌++◌}
use Prim.Native.Nat.{ℕ, ◌+◌, ◌-◌}
use native.Mathlib.Omega.{arith}
use lib.ListN.{length, take, drop}
use Rattle.std.specs.Prelude.{min}
use Rattle.std.specs.List.{copy_within}
use Rattle.std.proofs.lemmas.List.{length-take, length-drop, take_min}
use Rattle.std.proofs.lemmas.List.Edits.{sets, sets-eq}
use Rattle.dem_stream.specs.Pieces.{between}
use Rattle.dem_stream.proofs.move_front.Goals as goal

moved : (room : List ℕ) (from to end : ℕ) → end ≡ min to (length room) → copy_within room from end 0 ≡ sets room 0 (between room from to)
moved room from to end e =
    let l = drop from room in
    let t = between room from to in
    let n : end - from ≡ min (to - from) (length l) = omega (arith, length-drop from room) in
    let same : take (end - from) l ≡ t = ap (λ (k : ℕ). take k l) n ∙ take_min (to - from) l in
    let size : length t ≡ end - from = length-take (to - from) l ∙ sym n in
    ap (λ (k : List ℕ). take 0 room ++ k ++ drop (0 + (end - from)) room) same
    ∙ ap (λ (k : ℕ). take 0 room ++ t ++ drop (0 + k) room) (sym size)
    ∙ sym (sets-eq t room 0 (omega (arith, size)))

pub returns-clause-room_after : goal.returns-clause-room_after
returns-clause-room_after c =
    let a = c.args in c.copy_within.ensures.after ∙ moved a.room.now a.from a.to c.min-end.result c.min-end.ensures
