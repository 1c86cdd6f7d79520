-- Bytes that `copy_from_slice` puts in a part of a room are stored from the part's place on.
-- Assumes nothing.
use mathlib.Core.Path.{◌≡◌, sym, ap, ◌∙◌}
use mathlib.Core.List.{List, ◌++◌, append_assoc}
use Prim.Native.Nat.{ℕ, ◌+◌, ◌≤◌}
use borrow.Rule.Slice.PartMut.{put_mid}
use lib.ListN.{length, take, drop}
use lib.Seq.{sets, sets-eq, drop-drop}

pub put_mid-sets : (s t : List ℕ) (at n : ℕ) → n ≡ length t → at + length t ≤ length s → put_mid at n s t ≡ sets s at t
put_mid-sets s t at n e h =
    ap (λ (l : List ℕ). take at s ++ (t ++ l)) (drop-drop n at s ∙ ap (λ (k : ℕ). drop (at + k) s) e) ∙ sym (append_assoc (take at s) t (drop (at + length t) s)) ∙ sym (sets-eq t s at h)
