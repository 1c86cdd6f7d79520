-- A read puts what it gives behind what was read before, so that the reader has given both.
use Rattle.std.proofs.Common.{◌≡◌, ℕ, ◌+◌, ◌-◌, ◌≤◌, List, ◌++◌, rules, arith, length, take, drop, sym, ap, ◌∙◌, subst, le_refl, drop_at, length-take-le}
use Rattle.std.proofs.lemmas.List.{drop-append-le}
use Rattle.std.proofs.lemmas.Slice.{take-put_mid_below}
use Rattle.std.proofs.Math.Seq.{take-add, take-append-le}
use Rattle.std.specs.Io.KnownBytes.{Consumes}
use Rattle.std.proofs.KnownBytes.{Consumes-trans}
use borrow.Rule.Slice.PartMut.{put_mid, post_of}
use Rattle.input_pieces.proofs.fill.Goals as goal

-- the bytes from f on, of which the last n are what a write behind the first a put there
put-behind : (f a k n : ℕ) (xs ys : List ℕ) → f ≤ a → a ≤ length xs → n ≤ length ys
    → drop f (take a xs) ++ take n ys ≡ drop f (take (a + n) (put_mid a k xs ys))
put-behind f a k n xs ys low within fits =
    let after = post_of a k xs in
    let long : length (take a xs) ≡ a = length-take-le a xs within in
    let behind : take n (drop a (put_mid a k xs ys)) ≡ take n ys =
    ap (take n) (drop_at (take a xs) (ys ++ after) a long) ∙ take-append-le n ys after fits in
    let whole : take (a + n) (put_mid a k xs ys) ≡ take a xs ++ take n ys =
    take-add a n (put_mid a k xs ys)
    ∙ ap (λ l. l ++ take n (drop a (put_mid a k xs ys))) (take-put_mid_below a k xs ys a (le_refl a) within)
    ∙ ap (λ l. take a xs ++ l) behind in
    let reached : f ≤ length (take a xs) = omega (arith, long, low) in
    sym (ap (drop f) whole ∙ drop-append-le f (take a xs) (take n ys) reached)

pub loop-len-preserved : goal.loop-len-preserved
loop-len-preserved g c =
    let i = c.loop-len.invariant in
    let len = c.loop-len.len in
    let room = c.loop-len.room in
    let n = c.in-Ok.n in
    let part = c.read.new.buf in
    let front = take-put_mid_below len (length room - len) room part c.args.from i.2 i.1 ∙ i.3 in
    let read = put-behind c.args.from len (length room - len) n room part i.2 i.1 c.in-Ok.ensures.bound.0 in
    (search rules, search rules, omega (arith, i.2), front, subst (Consumes _ _) read (Consumes-trans _ _ _ _ _ i.4 c.in-Ok.ensures.bytes.0))
