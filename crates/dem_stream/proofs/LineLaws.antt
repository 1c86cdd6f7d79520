-- What is decided of a track line in a recording's first bytes stands, whatever follows them.
-- Assumes nothing.
use mathlib.Core.Path.{◌≡◌, refl, sym, ap, ◌∙◌}
use mathlib.Core.List.{List, [], ◌∷◌, ◌++◌}
use mathlib.Core.Bool.{Bool, true, false, cond, not, ◌&&◌}
use Prim.Native.Nat.{ℕ, zero, suc, ◌-◌, ◌<◌, ◌≤◌}
use native.Mathlib.Omega.{arith}
use borrow.Author.Tests.{le-ltb}
use lib.Dec.{ltb, eqb}
use lib.ListN.{length, length-append}
use Rattle.format.specs.Refusal.{code, wrong_track}
use Rattle.format.specs.Bytes.{Result, found, refused, map_result}
use Rattle.format.specs.Digits.{line_feed, digit_zero}
use Rattle.dem.specs.Track.{TrackLine, track_number, normal_track, write_track, minus_sign, is_digit, most_digits, line_of, read_digits, read_track}
use Rattle.format.specs.Answer.{place_in, result, refusal, reply, written, into_room}
use Rattle.dem.specs.Answer.{track_normal_of, track_normal}
use Rattle.dem_stream.specs.Pieces.{Piece, unused, longest_line, first_line}
use Rattle.dem_stream.specs.Pieces.{line_of as line_taken}

-- What was read, with more bytes behind it.
abbrev followed_by : {A : Type 0} → List ℕ → Result A → Result A
followed_by z (found a rest) = found a (rest ++ z)
followed_by z (refused n left) = refused n (left ++ z)

map_followed : {A B : Type 0} (f : A → B) (z : List ℕ) (q : Result A) → map_result f (followed_by z q) ≡ followed_by z (map_result f q)
map_followed f z (found a rest) = refl
map_followed f z (refused n left) = refl

digits_more : (may_end : Bool) (n : ℕ) (bs z : List ℕ) → n < length bs → read_digits may_end n (bs ++ z) ≡ followed_by z (read_digits may_end n bs)
unfolding read_digits
digits_more may_end n [] z l = let f : ⊥ = omega arith in absurd f
digits_more may_end zero (b ∷ bs) z l = go (may_end && eqb b line_feed)
  where
    go : (x : Bool)
        → ◌≡◌ {A = Result (List ℕ)} (cond x (found [] (bs ++ z)) (refused (code wrong_track) (b ∷ (bs ++ z))))
        (followed_by z (cond x (found [] bs) (refused (code wrong_track) (b ∷ bs))))
    go true = refl
    go false = refl
digits_more may_end (suc n) (b ∷ bs) z l = go (may_end && eqb b line_feed) (is_digit b) (digits_more true n bs z (omega arith))
  where
    put : List ℕ → List ℕ
    put ds = (b - digit_zero) ∷ ds

    go : (x y : Bool) → read_digits true n (bs ++ z) ≡ followed_by z (read_digits true n bs)
        → cond x (found [] (bs ++ z)) (cond y (map_result put (read_digits true n (bs ++ z))) (refused (code wrong_track) (b ∷ (bs ++ z))))
        ≡ followed_by z (cond x (found [] bs) (cond y (map_result put (read_digits true n bs)) (refused (code wrong_track) (b ∷ bs))))
    go true y e = refl
    go false false e = refl
    go false true e = ap (map_result put) e ∙ map_followed put z (read_digits true n bs)

track_more : (bs z : List ℕ) → longest_line ≤ length bs → read_track (bs ++ z) ≡ followed_by z (read_track bs)
unfolding read_track
track_more [] z l = let f : ⊥ = omega arith in absurd f
track_more (b ∷ bs) z l = go (eqb b minus_sign)
  where
    positive : read_digits false most_digits ((b ∷ bs) ++ z) ≡ followed_by z (read_digits false most_digits (b ∷ bs))
    positive = digits_more false most_digits (b ∷ bs) z (omega arith)

    negative : read_digits false most_digits (bs ++ z) ≡ followed_by z (read_digits false most_digits bs)
    negative = digits_more false most_digits bs z (omega arith)

    go : (x : Bool)
        → cond x (map_result (line_of true) (read_digits false most_digits (bs ++ z))) (map_result (line_of false) (read_digits false most_digits ((b ∷ bs) ++ z)))
        ≡ followed_by z (cond x (map_result (line_of true) (read_digits false most_digits bs)) (map_result (line_of false) (read_digits false most_digits (b ∷ bs))))
    go true = ap (map_result (line_of true)) negative ∙ map_followed (line_of true) z (read_digits false most_digits bs)
    go false = ap (map_result (line_of false)) positive ∙ map_followed (line_of false) z (read_digits false most_digits (b ∷ bs))

normal_more : (bs z room : List ℕ) (q : Result TrackLine) → track_normal_of (bs ++ z) room (followed_by z q) ≡ track_normal_of bs room q
normal_more bs z room q = go q
  where
    line : TrackLine → List ℕ
    line t = write_track (normal_track (track_number t))

    same : (rest : List ℕ) → place_in (bs ++ z) (rest ++ z) ≡ place_in bs rest
    same rest = omega (arith, length-append bs z, length-append rest z)

    go : (q : Result TrackLine) → track_normal_of (bs ++ z) room (followed_by z q) ≡ track_normal_of bs room q
    go (found t rest) =
        ap (λ (k : ℕ). into_room (tt {0}) (reply (tt {0}) (result (record { length = length (line t); next = k }))) (line t) room) (same rest)
    go (refused n left) = ap (λ (k : ℕ). written (reply (tt {0}) (refusal n k)) room) (same left)

decided : (last : Bool) (bs : List ℕ) → longest_line ≤ length bs → not last && ltb (length bs) longest_line ≡ false
decided true bs l = refl
decided false bs l = le-ltb (length bs) longest_line l

-- With as many bytes as a line may have, those behind them change nothing.
pub line_stands : (bs z : List ℕ) (last : Bool) (room : List ℕ) → longest_line ≤ length bs → first_line (bs ++ z) last room ≡ first_line bs false room
unfolding first_line track_normal
line_stands bs z last room l =
    ap (λ (b : Bool). cond b undecided (line_taken (track_normal (bs ++ z) room))) (decided last (bs ++ z) (omega (arith, length-append bs z)))
    ∙ ap line_taken (ap (track_normal_of (bs ++ z) room) (track_more bs z l) ∙ normal_more bs z room (read_track bs))
    ∙ sym (ap (λ (b : Bool). cond b undecided (line_taken (track_normal bs room))) (decided false bs l))
  where
    undecided : Piece (Unit {0})
    undecided = record { told = unused 0 0; scene = tt; room = room }
