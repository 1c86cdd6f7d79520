-- Bytes put into room one after the other: those so far, and the next, are those so far.
-- Assumes nothing.
use mathlib.Core.Path.{◌≡◌, ap, sym, ◌∙◌}
use mathlib.Core.List.{List, [], ◌∷◌, ◌++◌, append_assoc, append-nil}
use Prim.Native.Nat.{ℕ, suc, ◌+◌, ◌-◌, ◌/◌, ◌%◌, ◌≤◌, ◌<◌, min}
use native.Mathlib.Omega.{arith}
use native.Mathlib.Numerals.{add-one}
use lib.ListN.{length, get_or, set, take, drop, length-append, length-take, length-drop, drop_of_length-le}
use lib.Seq.{sets, take-suc-set, drop-cons, get_or-take, get_or-drop}
use Rattle.std.proofs.lemmas.List.{take_all}
use Rattle.format.specs.Bytes.{le_write}
use Rattle.format.proofs.ByteLaws.{le-length}
use Rattle.format.proofs.ListLaws.{sets_append}
use Rattle.wire.specs.Reads.{text_in}
use Rattle.dem_writer.specs.declared.Piece.{Piece}
use Rattle.dem_writer.specs.Bytes.{piece_bytes, bytes_of}

-- One byte more of a number.
pub number_step : (xs whole : List ℕ) (w k v : ℕ) → k < w → k < length xs → take k xs ++ le_write (w - k) v ≡ whole
    → take (k + 1) (set xs k (v % 256)) ++ le_write (w - (k + 1)) (v / 256) ≡ whole
number_step xs whole w k v h g e =
    let f : w - k ≡ suc (w - (k + 1)) = omega arith in
    let later = le_write (w - (k + 1)) (v / 256) in
    ap (λ (n : ℕ). take n (set xs k (v % 256)) ++ later) (add-one k)
    ∙ ap (λ (l : List ℕ). l ++ later) (take-suc-set xs k (v % 256) g)
    ∙ append_assoc (take k xs) (v % 256 ∷ []) later
    ∙ ap (λ (n : ℕ). take k xs ++ le_write n v) (sym f)
    ∙ e

-- All of its bytes.
pub number_whole : (xs whole : List ℕ) (w k v : ℕ) → k ≡ w → length xs ≡ w → take k xs ++ le_write (w - k) v ≡ whole → xs ≡ whole
number_whole xs whole w k v h g e =
    let f : w - k ≡ 0 = omega arith in
    sym (take_all k xs (omega arith)) ∙ sym (append-nil (take k xs)) ∙ ap (λ (n : ℕ). take k xs ++ le_write n v) (sym f) ∙ e

-- A byte of a text.
pub text_byte : (t : List ℕ) (start len k : ℕ) → k < length (take len (drop start t)) → get_or t (start + k) 0 ≡ get_or (take len (drop start t)) k 0
text_byte t start len k h =
    sym (get_or-take len (drop start t) k 0 (omega (arith, length-take len (drop start t))) ∙ get_or-drop start t k 0)

pub text-length : (t : List ℕ) (start len : ℕ) → length (take len (drop start t)) ≡ min len (length t - start)
text-length t start len = simp (length-take, length-drop)

-- ---- pieces

pub piece-size : (t : List ℕ) (p : Piece) → length (piece_bytes t p) ≡ length (text_in t p.text) + p.width
piece-size t p = simp (length-append, le-length)

-- The i-th of them, and those behind it.
pub pieces_more : (t : List ℕ) (ps : List Piece) (i : ℕ) (d : Piece) → i < length ps
    → bytes_of t (drop i ps) ≡ piece_bytes t (get_or ps i d) ++ bytes_of t (drop (i + 1) ps)
unfolding bytes_of
pieces_more t ps i d h = rw (add-one, drop-cons ps i d)

pub pieces_none : (t : List ℕ) (ps : List Piece) (i : ℕ) → length ps ≤ i → bytes_of t (drop i ps) ≡ []
unfolding bytes_of
pieces_none t ps i h = rw (drop_of_length-le ps {i = i} h)

-- One piece more: its text, then its number.
module _ (t : List ℕ) (ps : List Piece) (i : ℕ) (d : Piece) (h : i < length ps) where
  abbrev piece : Piece
  piece = get_or ps i d

  abbrev words : List ℕ
  words = text_in t piece.text

  abbrev digits : List ℕ
  digits = le_write piece.width piece.value

  abbrev left : List ℕ
  left = bytes_of t (drop (i + 1) ps)

  pub size_more : length (bytes_of t (drop i ps)) ≡ length words + piece.width + length left
  size_more =
      ap length (pieces_more t ps i d h) ∙ length-append (words ++ digits) left
      ∙ ap (λ (n : ℕ). n + length left) (piece-size t piece)

  module _ (s a b : List ℕ) (at m r : ℕ) (ea : a ≡ sets s at words) (em : m ≡ at + length words) (eb : b ≡ sets a m digits)
      (er : r ≡ m + piece.width) where
    put : b ≡ sets s at (words ++ digits)
    put = eb ∙ ap (λ (k : ℕ). sets a k digits) em ∙ ap (λ (z : List ℕ). sets z (at + length words) digits) ea ∙ sets_append s at words digits

    size : r ≡ at + length (words ++ digits)
    size = simp (length-append, le-length) (omega arith)

    pub step-size : r + length left ≡ at + length (bytes_of t (drop i ps))
    step-size = omega (arith, size, ap length (pieces_more t ps i d h), length-append (words ++ digits) left)

    pub step_room : sets b r left ≡ sets s at (bytes_of t (drop i ps))
    step_room =
        ap (λ (k : ℕ). sets b k left) size ∙ ap (λ (z : List ℕ). sets z (at + length (words ++ digits)) left) put
        ∙ sets_append s at (words ++ digits) left ∙ ap (sets s at) (sym (pieces_more t ps i d h))
