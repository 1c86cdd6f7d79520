-- What a layout allows of a message says its kind: an update's number is one of an update's, a temporary entity's type is that of its
-- kind.
-- Assumes nothing.
use mathlib.Core.Path.{◌≡◌, refl, sym, ap, ap₂, ◌∙◌, subst, subst₂}
use mathlib.Core.List.{List, [], ◌∷◌, ◌++◌, append-nil}
use mathlib.Core.Bool.{true}
use Prim.Native.Nat.{ℕ}
use borrow.Author.Tests.{le-leb}
use mir.Val.{of_z}
use mir.Syntax.{w32}
use Rattle.dem.specs.Limits.{name_limit}
use Rattle.dem.specs.Kind
use Rattle.format.specs.Bytes.{le_write, write_string}
use Rattle.format.specs.Layout.{Value, number, text, Layout, done, print, allows, tail}
use Rattle.dem.specs.Scene.{Context}
use Rattle.dem.specs.Message.{Field, byte, chars, version, limit, row, names, kind_layout, layout, update_layout}
use Rattle.dem.specs.Message.{TemporaryKind, point, line, explosion2, temporary_kind, temporary_fields, explosion2_type}
use Rattle.format.proofs.LayoutLaws.{Allowed, allows→}
use Rattle.dem.proofs.MessageLaws.{kind-update}
use Rattle.dem.proofs.ShapeLaws.{update_numbered}
use Rattle.wire.specs.Reads.{text_in}
use Rattle.wire.specs.declared.Text.{Text}
use Rattle.strings.specs.Names.{names_in}
use Rattle.dem_types.specs.Values.{values_by, long as long_value, vector_values, temporary_values, update_values}
use Rattle.dem_types.specs.declared.Entity.{Entity}
use Rattle.dem_types.specs.declared.Vector.{Vector}
use Rattle.dem_types.specs.declared.Update.{Update}
use Rattle.dem_types.specs.declared.Temporary.TheVariants.{Point, Line, Explosion2}
use Rattle.dem_types.specs.declared.Serverinfo.{Serverinfo}
use Rattle.dem_types.specs.declared.Message.{Message}
use Rattle.dem_types.specs.declared.Message.TheVariants as M
use Rattle.dem_writer.specs.declared.Piece.{Piece}
use Rattle.dem_writer.specs.Bytes.{number_piece, text_piece, vector_pieces, bytes_of}
use Rattle.dem_writer.specs.Texts.{TextsOf}
use Rattle.strings.proofs.NameLaws.{lists-print}
use Rattle.dem_writer.proofs.TextLaws.{string_inside, lists_inside}

-- ---- an update

pub update-print : (x : Context) (u : Update) → Allowed (layout x) (update_values u)
    → le_write 1 u.number ++ print (update_layout u.number) (tail (update_values u)) ≡ print (layout x) (update_values u)
unfolding layout print
update-print x u a =
    let n = update_numbered x _ _ _ _ _ _ _ _ _ _ _ _ _ u.number a in
    sym (ap (λ (l : Layout). le_write 1 u.number ++ print l (tail (update_values u)))
    (kind-update x u.number (le-leb Kind.update u.number n)))

-- ---- a temporary entity

temporary-print : (x : Context) (k : ℕ) (t : TemporaryKind) (vs : List Value) → temporary_kind k ≡ t
    → le_write 1 Kind.temporary ++ (le_write 1 k ++ print (row x (temporary_fields t) done) vs) ≡ print (layout x) (number Kind.temporary ∷ number k ∷ vs)
unfolding layout kind_layout print
temporary-print x k t vs e = ap (λ (t : TemporaryKind). le_write 1 Kind.temporary ++ (le_write 1 k ++ print (row x (temporary_fields t) done) vs)) (sym e)

module _ (x : Context) (t : List ℕ) where
  pub point-print : (k : ℕ) (v : Vector) → Allowed (layout x) (number Kind.temporary ∷ temporary_values (Point k v))
      → bytes_of t (number_piece 1 Kind.temporary ∷ number_piece 1 k ∷ vector_pieces v)
      ≡ print (layout x) (number Kind.temporary ∷ temporary_values (Point k v))
  unfolding layout kind_layout print bytes_of
  point-print k v a = temporary-print x k point (vector_values v) (go (temporary_kind k) a.2.2)
    where
      go : (t : TemporaryKind) → Allowed (row x (temporary_fields t) done) (vector_values v) → t ≡ point
      go point a = refl
      go line a = absurd a.2.2.2
      go explosion2 a = absurd a.2.2.2

  pub line-print : (k : ℕ) (e : Entity) (v w : Vector) → Allowed (layout x) (number Kind.temporary ∷ temporary_values (Line k e v w))
      → bytes_of t (number_piece 1 Kind.temporary ∷ number_piece 1 k ∷ number_piece 2 e.0 ∷ (vector_pieces v ++ vector_pieces w))
      ≡ print (layout x) (number Kind.temporary ∷ temporary_values (Line k e v w))
  unfolding layout kind_layout print bytes_of
  line-print k e v w a = temporary-print x k line (tail (temporary_values (Line k e v w))) (go (temporary_kind k) a.2.2)
    where
      go : (t : TemporaryKind) → Allowed (row x (temporary_fields t) done) (tail (temporary_values (Line k e v w))) → t ≡ line
      go point a = absurd a.2.2.2
      go line a = refl
      go explosion2 a = absurd a.2.2.2.2.2

  pub explosion2-print : (v : Vector) (first count : ℕ)
      → bytes_of t (number_piece 1 Kind.temporary ∷ number_piece 1 explosion2_type ∷ (vector_pieces v ++ number_piece 1 first ∷ number_piece 1 count ∷ []))
      ≡ print (layout x) (number Kind.temporary ∷ temporary_values (Explosion2 v first count))
  unfolding layout kind_layout print bytes_of
  explosion2-print v first count = refl

-- ---- any message

-- These pieces are those of a message.
abbrev pub Written : List Piece → Message → Type 0
Written ps m =
    (x : Context) (t : List ℕ) (f : Text → List ℕ) → TextsOf t f → allows (layout x) (values_by f m) ≡ true
    → bytes_of t ps ≡ print (layout x) (values_by f m)

-- A message and pieces that are known to be these.
pub arm : {m n : Message} {ps qs : List Piece} → m ≡ n → ps ≡ qs → Written qs n → Written ps m
arm e f w = subst₂ Written (sym f) (sym e) w

-- ---- serverinfo

abbrev head : List Field
head = version ∷ limit ∷ byte ∷ chars ∷ []

abbrev lists : Layout
lists = names name_limit (names name_limit done)

kind-serverinfo : (x : Context) → kind_layout x Kind.serverinfo ≡ row x head lists
unfolding kind_layout
kind-serverinfo x = refl

abbrev head_values : (Text → List ℕ) → Serverinfo → List Value → List Value
head_values f s vs = long_value s.protocol ∷ number s.limit ∷ number s.game ∷ text (f s.map) ∷ vs

abbrev serverinfo_pieces : Serverinfo → List Piece
serverinfo_pieces s =
    number_piece 1 Kind.serverinfo ∷ number_piece 4 (of_z w32 s.protocol) ∷ number_piece 1 s.limit ∷ number_piece 1 s.game
    ∷ text_piece s.map 1 ∷ text_piece s.names 0 ∷ []

-- Whatever stands behind its row.
head-print : (x : Context) (t : List ℕ) (f : Text → List ℕ) (s : Serverinfo) (l : Layout) (vs : List Value)
    → text_in t s.map ≡ f s.map → text_in t s.names ≡ print l vs
    → bytes_of t (serverinfo_pieces s) ≡ le_write 1 Kind.serverinfo ++ print (row x head l) (head_values f s vs)
unfolding bytes_of print write_string
head-print x t f s l vs d e =
    ap₂ (λ (q r : List ℕ). le_write 1 Kind.serverinfo ++ (le_write 4 (of_z w32 s.protocol) ++ (le_write 1 s.limit ++ (le_write 1 s.game
    ++ ((q ++ (0 ∷ [])) ++ r)))))
    d (append-nil (text_in t s.names ++ []) ∙ append-nil (text_in t s.names) ∙ e)

pub serverinfo-written : (s : Serverinfo) → Written (serverinfo_pieces s) (M.Serverinfo s)
unfolding layout print
serverinfo-written s x t f i a =
    let vs : List Value = names_in [] (f s.names) in
    let b : Allowed (row x head lists) (head_values f s vs) =
    subst (λ (l : Layout). Allowed l (head_values f s vs)) (kind-serverinfo x) (allows→ (layout x) (values_by f (M.Serverinfo s)) a).2 in
    let d : text_in t s.map ≡ f s.map = string_inside t f i s.map b.2.2.2.0 in
    let e : text_in t s.names ≡ f s.names = lists_inside t f i s.names name_limit b.2.2.2.2 in
    head-print x t f s lists vs d (e ∙ sym (lists-print name_limit (f s.names) b.2.2.2.2))
    ∙ ap (λ (l : Layout). le_write 1 Kind.serverinfo ++ print l (head_values f s vs)) (sym (kind-serverinfo x))
