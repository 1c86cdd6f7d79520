-- What is seen of a piece and of a track line fixes it, and what the room holds.
-- Assumes nothing.
use mathlib.Core.Path.{◌≡◌, refl, sym, ap, ◌∙◌}
use mathlib.Core.List.{List}
use mathlib.Core.Bool.{Bool, cond}
use Prim.Native.Nat.{ℕ}
use borrow.Author.Tests.{ne_eqb}
use lib.Dec.{eqb}
use Rattle.std.specs.Prelude.{Option, None, Some}
use Rattle.format.specs.declared.refusal.Refused.{Refused}
use Rattle.format.specs.Refusals.{number_of, refusal_in, place_in}
use Rattle.format.proofs.RefusalsBack.{refused_from, refused_back, number_some}
use Rattle.wire.proofs.FieldLaws.{Held}
use Rattle.dem_scene.proofs.Back.{scene_fixed}
use Rattle.dem_stream.specs.Pieces.{place_behind}
use Rattle.dem_stream.specs.Views.{piece_view, line_view}
use Rattle.dem_stream.specs.declared.Piece.{Piece}
use Rattle.dem_stream.specs.declared.FirstLine.{FirstLine}
use Rattle.dem_stream.specs.contracts.Piece as PieceType

-- A refusal, or none, is read back from its number and place.
abbrev behind_from : ℕ → ℕ → Option Refused
behind_from n p = cond (eqb n 0) None (Some (refused_from n p))

behind_back : (place : ℕ) (o : Option Refused) → behind_from (refusal_in o) (place_in place o) ≡ o
behind_back place None = refl
behind_back place (Some r) =
    let n = number_of r.refusal in
    ap (λ (b : Bool). cond b None (Some (refused_from n r.place))) (ne_eqb n 0 (number_some r.refusal)) ∙ ap Some (refused_back r)

behind_fixed : (place place' : ℕ) (o u : Option Refused)
    → behind_from (refusal_in o) (place_in place o) ≡ behind_from (refusal_in u) (place_in place' u) → o ≡ u
behind_fixed place place' o u e = sym (behind_back place o) ∙ e ∙ behind_back place' u

-- Whatever stands before them.
pub piece_fixed : (before before' : ℕ) (r q : Piece) (room room' : List ℕ) → Held PieceType.the_row r → Held PieceType.the_row q
    → piece_view before r room ≡ piece_view before' q room' → (r ≡ q) × (room ≡ room')
piece_fixed before before' r q room room' h k e =
    let scene = scene_fixed r.scene q.scene (_, h.1.1.1.0) (_, k.1.1.1.0) (λ i. (e i).scene) in
    let place = place_behind before r.used in
    let place' = place_behind before' q.used in
    let refused = behind_fixed place place' r.refused q.refused (λ i. behind_from (e i).told.refusal (e i).told.place) in
    ((λ i. record { scene = scene i; used = (e i).told.used; written = (e i).told.written; refused = refused i }), λ i. (e i).room)

pub line_fixed : (r q : FirstLine) (room room' : List ℕ) → line_view r room ≡ line_view q room' → (r ≡ q) × (room ≡ room')
line_fixed r q room room' e =
    let refused = behind_fixed r.used q.used r.refused q.refused (λ i. behind_from (e i).told.refusal (e i).told.place) in
    ((λ i. record { used = (e i).told.used; written = (e i).told.written; refused = refused i }), λ i. (e i).room)
