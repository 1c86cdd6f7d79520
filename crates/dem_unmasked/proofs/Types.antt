-- A temporary entity: its type with its rule, then the fields of the type's kind.
-- Assumes nothing.
use mathlib.Core.Path.{◌≡◌, sym, ap, ap₂, ◌∙◌}
use mathlib.Core.List.{List}
use mathlib.Core.Bool.{Bool, cond}
use Prim.Native.Nat.{ℕ}
use lib.Dec.{eqb}
use Rattle.dem.specs.Limits.{temporary_type_count}
use Rattle.dem.specs.Kind
use Rattle.format.specs.Bytes.{Result, found, bind, read_number}
use Rattle.format.specs.Layout.{number, Layout, done, put, parse}
use Rattle.dem.specs.Scene.{Context}
use Rattle.dem.specs.Message.{below, point, line, explosion2, is_line, explosion2_type, temporary_fields, temporary_kind, row, kind_layout}
use Rattle.dem_parts.specs.Kinds.{kind_in, temporary_in}

pub type_found : (x : Context) (bs rest : List ℕ) (k : ℕ) (l e : Bool)
    → found k rest ≡ read_number 1 (below temporary_type_count) bs → is_line k ≡ l → eqb k explosion2_type ≡ e
    → temporary_in x k (cond l line (cond e explosion2 point)) rest ≡ kind_in x Kind.temporary bs
unfolding kind_in temporary_in kind_layout parse
type_found x bs rest k l e p f g =
    ap₂ (λ (l e : Bool). temporary_in x k (cond l line (cond e explosion2 point)) rest) (sym f) (sym g)
    ∙ ap (λ (r : Result ℕ). put (number Kind.temporary) (bind r (λ v m. put (number v) (parse (fields v) m)))) p
  where
    fields : ℕ → Layout
    fields v = row x (temporary_fields (temporary_kind v)) done
