-- What one layout behind another reads to.
-- Assumes nothing.
use mathlib.Core.Path.{◌≡◌, refl, sym, ap, ◌∙◌}
use mathlib.Core.List.{List, ◌∷◌, ◌++◌}
use Prim.Native.Nat.{ℕ, ◌/◌, ◌%◌, ◌^◌}
use Rattle.format.specs.Limits.{string_limit}
use Rattle.format.specs.Bytes.{Result, found, refused, map_result, bind, read_number, read_string}
use Rattle.format.specs.Layout.{Value, number, text, Layout, done, field, split, string, put, parse}

abbrev pub and_then : Layout → Layout → Layout
and_then done k = k
and_then (field w rule f) k = field w rule (λ v. and_then (f v) k)
and_then (split w low rule l) k = split w low rule (and_then l k)
and_then (string rule f) k = string rule (λ t. and_then (f t) k)

-- Values that were read, then those that are read behind them.
abbrev pub read_behind : Result (List Value) → (List ℕ → Result (List Value)) → Result (List Value)
read_behind q next = bind q (λ us rest. map_result (λ ws. us ++ ws) (next rest))

put_behind : (next : List ℕ → Result (List Value)) (v : Value) (q : Result (List Value))
    → read_behind (put v q) next ≡ put v (read_behind q next)
put_behind next v (refused n left) = refl
put_behind next v (found us rest) = go (next rest)
  where
    go : (q : Result (List Value)) → map_result (λ ws. v ∷ us ++ ws) q ≡ put v (map_result (λ ws. us ++ ws) q)
    go (found ws rest) = refl
    go (refused n left) = refl

one_behind : {A : Type 0} (next : List ℕ → Result (List Value)) (q : Result A) (value : A → Value) (f g : A → List ℕ → Result (List Value))
    → ((a : A) (rest : List ℕ) → g a rest ≡ read_behind (f a rest) next)
    → bind q (λ a rest. put (value a) (g a rest)) ≡ read_behind (bind q (λ a rest. put (value a) (f a rest))) next
one_behind next (refused n left) value f g h = refl
one_behind next (found a rest) value f g h = ap (put (value a)) (h a rest) ∙ sym (put_behind next (value a) (f a rest))

pub parse_then : (l k : Layout) (bs : List ℕ) → parse (and_then l k) bs ≡ read_behind (parse l bs) (parse k)
unfolding parse
parse_then done k bs = go (parse k bs)
  where
    go : (q : Result (List Value)) → q ≡ map_result (λ ws. ws) q
    go (found ws rest) = refl
    go (refused n left) = refl
parse_then (field w rule f) k bs =
    one_behind (parse k) (read_number w rule bs) number (λ v rest. parse (f v) rest) (λ v rest. parse (and_then (f v) k) rest)
    (λ v rest. parse_then (f v) k rest)
parse_then (split w low rule l) k bs =
    one_behind (parse k) (read_number w (λ v. rule (v / 2 ^ low)) bs) (λ v. number (v % 2 ^ low))
    (λ v rest. put (number (v / 2 ^ low)) (parse l rest)) (λ v rest. put (number (v / 2 ^ low)) (parse (and_then l k) rest))
    (λ v rest. ap (put (number (v / 2 ^ low))) (parse_then l k rest) ∙ sym (put_behind (parse k) (number (v / 2 ^ low)) (parse l rest)))
parse_then (string rule f) k bs =
    one_behind (parse k) (read_string string_limit rule bs) text (λ t rest. parse (f t) rest) (λ t rest. parse (and_then (f t) k) rest)
    (λ t rest. parse_then (f t) k rest)

-- The first found, then what the second reads, r: values or a refusal.
pub then_found : (l k : Layout) (bs : List ℕ) (us : List Value) (rest : List ℕ) (r : Result (List Value))
    → found us rest ≡ parse l bs → r ≡ parse k rest → map_result (λ ws. us ++ ws) r ≡ parse (and_then l k) bs
then_found l k bs us rest r p q = ap (map_result (λ ws. us ++ ws)) q ∙ ap (λ x. read_behind x (parse k)) p ∙ sym (parse_then l k bs)

pub then_refused : (l k : Layout) (bs : List ℕ) (n : ℕ) (left : List ℕ)
    → refused n left ≡ parse l bs → refused n left ≡ parse (and_then l k) bs
then_refused l k bs n left p = ap (λ x. read_behind x (parse k)) p ∙ sym (parse_then l k bs)
