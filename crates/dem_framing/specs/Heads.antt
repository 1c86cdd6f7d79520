-- A block's head without its body: what it reads to, and what an answer about it says.
use Rattle.std.specs.Prelude as Rust
use Rattle.std.specs.Prelude.{List, [], ◌∷◌, ℕ, ◌+◌, length, take, drop, leb, Ok, Err}
use Rattle.dem.specs.Limits.{block_limit, head_size}
use Rattle.format.specs.Refusal.{cut_block, long_block}
use Rattle.format.specs.Bytes.{Result, found, refused, map_result, refused_at, unless, require, le_read}
use Rattle.format.specs.Layout.{Value, number, parse}
use Rattle.dem.specs.Recording.{angle_layout}
use Rattle.format.specs.Refusals.{number_of}
use Rattle.format.specs.declared.refusal.Refused.{Refused}
use Rattle.dem_framing.specs.declared.Head.{Head}

-- A head with this size: the size and the angles. The order of the tests is document 01's.
unfoldable pub sized_head : ℕ → List ℕ → Result (ℕ × List Value)
sized_head size bs =
    require (unless (leb head_size (length bs)) cut_block) bs
    (require (unless (leb size block_limit) long_block) bs
    (require (unless (leb (head_size + size) (length bs)) cut_block) bs
    (map_result (λ angles. (size, angles)) (refused_at bs (parse angle_layout (drop 4 bs))))))

unfoldable pub head_in : List ℕ → Result (ℕ × List Value)
head_in bs = sized_head (le_read (take 4 bs)) bs

-- An answer about the head at a place.
unfoldable pub head_of : List ℕ → ℕ → Rust.Result Head Refused → Result (ℕ × List Value)
head_of s at (Ok h) = found (h.size, number h.angle0 ∷ number h.angle1 ∷ number h.angle2 ∷ []) (drop (at + head_size) s)
head_of s at (Err r) = refused (number_of r.refusal) (drop r.place s)

-- The size alone, where the head and the body are whole.
unfoldable pub size_in : List ℕ → Result ℕ
size_in bs =
    let size = le_read (take 4 bs) in
    require (unless (leb head_size (length bs)) cut_block) bs
    (require (unless (leb size block_limit) long_block) bs
    (require (unless (leb (head_size + size) (length bs)) cut_block) bs (found size (drop 4 bs))))

abbrev pub angle_values : ℕ × ℕ × ℕ → List Value
angle_values a = number a.0 ∷ number a.1 ∷ number a.2 ∷ []
