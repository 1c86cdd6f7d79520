-- `dem_blocks::end_block` meets its contract: what the scratch holds then is what was put so far and the input that was kept, and that is the
-- block's body.
use mathlib.Core.Path.{◌≡◌, refl, sym, ap, ◌∙◌}
use mathlib.Core.List.{List, [], ◌∷◌, ◌++◌}
use mathlib.Core.Bool.{Bool, true, false, cond, ◌&&◌}
use Prim.Native.Nat.{ℕ, ◌+◌, ◌-◌, ◌≤◌}
use native.Mathlib.Omega.{arith}
use lib.ListN.{length, take, drop, length-take, length-drop}
use lib.Seq.{length-take-le}
use Rattle.format.specs.Bytes.{le_write}
use Rattle.format.specs.Layout.{Value, number, print}
use Rattle.dem.specs.Limits.{block_limit, head_size}
use Rattle.dem.specs.Recording.{angle_layout}
use Rattle.format.specs.declared.refusal.Refusal.TheVariants.{ShortRoom}
use Rattle.dem_framing.specs.declared.Head.{Head}
use Rattle.dem_normal.specs.Put.{Put}
use Rattle.dem_blocks.specs.Runs.{put, so_far, block_bytes}
use Rattle.dem_blocks.proofs.Turns.{block-length, put_block_there}
use Rattle.dem_blocks.proofs.end_block.Goals.{After-block_size-n}
use Rattle.dem_blocks.proofs.end_block.Goals as goal

abbrev angles_of : Head → List Value
angles_of h = number h.angle0 ∷ number h.angle1 ∷ number h.angle2 ∷ []

-- The scratch, when input that was kept is put.
module _ (on : Bool) (body after s : List ℕ) (size kept at filled : ℕ) (p : Put body after size filled (cond on (take (at - kept) (drop kept s)) []))
    (few : size + (length s - kept) ≤ block_limit) (room : block_limit ≤ length body) where
  few-filled : filled ≤ block_limit
  few-filled = go on p.2
    where
      go : (on : Bool) → filled ≡ size + length (cond on (take (at - kept) (drop kept s)) []) → filled ≤ block_limit
      go true e = omega (arith, e, few, length-take (at - kept) (drop kept s), length-drop kept s)
      go false e = omega (arith, e, few)

  body-size : length (so_far on body size s kept at) ≡ filled
  body-size = sym (ap length p.0) ∙ length-take-le filled after (omega (arith, few-filled, room, p.1))

  module _ (h : Head) where
    bytes-size : (n : ℕ) → n ≡ cond on (head_size + filled) 0 → n ≡ length (block_bytes on (angles_of h) (so_far on body size s kept at))
    bytes-size n e =
        e ∙ ap (λ (k : ℕ). cond on (head_size + k) 0) (sym body-size) ∙ sym (block-length on h.angle0 h.angle1 h.angle2 (so_far on body size s kept at))

    -- It is stored where it is both wanted and there is room.
    stored : (stores : Bool) (out : List ℕ) (to : ℕ) (b : Bool) → (on && stores) ≡ b
        → put b out to (le_write 4 filled ++ (print angle_layout (angles_of h) ++ take filled after)) ≡ put stores out to (block_bytes on (angles_of h) (so_far on body size s kept at))
    stored stores out to b e =
        ap (λ (x : Bool). put x out to (le_write 4 filled ++ (print angle_layout (angles_of h) ++ take filled after))) (sym e)
        ∙ ap (λ (x : List ℕ). put (on && stores) out to (le_write 4 filled ++ (print angle_layout (angles_of h) ++ x))) p.0
        ∙ put_block_there on stores out to (angles_of h) (so_far on body size s kept at) filled body-size

-- The block's bytes are as many as was said.
size-said : (c : goal.After-block_size-n)
    → let a = c.args in
    c.block_size-n.result ≡ length (block_bytes a.on (angles_of a.h) (so_far a.on a.body.now a.scratch.size a.s.now a.scratch.kept a.at))
size-said c =
    let a = c.args in
    bytes-size a.on a.body.now _ a.s.now a.scratch.size a.scratch.kept a.at c.put_copy-filled.result c.put_copy-filled.ensures c.requires.1 c.requires.2 a.h c.block_size-n.result c.block_size-n.ensures

-- What the room holds, where it suffices.
stored_there : (c : goal.After-block_size-n) (b : Bool)
    → let a = c.args in
    let f = c.put_copy-filled in
    (a.on && a.stores) ≡ b
    → put b a.out.now (a.base + a.written) (le_write 4 f.result ++ (print angle_layout (angles_of a.h) ++ take f.result f.new.out))
    ≡ put a.stores a.out.now (a.base + a.written) (block_bytes a.on (angles_of a.h) (so_far a.on a.body.now a.scratch.size a.s.now a.scratch.kept a.at))
stored_there c b e =
    let a = c.args in
    stored a.on a.body.now _ a.s.now a.scratch.size a.scratch.kept a.at c.put_copy-filled.result c.put_copy-filled.ensures c.requires.1 c.requires.2 a.h a.stores a.out.now (a.base + a.written) b e

pub returns-then-room-written-clause-short : goal.returns-then-room-written-clause-short
returns-then-room-written-clause-short c =
    (ap (λ n. record { refusal = ShortRoom; place = n }) (size-said (goal.at.returns-then-room-written-clause-short c).After-block_size-n), c.if-room-written.true, refl)

pub returns-then-on-stores-clause-put : goal.returns-then-on-stores-clause-put
returns-then-on-stores-clause-put c =
    let b = (goal.at.returns-then-on-stores-clause-put c).After-block_size-n in
    (size-said b, c.if-room-written.false, c.put_block.ensures ∙ stored_there b true c.if-on-stores.true)

pub returns-else-on-stores-clause-put : goal.returns-else-on-stores-clause-put
returns-else-on-stores-clause-put c =
    let b = (goal.at.returns-else-on-stores-clause-put c).After-block_size-n in
    (size-said b, c.if-room-written.false, stored_there b false c.if-on-stores.false)
