-- A run of blocks one turn at a time: a message more of the block that is being read and written, or a block more.
-- Assumes nothing.
use mathlib.Core.Path.{◌≡◌, refl, sym, ap, ap₂, ◌∙◌, subst}
use mathlib.Core.List.{List, [], ◌∷◌, ◌++◌, append_assoc, append-nil}
use mathlib.Core.Bool.{Bool, true, false, cond, ◌&&◌}
use Prim.Native.Nat.{ℕ, zero, suc, ◌+◌, ◌-◌, ◌<◌, ◌≤◌}
use native.Mathlib.Omega.{arith}
use borrow.Author.Tests.{eq-eqb, ne_eqb, lt-ltb, le-ltb, ltb-true, ltb-false, leb-true, leb-false}
use lib.Dec.{leb, ltb, eqb}
use lib.ListN.{length, take, drop, get_or, length-take, length-drop, length-append, drop_of_length-le}
use lib.Seq.{take-nil, drop-cons, drop-drop, length-take-le, sets, length-sets}
use Rattle.format.specs.Refusal.{cut_block, long_block}
use Rattle.format.specs.Bytes.{Bytes, Result, found, refused, map_result, bind, refused_at, unless, require, le_read, le_write}
use Rattle.format.specs.Layout.{Value, number, parse, print}
use Rattle.dem.specs.Scene.{Scene, in_range}
use Rattle.dem.specs.Message.{Message, fill, apply, normal as normal_message}
use Rattle.format.specs.Codec.{after, stopped, WrittenRun, silent, roomless, led, write_on, write_most, read_all, fill_all, apply_all, Each, write_normal}
use Rattle.format.specs.Codec.{normal_bytes, read_before}
use Rattle.dem.specs.Recording.{read_message, messages, Block, angle_layout, block_of, read_body, read_block, write_block, normal_block, fill_block}
use Rattle.dem.specs.Recording.{apply_block, blocks}
use Rattle.dem.specs.Answer.{count_messages}
use Rattle.dem.specs.WellFormed.{GoodMessage}
use Rattle.format.proofs.ResultLaws.{clash, Ranged, suffix-length}
use Rattle.format.proofs.ByteLaws.{take-bytes, drop-bytes, le-length}
use Rattle.format.proofs.CodecLaws.{Taken, after_all, shrinks, all-normal}
use Rattle.format.proofs.ReadLaws.{read_next, all_ranged, all_sound}
use Rattle.dem.proofs.BlockLaws.{message_lawful, message_normalises}
use Rattle.dem.proofs.RangeLaws.{message_range}
use Rattle.std.specs.Prelude.{Ok, Err}
use Rattle.format.specs.Refusals.{number_of}
use Rattle.format.specs.declared.refusal.Refused.{Refused}
use Rattle.dem.specs.Limits.{block_limit, head_size}
use Rattle.dem_framing.specs.Heads.{sized_head, head_in, head_of}
use Rattle.dem_framing.specs.declared.Head.{Head}
use Rattle.dem_framing.proofs.HeadLaws.{block_head}
use Rattle.format.proofs.ListLaws.{sets_append}
use Rattle.dem_blocks.specs.Runs.{Told, refused_in, loaded_until, counted_of, told_of, message_form, block_form, Wrote, put, wrote_of, run_of, block_bytes}
use Rattle.dem.proofs.RefusalLaws.{listed}

take_drop : (m n : ℕ) (l : List ℕ) → take m (drop n l) ≡ drop n (take (n + m) l)
take_drop m zero l = let e : m ≡ 0 + m = omega arith in ap (λ (k : ℕ). take k l) e
take_drop m (suc n) [] = take-nil m ∙ sym (ap (drop (suc n)) (take-nil (suc n + m)))
take_drop m (suc n) (x ∷ l) =
    let e : suc n + m ≡ suc (n + m) = omega arith in
    take_drop m n l ∙ rw e

-- A place before the one to which updates are loaded whole, where they are: it is inside the block, and 18 bytes of the input follow.
pub before_stop : (on : Bool) (len end stop at : ℕ) → stop ≡ cond on (loaded_until len end) 0 → at < stop → (on ≡ true) × (at < end) × (at + 18 ≤ len)
before_stop true len end stop at e l = let w = go (leb end (len - 17)) refl e in (refl, w.0, w.1)
  where
    go : (b : Bool) → leb end (len - 17) ≡ b → stop ≡ cond b end (len - 17) → (at < end) × (at + 18 ≤ len)
    go true q e = omega (arith, leb-true end (len - 17) q)
    go false q e = omega (arith, leb-false end (len - 17) q)
before_stop false len end stop at e l = let z : ⊥ = omega (arith, e, l) in absurd z

-- ---- messages

-- A message that was read in a scene, the scene after it, the place behind it, and its normal form's bytes.
pub record Moved (s : List ℕ) (t : Scene) (at : ℕ) (t' : Scene) (to : ℕ) (form : List ℕ) : Type 0 where
  pub values : List Value
  pub read : read_message t (drop at s) ≡ found values (drop to s)
  pub scene : apply t (fill t values) ≡ t'
  pub normal : normal_bytes messages normal_message t values ≡ form

module _ (s : List ℕ) (h : Bytes s) (t : Scene) (at : ℕ) (t' : Scene) (to : ℕ) (form : List ℕ) (m : Moved s t at t' to form) where
  taken : Taken messages GoodMessage t (drop at s) m.values (drop to s)
  taken = message_lawful.sound t (drop at s) m.values (drop to s) (drop-bytes at s h) m.read

  -- It takes a byte or more.
  pub moved_less : length s - to < length s - at
  moved_less =
      omega (
        arith,
        shrinks messages GoodMessage message_lawful t (drop at s) m.values (drop to s) (drop-bytes at s h) m.read,
        length-drop at s,
        length-drop to s,
      )

  -- Its normal form is no longer.
  pub moved-short : (on : Bool) → length (cond on form []) + (length s - to) ≤ length s - at
  moved-short true =
      omega (
        arith,
        subst (λ (x : List ℕ). length x ≤ length (messages.write t m.values)) m.normal (message_normalises.short t m.values taken.good),
        ap length taken.tiles,
        length-append (messages.write t m.values) (drop to s),
        length-drop at s,
        length-drop to s,
      )
  moved-short false = omega (arith, moved_less)

  pub moved_range : in_range t ≡ true → in_range t' ≡ true
  moved_range r = subst (λ (x : Scene). in_range x ≡ true) m.scene (message_range t m.values taken.good r)

pub block-length : (on : Bool) (a b c : ℕ) (body : List ℕ) → length (block_bytes on (number a ∷ number b ∷ number c ∷ []) body) ≡ cond on (16 + length body) 0
unfolding print
block-length true a b c body = simp (length-append, le-length) (omega arith)
block-length false a b c body = refl

put_nothing : (s : Bool) (out : List ℕ) (at : ℕ) → put s out at [] ≡ out
put_nothing true out at = refl
put_nothing false out at = refl

pub put-length : (s : Bool) (out : List ℕ) (at : ℕ) (bytes : List ℕ) → length (put s out at bytes) ≡ length out
put-length true out at bytes = length-sets out at bytes
put-length false out at bytes = refl

-- A block is stored where it is both wanted and there is room.
pub put_block_there : (on stores : Bool) (out : List ℕ) (at : ℕ) (angles : List Value) (body : List ℕ) (size : ℕ) → length body ≡ size
    → put (on && stores) out at (le_write 4 size ++ (print angle_layout angles ++ body)) ≡ put stores out at (block_bytes on angles body)
put_block_there true stores out at angles body size e = ap (λ (n : ℕ). put stores out at (le_write 4 n ++ (print angle_layout angles ++ body))) (sym e)
put_block_there false true out at angles body size e = refl
put_block_there false false out at angles body size e = refl

abbrev body_of : Bool → Scene → List Message → List ℕ
body_of on t vs = cond on (write_normal messages normal_message t (fill_all messages t vs)) []

grown : (on : Bool) (a x y : List ℕ) → a ++ cond on (x ++ y) [] ≡ (a ++ cond on x []) ++ cond on y []
grown true a x y = sym (append_assoc a x y)
grown false a x y = sym (append-nil (a ++ []))

formed : (on : Bool) (t : Scene) (angles : List Value) (vs : List Message) → Each messages GoodMessage t vs
    → block_form on t (block_of angles vs) ≡ block_bytes on angles (body_of on t vs)
unfolding write_block normal_block fill_block
formed true t angles vs g =
    ap (λ (body : List ℕ). le_write 4 (length body) ++ (print angle_layout angles ++ body)) (all-normal messages GoodMessage normal_message message_normalises t vs g).writes
formed false t angles vs g = refl

-- Inside the block from one place to another, behind b blocks and w bytes of the room, and behind which at most n more are read.
module _ (given : Scene) (d : List ℕ) (on stores : Bool) (room base b n start end : ℕ) (angles : List Value) (w : ℕ) (out : List ℕ) where
  abbrev pub refused_here : ℕ → ℕ → Wrote
  refused_here k place = record { told = refused_in given b start k place; written = w; room = out }

  -- What was told and written, where the block with these bytes is at its end.
  abbrev pub closed : ℕ → Scene → List ℕ → Wrote
  closed m t bytes =
      cond (ltb (room - w) (length bytes)) (refused_here 12 (length bytes))
      (wrote_of given (length d) stores base (b + 1) m (w + length bytes) (put stores out (base + w) bytes)
      (run_of on n (room - (w + length bytes)) t (drop end d)))

  -- The room is short for these bytes, or takes them.
  pub closed-short : (m : ℕ) (t : Scene) (bytes : List ℕ) (size : ℕ) → length bytes ≡ size → room - w < size → closed m t bytes ≡ refused_here 12 size
  closed-short m t bytes size e l =
      ap (λ (x : Bool). cond x (refused_here 12 (length bytes)) (wrote_of given (length d) stores base (b + 1) m (w + length bytes) (put stores out (base + w) bytes) (run_of on n (room - (w + length bytes)) t (drop end d))))
      (lt-ltb (room - w) (length bytes) (omega (arith, e))) ∙ ap (refused_here 12) e

  pub closed_fits : (m : ℕ) (t : Scene) (bytes : List ℕ) (size : ℕ) → length bytes ≡ size → size ≤ room - w
      → closed m t bytes ≡ wrote_of given (length d) stores base (b + 1) m (w + size) (put stores out (base + w) bytes) (run_of on n (room - (w + size)) t (drop end d))
  closed_fits m t bytes size e l =
      ap (λ (x : Bool). cond x (refused_here 12 (length bytes)) (wrote_of given (length d) stores base (b + 1) m (w + length bytes) (put stores out (base + w) bytes) (run_of on n (room - (w + length bytes)) t (drop end d))))
      (le-ltb (room - w) (length bytes) (omega (arith, e)))
      ∙ ap (λ (k : ℕ). wrote_of given (length d) stores base (b + 1) m (w + k) (put stores out (base + w) bytes) (run_of on n (room - (w + k)) t (drop end d))) e

  -- The same, where so many messages and these bytes of the body stand before, from the messages that follow.
  abbrev pub inside : ℕ → Scene → List ℕ → Result (List Message) → Wrote
  inside m t body (found vs rest) = closed (m + length vs) (after_all messages t vs) (block_bytes on angles (body ++ body_of on t vs))
  inside m t body (refused k left) = refused_here k (length d - length (left ++ drop end d))

  inside_one : (m : ℕ) (t : Scene) (body : List ℕ) (v : Message) (q : Result (List Message))
      → inside m t body (map_result (λ vs. v ∷ vs) q) ≡ inside (m + 1) (after messages t v) (body ++ message_form on t v) q
  unfolding fill_all apply_all write_normal
  inside_one m t body v (found vs rest) =
      let k : m + suc (length vs) ≡ m + 1 + length vs = omega arith in
      ap₂ (λ (k : ℕ) (x : List ℕ). closed k (after_all messages (after messages t v) vs) (block_bytes on angles x)) k
      (grown on body (normal_bytes messages normal_message t v) (write_normal messages normal_message (after messages t v) (fill_all messages (after messages t v) vs)))
  inside_one m t body v (refused k left) = refl

  module _ (h : Bytes d) (in? : end ≤ length d) (m : ℕ) (t : Scene) (body : List ℕ) (at : ℕ) where
    unrolled : at < length (take end d)
        → read_all messages t (drop at (take end d))
        ≡ bind (read_message t (drop at (take end d))) (λ v rest. map_result (λ vs. v ∷ vs) (read_all messages (after messages t v) rest))
    unrolled l =
        let e = drop-cons (take end d) at 0 l in
        subst (λ (bs : List ℕ). read_all messages t bs ≡ bind (read_message t bs) (λ v rest. map_result (λ vs. v ∷ vs) (read_all messages (after messages t v) rest)))
        (sym e)
        (read_next messages GoodMessage message_lawful t (get_or (take end d) at 0) (drop (suc at) (take end d))
        (subst Bytes e (drop-bytes at (take end d) (take-bytes end d h))))

    pub on-refused : (k : ℕ) → at < length (take end d) → read_message t (drop at (take end d)) ≡ refused k (drop at (take end d))
        → inside m t body (read_all messages t (drop at (take end d))) ≡ refused_here k at
    on-refused k l q =
        ap (inside m t body) (unrolled l ∙ ap (λ (r : Result Message). bind r (λ v rest. map_result (λ vs. v ∷ vs) (read_all messages (after messages t v) rest))) q)
        ∙ ap (refused_here k)
        (omega (
          arith,
          length-append (drop at (take end d)) (drop end d),
          length-drop at (take end d),
          length-drop end d,
          length-take-le end d in?,
        ))

    pub on_moved : (t' : Scene) (to : ℕ) (form : List ℕ) → at < length (take end d) → Moved (take end d) t at t' to form
        → inside m t body (read_all messages t (drop at (take end d)))
        ≡ inside (m + 1) t' (body ++ cond on form []) (read_all messages t' (drop to (take end d)))
    on_moved t' to form l v =
        ap (inside m t body) (unrolled l ∙ ap (λ (r : Result Message). bind r (λ v rest. map_result (λ vs. v ∷ vs) (read_all messages (after messages t v) rest))) v.read)
        ∙ inside_one m t body v.values (read_all messages (apply t (fill t v.values)) (drop to (take end d)))
        ∙ ap₂ (λ (x : Scene) (y : List ℕ). inside (m + 1) x (body ++ cond on y []) (read_all messages x (drop to (take end d)))) v.scene v.normal

    pub on_end : length (take end d) ≤ at
        → inside m t body (read_all messages t (drop at (take end d))) ≡ closed m t (block_bytes on angles body)
    unfolding read_all write_most fill_all apply_all write_normal
    on_end l =
        let k : m + 0 ≡ m = omega arith in
        ap (λ (bs : List ℕ). inside m t body (read_all messages t bs)) (drop_of_length-le (take end d) l)
        ∙ ap₂ (λ (k : ℕ) (x : List ℕ). closed k t (block_bytes on angles x)) k (nothing on)
      where
        nothing : (on : Bool) → body ++ cond on [] [] ≡ body
        nothing true = append-nil body
        nothing false = append-nil body

-- ---- blocks

-- A head is refused at its place.
head_left : (bs : List ℕ) (n : ℕ) (left : List ℕ) → refused n left ≡ head_in bs → left ≡ bs
unfolding head_in sized_head
head_left bs n left =
    go (unless (leb head_size (length bs)) cut_block) (unless (leb size block_limit) long_block)
    (unless (leb (head_size + size) (length bs)) cut_block) (parse angle_layout (drop 4 bs))
  where
    size : ℕ
    size = le_read (take 4 bs)

    sized : List Value → ℕ × List Value
    sized angles = (size, angles)

    go : (k l m : ℕ) (q : Result (List Value))
        → refused n left ≡ require k bs (require l bs (require m bs (map_result sized (refused_at bs q)))) → left ≡ bs
    go (suc k) l m q e = cc
    go zero (suc l) m q e = cc
    go zero zero (suc m) q e = cc
    go zero zero zero (found a rest) e = clash (cc)
    go zero zero zero (refused k after) e = cc

-- What a head's reader answers says of the block: it is refused, or its head is good.
module _ (d : List ℕ) (start : ℕ) where
  module _ (r : Refused) (q : head_of d start (Err r) ≡ head_in (drop start d)) where
    left-here : drop r.place d ≡ drop start d
    unfolding head_of
    left-here = head_left (drop start d) (number_of r.refusal) (drop r.place d) q

    pub head-place : start < length d → r.place ≡ start
    head-place l = omega (arith, ap length left-here, length-drop r.place d, length-drop start d)

    pub head-refused : (t : Scene) → t.ended ≡ false → read_block t (drop start d) ≡ refused (number_of r.refusal) (drop start d)
    unfolding head_of
    head-refused t g =
        block_head t (drop start d) g
        ∙ ap (λ (h : Result (ℕ × List Value)). bind h (λ h rest. read_body t h.0 h.1 rest)) (sym q)
        ∙ ap (refused (number_of r.refusal)) left-here

  pub head-found : (h : Head) → head_of d start (Ok h) ≡ head_in (drop start d)
      → head_in (drop start d) ≡ found (h.size, number h.angle0 ∷ number h.angle1 ∷ number h.angle2 ∷ []) (drop (start + 16) d)
  unfolding head_of
  head-found h q = sym q

module _ (given : Scene) (d : List ℕ) (on stores : Bool) (room base b m w : ℕ) (out : List ℕ) (t : Scene) (start : ℕ) where
  abbrev stops_here : ℕ → Wrote
  stops_here k =
      record { told = record { scene = t; blocks = b; messages = m; next = start; refusal = k; place = start }; written = w; room = out }

  -- Nothing more was read, and nothing more written.
  nothing_more : start ≤ length d → (f : ℕ → ℕ → ℕ → Told)
      → ◌≡◌ {A = Wrote} (record { told = f (b + 0) (m + 0) (length d - length (drop start d)); written = w + 0; room = put stores out (base + w) [] })
      (record { told = f b m start; written = w; room = out })
  nothing_more l f = λ i. record { told = f (x i) (y i) (z i); written = v i; room = put_nothing stores out (base + w) i }
    where
      x : b + 0 ≡ b
      x = omega arith

      y : m + 0 ≡ m
      y = omega arith

      z : length d - length (drop start d) ≡ start
      z = omega (arith, length-drop start d)

      v : w + 0 ≡ w
      v = omega arith

  -- What is told here, where nothing more is read, or a block is refused at its head.
  told_here : (k : ℕ) → start ≤ length d
      → wrote_of given (length d) stores base b m w out (silent (stopped t (drop start d) k (drop start d))) ≡ stops_here k
  told_here k l =
      ap (λ (x : Bool). record { told = cond x (here (b + 0) (m + 0) (length d - length (drop start d))) (refused_in given (b + 0) (length d - length (drop start d)) k (length d - length (drop start d))); written = w + 0; room = put stores out (base + w) [] })
      (eq-eqb (length (drop start d)) (length (drop start d)) refl)
      ∙ nothing_more l here
    where
      here : ℕ → ℕ → ℕ → Told
      here b m p = record { scene = t; blocks = b; messages = m; next = p; refusal = k; place = p }

  run_end : (k r : ℕ) → length d ≤ start → run_of on k r t (drop start d) ≡ silent (stopped t (drop start d) 0 (drop start d))
  unfolding write_most
  run_end k r l = subst (λ (bs : List ℕ). run_of on k r t bs ≡ silent (stopped t bs 0 bs)) (sym (drop_of_length-le d l)) (go k)
    where
      go : (k : ℕ) → run_of on k r t [] ≡ silent (stopped t [] 0 [])
      go zero = refl
      go (suc k) = refl

  -- As many blocks as wanted were read, or the input is at its end.
  pub run_over : (most read : ℕ) → start ≤ length d → (ltb read most && ltb start (length d)) ≡ false
      → wrote_of given (length d) stores base b m w out (run_of on (most - read) (room - w) t (drop start d)) ≡ stops_here 0
  unfolding write_most
  run_over most read l e = ap (wrote_of given (length d) stores base b m w out) (go (ltb read most) refl e) ∙ told_here 0 l
    where
      go : (b : Bool) → ltb read most ≡ b → (b && ltb start (length d)) ≡ false
          → run_of on (most - read) (room - w) t (drop start d) ≡ silent (stopped t (drop start d) 0 (drop start d))
      go true f e = run_end (most - read) (room - w) (ltb-false start (length d) e)
      go false f e =
          let z : most - read ≡ 0 = omega (arith, ltb-false read most f) in
          ap (λ (k : ℕ). run_of on k (room - w) t (drop start d)) z

  module _ (n : ℕ) (in? : start < length d) where
    abbrev later : Block → List ℕ → WrittenRun Scene Block
    later v rest = run_of on n (room - w - length (block_form on t v)) (after blocks t v) rest

    unrolled_block : run_of on (suc n) (room - w) t (drop start d)
        ≡ write_on (block_form on) (room - w) t (drop start d) (read_block t (drop start d)) later
    unfolding write_most
    unrolled_block =
        subst (λ (bs : List ℕ). run_of on (suc n) (room - w) t bs ≡ write_on (block_form on) (room - w) t bs (read_block t bs) later)
        (sym (drop-cons d start 0 in?)) refl

    pub run-refused : (k : ℕ) → read_block t (drop start d) ≡ refused k (drop start d)
        → wrote_of given (length d) stores base b m w out (run_of on (suc n) (room - w) t (drop start d)) ≡ stops_here k
    run-refused k q =
        ap (wrote_of given (length d) stores base b m w out)
        (unrolled_block ∙ ap (λ (r : Result Block). write_on (block_form on) (room - w) t (drop start d) r later) q)
        ∙ told_here k (omega arith)

    -- A block that was read, with these bytes.
    module _ (angles : List Value) (vs : List Message) (bytes : List ℕ) (end : ℕ) where
      roomless_here : room - w < length bytes
          → wrote_of given (length d) stores base b m w out (roomless t (drop start d) (length bytes))
          ≡ refused_here given d on stores room base b n start end angles w out 12 (length bytes)
      roomless_here l =
          ap (λ (x : Bool). record { told = cond x (told_of given (length d) b m (stopped t (drop start d) 12 (drop start d))) (refused_in given (b + 0) (length d - length (drop start d)) 12 (length bytes)); written = w + 0; room = put stores out (base + w) [] })
          (ne_eqb (length bytes) 0 (λ z. omega arith))
          ∙ nothing_more (omega arith) (λ b m p. refused_in given b p 12 (length bytes))

      led_here : (q : WrittenRun Scene Block)
          → wrote_of given (length d) stores base b m w out (led (block_of angles vs) bytes q)
          ≡ wrote_of given (length d) stores base (b + 1) (m + length vs) (w + length bytes) (put stores out (base + w) bytes) q
      led_here q = λ i. record { told = told (x i) (y i); written = z i; room = both stores i }
        where
          told : ℕ → ℕ → Told
          told b m =
              cond (eqb q.needed 0) (counted_of given (length d) q.run b m)
              (refused_in given b (length d - length q.run.rest) q.run.refusal q.needed)

          x : b + suc (length q.run.items) ≡ b + 1 + length q.run.items
          x = omega arith

          y : m + (length vs + count_messages q.run.items) ≡ m + length vs + count_messages q.run.items
          y = omega arith

          z : w + length (bytes ++ q.bytes) ≡ w + length bytes + length q.bytes
          z = omega (arith, length-append bytes q.bytes)

          both : (s : Bool) → put s out (base + w) (bytes ++ q.bytes) ≡ put s (put s out (base + w) bytes) (base + (w + length bytes)) q.bytes
          both true =
              let e : base + w + length bytes ≡ base + (w + length bytes) = omega arith in
              sym (sets_append out (base + w) bytes q.bytes) ∙ ap (λ (k : ℕ). sets (sets out (base + w) bytes) k q.bytes) e
          both false = refl

      read_here : (t' : Scene)
          → wrote_of given (length d) stores base b m w out
          (cond (ltb (room - w) (length bytes)) (roomless t (drop start d) (length bytes)) (led (block_of angles vs) bytes (run_of on n (room - w - length bytes) t' (drop end d))))
          ≡ closed given d on stores room base b n start end angles w out (m + length vs) t' bytes
      read_here t' = go (ltb (room - w) (length bytes)) refl
        where
          go : (x : Bool) → ltb (room - w) (length bytes) ≡ x
              → wrote_of given (length d) stores base b m w out
              (cond x (roomless t (drop start d) (length bytes)) (led (block_of angles vs) bytes (run_of on n (room - w - length bytes) t' (drop end d))))
              ≡ cond x (refused_here given d on stores room base b n start end angles w out 12 (length bytes))
              (wrote_of given (length d) stores base (b + 1) (m + length vs) (w + length bytes) (put stores out (base + w) bytes)
              (run_of on n (room - (w + length bytes)) t' (drop end d)))
          go true e = roomless_here (ltb-true (room - w) (length bytes) e)
          go false e =
              let k : room - w - length bytes ≡ room - (w + length bytes) = omega arith in
              led_here (run_of on n (room - w - length bytes) t' (drop end d))
              ∙ ap (λ (k : ℕ). wrote_of given (length d) stores base (b + 1) (m + length vs) (w + length bytes) (put stores out (base + w) bytes) (run_of on n k t' (drop end d))) k

    -- A block whose head is good: its messages follow.
    pub run_opened : Bytes d → start + 16 ≤ length d → (size : ℕ) (angles : List Value) → t.ended ≡ false → head_in (drop start d) ≡ found (size, angles) (drop (start + 16) d)
        → wrote_of given (length d) stores base b m w out (run_of on (suc n) (room - w) t (drop start d))
        ≡ inside given d on stores room base b n start (start + 16 + size) angles w out m t [] (read_all messages t (drop (start + 16) (take (start + 16 + size) d)))
    unfolding apply_block fill_block
    run_opened h long size angles g q =
        ap (wrote_of given (length d) stores base b m w out)
        (unrolled_block ∙ ap (λ (r : Result Block). write_on (block_form on) (room - w) t (drop start d) r later)
        (block_head t (drop start d) g ∙ ap (λ (r : Result (ℕ × List Value)). bind r (λ h rest. read_body t h.0 h.1 rest)) q))
        ∙ go (read_all messages t (take size (drop (start + 16) d))) refl
        (all_ranged messages GoodMessage message_lawful t (take size (drop (start + 16) d)) (take-bytes size _ (drop-bytes (start + 16) d h)))
        ∙ ap (λ (bs : List ℕ). inside given d on stores room base b n start (start + 16 + size) angles w out m t [] (read_all messages t bs)) (take_drop size (start + 16) d)
      where
        behind : drop size (drop (start + 16) d) ≡ drop (start + 16 + size) d
        behind = drop-drop size (start + 16) d

        go : (r : Result (List Message)) → read_all messages t (take size (drop (start + 16) d)) ≡ r → Ranged listed (take size (drop (start + 16) d)) r
            → wrote_of given (length d) stores base b m w out
            (write_on (block_form on) (room - w) t (drop start d) (read_before (drop size (drop (start + 16) d)) (block_of angles) r) later)
            ≡ inside given d on stores room base b n start (start + 16 + size) angles w out m t [] r
        go (found vs rest) e r =
            let good = (all_sound messages GoodMessage message_lawful t (take size (drop (start + 16) d)) vs rest (take-bytes size _ (drop-bytes (start + 16) d h)) e).good in
            (λ i. wrote_of given (length d) stores base b m w out
            (cond (ltb (room - w) (length (formed on t angles vs good i))) (roomless t (drop start d) (length (formed on t angles vs good i)))
            (led (block_of angles vs) (formed on t angles vs good i) (run_of on n (room - w - length (formed on t angles vs good i)) (after_all messages t vs) (behind i)))))
            ∙ read_here angles vs (block_bytes on angles (body_of on t vs)) (start + 16 + size) (after_all messages t vs)
        go (refused k left) e r =
            let behind' = drop size (drop (start + 16) d) in
            let apart : (length (left ++ behind') ≡ length (drop start d) → ⊥) =
            λ z.
            omega (
              arith,
              suffix-length left _ r.2,
              length-append left behind',
              length-take size (drop (start + 16) d),
              length-drop size (drop (start + 16) d),
              length-drop (start + 16) d,
              length-drop start d,
            ) in
            ap (λ (x : Bool). record {
              told = cond x (record { scene = t; blocks = b + 0; messages = m + 0; next = length d - length (drop start d); refusal = k; place = length d - length (left ++ behind') })
                  (refused_in given (b + 0) (length d - length (drop start d)) k (length d - length (left ++ behind')));
              written = w + 0;
              room = put stores out (base + w) [];
            })
            (ne_eqb (length (left ++ behind')) (length (drop start d)) apart)
            ∙ nothing_more (omega arith) (λ b m p. refused_in given b p k (length d - length (left ++ behind')))
            ∙ ap (λ (bs : List ℕ). refused_here given d on stores room base b n start (start + 16 + size) angles w out k (length d - length (left ++ bs))) behind
