-- Places of a block where a message is to be read: what is told and written of the run from there on is what was told of it from the start,
-- and a message that is read is one step on.
use mathlib.Core.Path.{◌≡◌, refl, sym, ap, ap₂, ◌∙◌, subst}
use mathlib.Core.Bool.{Bool, true, false, ◌&&◌}
use mathlib.Core.Logic.{◌≢◌}
use mathlib.Core.List.{List, [], ◌∷◌, ◌++◌}
use Prim.Native.Nat.{ℕ, suc, ◌+◌, ◌-◌, ◌≤◌, ◌<◌}
use native.Mathlib.Omega.{arith}
use mir.Syntax.{w8}
use mir.Val.{Fits}
use lib.ListN.{length, take, drop, get_or, set, replicate}
use lib.Seq.{length-take-le, get_or-take}
use lib.Dec.{ltb}
use borrow.Author.Tests.{ltb-true}
use Rattle.format.specs.Bytes.{Bytes, Result, refused, bit}
use Rattle.dem.specs.Kind
use Rattle.format.specs.Layout.{Value, number, parse, print}
use Rattle.dem.specs.Scene.{Scene, Context, context_of, in_range}
use Rattle.dem.specs.Limits.{block_limit, entity_count}
use Rattle.dem.specs.Message.{Message, is_message, layout_in, update_slots, send_update}
use Rattle.dem_parts.specs.Kinds.{kind_in}
use Rattle.format.specs.Codec.{read_all}
use Rattle.dem.specs.Recording.{read_message, messages, read_block}
use Rattle.format.proofs.LayoutLaws.{and_true}
use Rattle.format.proofs.ByteLaws.{bytes_of, take-bytes}
use Rattle.std.specs.Prelude.{Option, None, Ok}
use Rattle.format.specs.declared.refusal.Refused.{Refused}
use Rattle.dem_framing.specs.Heads.{head_of, head_in}
use Rattle.dem_framing.specs.declared.Head.{Head}
use Rattle.dem_scene.specs.Views.{scene_with, scene_of, baseline_numbers, record_values}
use Rattle.dem_scene.specs.declared.Baseline.{Baseline}
use Rattle.dem_scene.specs.declared.Record.{Record}
use Rattle.dem_scene.specs.declared.Rest.{Rest}
use Rattle.dem_scene.specs.declared.Scene.{Scene as Given}
use Rattle.dem_direct.specs.Spread.{needless_in}
use Rattle.dem_direct.specs.Heads.{HeadLoaded, FieldsLoaded}
use Rattle.dem_direct.specs.declared.LoadedHead.{LoadedHead}
use Rattle.dem_direct.specs.declared.RecordAt.{RecordAt}
use Rattle.dem_direct.proofs.LoadLaws.{LoadedUpdate, loaded-update}
use Rattle.dem_normal.specs.Put.{Behind}
use Rattle.dem_blocks.specs.Runs.{Told, refused_in, answered, Wrote, put, so_far, block_bytes, wrote_of, run_of, wrote}
use Rattle.dem_blocks.specs.declared.WrittenAt.{WrittenAt}
use Rattle.dem_blocks.specs.Marks.{marked}
use Rattle.dem_blocks.proofs.Marks.{Within, Before, before_later, before-marked, before_timed, marked_set, marked_none}
use Rattle.dem_blocks.proofs.SoFar.{Grown, grown_kept, grown-behind}
use Rattle.dem_blocks.proofs.Turns.{Moved, head-found, moved_less, moved-short, moved_range, put-length, closed, closed-short, closed_fits, inside, on-refused, on_moved, on_end, run-refused, run_opened}
use Rattle.dem_blocks.proofs.Arms.{held, no_baseline, filled_moved, kept_form, kind_parsed, parsed-refused}

-- The scratch for a block's messages.
abbrev pub slack : ℕ
slack = 64

abbrev pub body_size : ℕ
body_size = block_limit + slack

-- Messages of a block from one place to another: the bounds that are kept, and that what is told and written from the one place on is what is
-- told and written from the other on.
abbrev pub Along : (ℕ → Scene → List ℕ → Result (List Message) → Wrote) → Bool → List ℕ → ℕ → ℕ → Scene → List ℕ → ℕ → ℕ → Scene → List ℕ → ℕ → ℕ → ℕ → List ℕ → ℕ → Type 0
Along told on s end messages₀ scene₀ form₀ at₀ messages' scene body at size kept marks since =
    (messages' + (length s - at) ≤ end) × (size + (length s - kept) ≤ block_limit) × (length body ≡ body_size) × (in_range scene ≡ true)
    × (told messages₀ scene₀ form₀ (read_all messages scene₀ (drop at₀ s)) ≡ told messages' scene (so_far on body size s kept at) (read_all messages scene (drop at s)))
    × (kept ≤ at) × Before marks since at (length s)

-- ---- where a block is to be read

-- What the loop over blocks keeps: of the run from a place of an input, what was told and written and what is still to be told.
pub record Blocks (d : List ℕ) (from most : ℕ) (given : Given) (on : Bool) (room : ℕ) (first : List ℕ) (base : ℕ) (stores : Bool) (out : List ℕ)
    (baselines : List Baseline) (records : List Record) (marks : List ℕ) (since : ℕ) (rest : Rest) (body : List ℕ)
    (start blocks messages written : ℕ) (refused : Option Refused) : Type 0 where
  pub good : refused ≡ None
  pub inside : start ≤ length d
  pub few : messages ≤ start
  pub below : blocks ≤ most
  pub ranged : in_range (held baselines records (marked since marks) rest) ≡ true
  pub fits : written ≤ room
  pub room_long : length out ≡ length first
  pub body_long : length body ≡ body_size
  pub marks_within : Within marks (start + 1)
  pub time_before : since ≤ start
  pub told : wrote_of (scene_of given) (length d) stores base 0 0 0 first (run_of on most room (scene_of given) (drop from d))
      ≡ wrote_of (scene_of given) (length d) stores base blocks messages written out
      (run_of on (most - blocks) (room - written) (held baselines records (marked since marks) rest) (drop start d))

pub record AtBlock : Type 0 where
  pub d : List ℕ
  pub from : ℕ
  pub most : ℕ
  pub given : Given
  pub on : Bool
  pub room : ℕ
  pub first : List ℕ
  pub base : ℕ
  pub stores : Bool
  pub out : List ℕ
  pub baselines : List Baseline
  pub records : List Record
  pub marks : List ℕ
  pub since : ℕ
  pub rest : Rest
  pub body : List ℕ
  pub start : ℕ
  pub blocks : ℕ
  pub messages : ℕ
  pub written : ℕ
  pub refused : Option Refused
  pub kept : Blocks d from most given on room first base stores out baselines records marks since rest body start blocks messages written refused
  pub known : (i : ℕ) → Fits w8 (get_or d i 0)
  pub more : (blocks < most) × (start < length d)

module _ {d : List ℕ} {from most : ℕ} {given : Given} {on : Bool} {room : ℕ} {first : List ℕ} {base : ℕ} {stores : Bool} {out : List ℕ}
    {baselines : List Baseline} {records : List Record} {marks : List ℕ} {since : ℕ} {rest : Rest} {body : List ℕ}
    {start blocks messages written : ℕ} {refused : Option Refused}
    (kept : Blocks d from most given on room first base stores out baselines records marks since rest body start blocks messages written refused)
    (known : (i : ℕ) → Fits w8 (get_or d i 0)) (test : (ltb blocks most && ltb start (length d)) ≡ true) where
  abbrev pub at_block : AtBlock
  at_block =
      record {
        d = d;
        from = from;
        most = most;
        given = given;
        on = on;
        room = room;
        first = first;
        base = base;
        stores = stores;
        out = out;
        baselines = baselines;
        records = records;
        marks = marks;
        since = since;
        rest = rest;
        body = body;
        start = start;
        blocks = blocks;
        messages = messages;
        written = written;
        refused = refused;
        kept = kept;
        known = known;
        more =
            let t = and_true (ltb blocks most) (ltb start (length d)) test in
            (ltb-true _ _ t.0, ltb-true _ _ t.1);
      }

abbrev pub before : AtBlock → Scene
before c = held c.baselines c.records (marked c.since c.marks) c.rest

-- What is told and written of all blocks.
abbrev pub whole : AtBlock → Wrote
whole c = wrote_of (scene_of c.given) (length c.d) c.stores c.base 0 0 0 c.first (run_of c.on c.most c.room (scene_of c.given) (drop c.from c.d))

pub byte_fits : (c : AtBlock) (i : ℕ) → get_or c.d i 0 < 256
byte_fits c i = (c.known i).fits

pub bytes : (c : AtBlock) → Bytes c.d
bytes c = bytes_of c.d (byte_fits c)

-- What is told from here on, with one block's turn at hand.
told : (c : AtBlock)
    → whole c ≡ wrote_of (scene_of c.given) (length c.d) c.stores c.base c.blocks c.messages c.written c.out
    (run_of c.on (suc (c.most - c.blocks - 1)) (c.room - c.written) (before c) (drop c.start c.d))
told c =
    let n : c.most - c.blocks ≡ suc (c.most - c.blocks - 1) = omega (arith, c.more) in
    c.kept.told
    ∙ ap (λ (k : ℕ). wrote_of (scene_of c.given) (length c.d) c.stores c.base c.blocks c.messages c.written c.out
    (run_of c.on k (c.room - c.written) (before c) (drop c.start c.d))) n

pub stop-block : (c : AtBlock) (k : ℕ)
    → read_block (before c) (drop c.start c.d) ≡ refused k (drop c.start c.d)
    → record { told = record { scene = before c; blocks = c.blocks; messages = c.messages; next = c.start; refusal = k; place = c.start }; written = c.written; room = c.out }
    ≡ whole c
stop-block c k q =
    sym (told c ∙ run-refused (scene_of c.given) c.d c.on c.stores c.room c.base c.blocks c.messages c.written c.out (before c) c.start _ c.more.1 k q)

-- ---- inside a block

-- A block whose head was read.
pub record Opened : Type 0 where
  pub block : AtBlock
  pub head : Head
  pub going : block.rest.ended ≡ false
  pub read : head_of block.d block.start (Ok head) ≡ head_in (drop block.start block.d)
  pub within : block.start + 16 + head.size ≤ length block.d

abbrev pub open_block : (b : AtBlock) (h : Head) → b.rest.ended ≡ false → head_of b.d b.start (Ok h) ≡ head_in (drop b.start b.d)
    → b.start + 16 + h.size ≤ length b.d → Opened
open_block b h going read within = record { block = b; head = h; going = going; read = read; within = within }

abbrev pub end : Opened → ℕ
end o = o.block.start + 16 + o.head.size

abbrev pub body : Opened → List ℕ
body o = take (end o) o.block.d

abbrev pub angles : Opened → List Value
angles o = number o.head.angle0 ∷ number o.head.angle1 ∷ number o.head.angle2 ∷ []

-- What is told and written, from the messages that follow.
abbrev pub from-here : Opened → ℕ → Scene → List ℕ → Result (List Message) → Wrote
from-here o =
    let b = o.block in
    inside (scene_of b.given) b.d b.on b.stores b.room b.base b.blocks (b.most - b.blocks - 1) b.start (end o) (angles o) b.written b.out

pub body-long : (o : Opened) → length (body o) ≡ end o
body-long o = length-take-le (end o) o.block.d o.within

pub body_bytes : (o : Opened) → Bytes (body o)
body_bytes o = take-bytes (end o) o.block.d (bytes o.block)

pub opened : (o : Opened)
    → whole o.block
    ≡ from-here o o.block.messages (before o.block) [] (read_all messages (before o.block) (drop (o.block.start + 16) (body o)))
unfolding scene_with
opened o =
    let b = o.block in
    told b
    ∙ run_opened (scene_of b.given) b.d b.on b.stores b.room b.base b.blocks b.messages b.written b.out (before b) b.start _ b.more.1
    (bytes b) (omega (arith, o.within)) o.head.size _ o.going (head-found b.d b.start o.head o.read)

-- The messages so far were read and written, from the block's first on.
abbrev pub Reached : Opened → ℕ → Scene → List ℕ → ℕ → ℕ → ℕ → List ℕ → ℕ → Type 0
Reached o = Along (from-here o) o.block.on (body o) (end o) o.block.messages (before o.block) [] (o.block.start + 16)

-- What is told of a refusal inside the block, and that an answer says so.
abbrev pub refused_at : Opened → ℕ → ℕ → Told
refused_at o k place = refused_in (scene_of o.block.given) o.block.blocks o.block.start k place

abbrev pub Refuses : Opened → ℕ → ℕ → WrittenAt → Type 0
Refuses o k place r = (answered r.read ≡ refused_at o k place) × (r.written ≡ o.block.written)

abbrev pub Answered : Opened → WrittenAt → Type 0
Answered o r = wrote r o.block.out ≡ whole o.block

pub refuse : (o : Opened) (k place : ℕ)
    → record { told = refused_at o k place; written = o.block.written; room = o.block.out } ≡ whole o.block
    → (r : WrittenAt) → Refuses o k place r → Answered o r
refuse o k place q r e = (λ i. record { told = e.0 i; written = e.1 i; room = o.block.out }) ∙ q

pub refuse-message : (o : Opened) (count : ℕ) (t : Scene) (filled : List ℕ) (at size kept : ℕ) (marks : List ℕ) (since : ℕ) → Reached o count t filled at size kept marks since → at < length (body o) → (k : ℕ)
    → read_message t (drop at (body o)) ≡ refused k (drop at (body o)) → (r : WrittenAt) → Refuses o k at r → Answered o r
refuse-message o count t filled at size kept marks since i l k q =
    let b = o.block in
    refuse o k at
    (sym (opened o ∙ i.4
    ∙ on-refused (scene_of b.given) b.d b.on b.stores b.room b.base b.blocks _ b.start (end o) (angles o) b.written b.out (bytes b) o.within
    count t (so_far b.on filled size (body o) kept at) at k l q))

-- ---- a place where a message is to be read

pub record Place (o : Opened) : Type 0 where
  pub baselines : List Baseline
  pub records : List Record
  pub marks : List ℕ
  pub since : ℕ
  pub rest : Rest
  pub filled : List ℕ
  pub count : ℕ
  pub at : ℕ
  pub size : ℕ
  pub kept : ℕ
  pub reached : Reached o count (held baselines records (marked since marks) rest) filled at size kept marks since
  pub inside : at < length (body o)
  pub going : rest.ended ≡ false

abbrev pub present : {o : Opened} → Place o → List Bool
present p = marked p.since p.marks

abbrev pub scene : {o : Opened} → Place o → Scene
scene p = held p.baselines p.records (present p) p.rest

-- A message was read, and its normal form is written behind those before it.
pub record Step {o : Opened} (p : Place o) (t : Scene) (to : ℕ) (filled : List ℕ) (size kept : ℕ) : Type 0 where
  pub form : List ℕ
  pub moved : Moved (body o) (scene p) p.at t to form
  pub grown : Grown o.block.on (body o) p.filled filled p.size p.kept p.at size kept to form

module _ {o : Opened} (p : Place o) where
  pub refuse-parsed : (n : ℕ) (left : List ℕ) → refused n left ≡ parse (layout_in (scene p)) (drop p.at (body o)) → (r : WrittenAt) → Refuses o n p.at r
      → Answered o r
  refuse-parsed n left q =
      refuse-message o p.count (scene p) p.filled p.at p.size p.kept p.marks p.since p.reached p.inside n
      (parsed-refused (body o) p.at p.inside p.baselines p.records (present p) p.rest p.going n left q)

  -- A message of kind n.
  pub kind-here : (n : ℕ) (x : Context) → n ≡ get_or (body o) p.at 0
      → is_message n ≡ true → n ≢ Kind.static → x ≡ context_of (scene p) → kind_in x n (drop (p.at + 1) (body o)) ≡ parse (layout_in (scene p)) (drop p.at (body o))
  kind-here = kind_parsed (body o) p.at p.inside p.baselines p.records (present p) p.rest p.going

  -- It stays as it was read, or is put anew behind what is kept.
  module _ (t : Scene) (to : ℕ) (form : List ℕ) (m : Moved (body o) (scene p) p.at t to form) where
    pub less : length (body o) - to < length (body o) - p.at
    less = moved_less (body o) (body_bytes o) (scene p) p.at t to form m

    pub kept_step : (o.block.on ≡ true → form ≡ take (to - p.at) (drop p.at (body o))) → Step p t to p.filled p.size p.kept
    kept_step e =
        let on = o.block.on in
        record {
          form = form;
          moved = m;
          grown = grown_kept on (body o) p.filled p.size p.kept p.at to form p.reached.5 (omega (arith, less)) (omega (arith, p.inside))
              (moved-short (body o) (body_bytes o) (scene p) p.at t to form m on) e;
        }

    pub behind-step : (anew : Bool) → (anew ≡ true → o.block.on ≡ true)
        → (o.block.on ≡ true → anew ≡ false → form ≡ take (to - p.at) (drop p.at (body o))) → (filled : List ℕ) (size kept : ℕ)
        → Behind anew p.filled filled p.size p.kept size kept to (take (p.at - p.kept) (drop p.kept (body o)) ++ form) → Step p t to filled size kept
    behind-step anew w e filled size kept b =
        let on = o.block.on in
        record {
          form = form;
          moved = m;
          grown = grown-behind on (body o) p.filled p.size p.kept p.at to form p.reached.5 (omega (arith, less)) (omega (arith, p.inside))
              (moved-short (body o) (body_bytes o) (scene p) p.at t to form m on) anew w e filled size kept b;
        }

  -- An update is put anew, whose entity's number code names otherwise.
  module _ (t : Scene) (to i n : ℕ) (r : Record) (same : i ≡ n) where
    abbrev pub update_bytes : ℕ → List ℕ
    update_bytes e = print (layout_in (scene p)) (send_update (baseline_numbers (get_or p.baselines i no_baseline)) (number e ∷ record_values r))

    pub update-step : Moved (body o) (scene p) p.at t to (update_bytes i) → (anew : Bool) → (anew ≡ true → o.block.on ≡ true)
        → (o.block.on ≡ true → anew ≡ false → update_bytes i ≡ take (to - p.at) (drop p.at (body o))) → (filled : List ℕ) (size kept : ℕ)
        → Behind anew p.filled filled p.size p.kept size kept to (take (p.at - p.kept) (drop p.kept (body o)) ++ update_bytes n) → Step p t to filled size kept
    update-step m anew w e filled size kept b =
        behind-step t to (update_bytes i) m anew w e filled size kept
        (subst (λ (k : ℕ). Behind anew p.filled filled p.size p.kept size kept to (take (p.at - p.kept) (drop p.kept (body o)) ++ update_bytes k)) (sym same) b)

  module _ (t : Scene) (to : ℕ) (filled : List ℕ) (size kept : ℕ) (s : Step p t to filled size kept) where
    pub step_less : length (body o) - to < length (body o) - p.at
    step_less = less t to s.form s.moved

    pub later : Before p.marks p.since to (length (body o))
    later = before_later p.marks p.since p.at (length (body o)) p.reached.6 to (omega (arith, step_less))

    -- One message on.
    pub step-on : (marks : List ℕ) (since : ℕ) → Before marks since to (length (body o))
        → Along (from-here o) o.block.on (body o) (end o) p.count (scene p) (so_far o.block.on p.filled p.size (body o) p.kept p.at) p.at (p.count + 1) t filled to size kept marks since
    step-on marks since w =
        let b = o.block in
        let g = s.grown in (
          omega (arith, p.reached.0, step_less),
          omega (arith, p.reached.1, g.spare),
          g.long ∙ p.reached.2,
          moved_range (body o) (body_bytes o) (scene p) p.at t to s.form s.moved p.reached.3,
          on_moved (scene_of b.given) b.d b.on b.stores b.room b.base b.blocks _ b.start (end o) (angles o) b.written b.out (bytes b) o.within
              p.count (scene p) (so_far b.on p.filled p.size (body o) p.kept p.at) p.at t to s.form p.inside s.moved
              ∙ ap (λ (x : List ℕ). from-here o (p.count + 1) t x (read_all messages t (drop to (body o)))) (sym g.far),
          g.inside,
          w,
        )

-- An update marks its entity by a place behind the last time.
module _ {o : Opened} (p : Place o) (e : List Record) (i to : ℕ) (form : List ℕ) (m : Moved (body o) (scene p) p.at (held p.baselines e (set (present p) i true) p.rest) to form)
    (n : ℕ) (from : p.at ≤ n) (most : n ≤ to) (within : n ≤ length (body o)) where
  pub marked-moved : Moved (body o) (scene p) p.at (held p.baselines e (marked p.since (set p.marks i n)) p.rest) to form
  marked-moved =
      subst (λ (q : List Bool). Moved (body o) (scene p) p.at (held p.baselines e q p.rest) to form)
      (sym (marked_set p.since p.marks i n (omega (arith, p.reached.6.time_before)))) m

  pub marked-later : Before (set p.marks i n) p.since to (length (body o))
  marked-later = before-marked p.marks p.since p.at (length (body o)) p.reached.6 to (omega (arith, less p _ to form m)) i n most within

-- ---- an update that is loaded

-- An update whose head and fields were loaded, and that ends inside the block.
pub record Loaded {o : Opened} (p : Place o) (h : LoadedHead) (f : RecordAt) : Type 0 where
  pub head : HeadLoaded o.block.d p.at h
  pub fields : FieldsLoaded o.block.d h.head (get_or p.baselines h.index no_baseline) (end o) f

module _ {o : Opened} (p : Place o) (h : LoadedHead) (f : RecordAt) (l : Loaded p h f) where
  abbrev pub baseline : Baseline
  baseline = get_or p.baselines h.index no_baseline

  at_once : LoadedUpdate o.block.d (end o) p.at baseline h f
  at_once = loaded-update o.block.d (end o) p.at baseline o.within (byte_fits o.block) h f l.head l.fields

  number-there : get_or o.block.d p.at 0 ≡ get_or (body o) p.at 0
  number-there = sym (get_or-take (end o) o.block.d p.at 0 (omega (arith, p.inside, body-long o)))

  abbrev pub updated : ℕ → Scene
  updated m = held p.baselines (set p.records h.index f.record) (marked p.since (set p.marks h.index m)) p.rest

  abbrev pub form : List ℕ
  form = print (layout_in (scene p)) (send_update (baseline_numbers baseline) (number h.index ∷ record_values f.record))

  pub loaded-read : Moved (body o) (scene p) p.at (held p.baselines (set p.records h.index f.record) (set (present p) h.index true) p.rest) f.next form
  loaded-read =
      filled_moved (body o) p.at p.inside p.baselines p.records (present p) p.rest p.going (get_or o.block.d p.at 0) number-there l.head.large
      at_once.high h.index at_once.sent f.next f.record at_once.parsed at_once.filled

  -- It is marked by its own place, or the one behind it.
  module _ (m : ℕ) (from : p.at ≤ m) (most : m ≤ f.next) where
    inside_too : m ≤ length (body o)
    inside_too = omega (arith, l.fields.ends, body-long o)

    pub loaded-moved : Moved (body o) (scene p) p.at (updated m) f.next form
    loaded-moved = marked-moved p (set p.records h.index f.record) h.index f.next form loaded-read m from most inside_too

    pub loaded-later : Before (set p.marks h.index m) p.since f.next (length (body o))
    loaded-later = marked-later p (set p.records h.index f.record) h.index f.next form loaded-read m from most inside_too

  abbrev pub Needed : Type 0
  Needed = (needless_in o.block.d (update_slots (baseline_numbers baseline)) (bit h.head.mask) h.head.next false ≡ false) × (h.head.needless ≡ false)

  -- Where nothing was sent needlessly, it stays as it was read.
  loaded-kept : Needed → form ≡ take (f.next - p.at) (drop p.at (body o))
  loaded-kept needed =
      kept_form (body o) p.at p.inside p.baselines p.records (present p) p.rest p.going (get_or o.block.d p.at 0) number-there l.head.large
      at_once.high h.index at_once.sent f.next f.record at_once.parsed at_once.filled (body_bytes o) (at_once.kept needed.0 needed.1)

  pub loaded-less : p.at < f.next
  loaded-less = omega (arith, less p _ f.next _ loaded-read)

-- Where it is written only if nothing was sent needlessly, it is one message on.
module _ {o : Opened} (p : Place o) (h : LoadedHead) (f : RecordAt) (l : Loaded p h f) where
  pub loaded_on : (o.block.on ≡ true → Needed p h f l)
      → Along (from-here o) o.block.on (body o) (end o) p.count (scene p) (so_far o.block.on p.filled p.size (body o) p.kept p.at) p.at
      (p.count + 1) (updated p h f l f.next) p.filled f.next p.size p.kept (set p.marks h.index f.next) p.since
  loaded_on needed =
      let before = loaded-less p h f l in
      step-on p _ f.next _ _ _
      (kept_step p _ f.next _ (loaded-moved p h f l f.next (omega (arith, before)) (omega arith)) (λ on. loaded-kept p h f l (needed on)))
      _ _ (loaded-later p h f l f.next (omega (arith, before)) (omega arith))

-- ---- the turn ends one message on: what was told from the block's first on

module _ {o : Opened} (p : Place o) (t : Scene) (to : ℕ) (filled : List ℕ) (size kept : ℕ) (s : Step p t to filled size kept) where
  -- A turn that began no further on.
  pub turn-less : (at : ℕ) → at ≤ p.at → length (body o) - to < length (body o) - at
  turn-less at l = omega (arith, step_less p t to filled size kept s, l)

  pub turned : (marks : List ℕ) (since : ℕ) → Before marks since to (length (body o)) → Reached o (p.count + 1) t filled to size kept marks since
  turned marks since w =
      let q = step-on p t to filled size kept s marks since w in
      (q.0, q.1, q.2, q.3, p.reached.4 ∙ q.4, q.5, q.6)

  -- Where no mark changes.
  pub turned-still : Reached o (p.count + 1) t filled to size kept p.marks p.since
  turned-still = turned p.marks p.since (later p t to filled size kept s)

-- Where all marks are taken away.
module _ {o : Opened} (p : Place o) (b : List Baseline) (e : List Record) (x : Rest) (to : ℕ)
    (mv : Moved (body o) (scene p) p.at (held b e (replicate entity_count false) x) to (take (to - p.at) (drop p.at (body o)))) where
  unmarked-step : Step p (held b e (marked p.at p.marks) x) to p.filled p.size p.kept
  unmarked-step =
      kept_step p _ to _
      (subst (λ (q : List Bool). Moved (body o) (scene p) p.at (held b e q x) to (take (to - p.at) (drop p.at (body o)))) (sym (marked_none p.marks p.at p.reached.6.marks_within)) mv)
      (λ on. refl)

  pub unmarked-less : (at : ℕ) → at ≤ p.at → length (body o) - to < length (body o) - at
  unmarked-less = turn-less p _ to _ _ _ unmarked-step

  pub unmarked : Reached o (p.count + 1) (held b e (marked p.at p.marks) x) p.filled to p.size p.kept p.marks p.at
  unmarked =
      turned p _ to _ _ _ unmarked-step p.marks p.at
      (before_timed p.marks p.since p.at (length (body o)) p.reached.6 to (omega (arith, step_less p _ to _ _ _ unmarked-step)) (omega (arith, p.inside)))

-- ---- where a block is at its end

-- No message follows.
pub record Ending (o : Opened) : Type 0 where
  pub count : ℕ
  pub state : Scene
  pub filled : List ℕ
  pub at : ℕ
  pub size : ℕ
  pub kept : ℕ
  pub marks : List ℕ
  pub since : ℕ
  pub reached : Reached o count state filled at size kept marks since
  pub over : length (body o) ≤ at

module _ {o : Opened} (e : Ending o) where
  abbrev pub formed : List ℕ
  formed = block_bytes o.block.on (angles o) (so_far o.block.on e.filled e.size (body o) e.kept e.at)

  ended : whole o.block
      ≡ closed (scene_of o.block.given) o.block.d o.block.on o.block.stores o.block.room o.block.base o.block.blocks (o.block.most - o.block.blocks - 1) o.block.start (end o) (angles o)
      o.block.written o.block.out e.count e.state formed
  ended =
      let b = o.block in
      opened o ∙ e.reached.4
      ∙ on_end (scene_of b.given) b.d b.on b.stores b.room b.base b.blocks _ b.start (end o) (angles o) b.written b.out (bytes b) o.within
      e.count e.state (so_far b.on e.filled e.size (body o) e.kept e.at) e.at e.over

  -- The room is short for it.
  pub short-refused : (n : ℕ) → n ≡ length formed → o.block.room - o.block.written < n → (room : List ℕ) → room ≡ o.block.out
      → (r : WrittenAt) → Refuses o 12 n r → wrote r room ≡ whole o.block
  short-refused n sized short room same r s =
      let b = o.block in
      ap (wrote r) same
      ∙ refuse o 12 n
      (sym (ended
      ∙ closed-short (scene_of b.given) b.d b.on b.stores b.room b.base b.blocks _ b.start (end o) (angles o) b.written b.out
      e.count e.state formed n (sym sized) short))
      r s

  -- There is room for it.
  module _ (n : ℕ) (sized : n ≡ length formed) (enough : n ≤ o.block.room - o.block.written) (room : List ℕ)
      (holds : room ≡ put o.block.stores o.block.out (o.block.base + o.block.written) formed) where
    pub room-long : length room ≡ length o.block.first
    room-long = ap length holds ∙ put-length o.block.stores o.block.out (o.block.base + o.block.written) formed ∙ o.block.kept.room_long

    pub goes_on : let b = o.block in
        let w = b.written + n in
        whole b
        ≡ wrote_of (scene_of b.given) (length b.d) b.stores b.base (b.blocks + 1) e.count w room
        (run_of b.on (b.most - (b.blocks + 1)) (b.room - w) e.state (drop (end o) b.d))
    goes_on =
        let b = o.block in
        let w = b.written + n in
        let k : b.most - b.blocks - 1 ≡ b.most - (b.blocks + 1) = omega arith in
        ended
        ∙ closed_fits (scene_of b.given) b.d b.on b.stores b.room b.base b.blocks _ b.start (end o) (angles o) b.written b.out e.count e.state formed n (sym sized) enough
        ∙ ap₂ (λ (y : List ℕ) (j : ℕ). wrote_of (scene_of b.given) (length b.d) b.stores b.base (b.blocks + 1) e.count w y (run_of b.on j (b.room - w) e.state (drop (end o) b.d)))
        (sym holds) k
