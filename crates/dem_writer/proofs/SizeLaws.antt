-- A message that its layout allows has at most 2 ^ 21 bytes: a string has at most 2,047 of them, and most strings are serverinfo's 512.
-- Assumes nothing.
use mathlib.Core.Path.{◌≡◌, refl}
use mathlib.Core.List.{List, [], ◌∷◌}
use mathlib.Core.Bool.{Bool, true, false, cond}
use Prim.Native.Nat.{ℕ, zero, suc, ◌+◌, ◌*◌, ◌^◌, ◌≤◌, zero-le}
use native.Mathlib.Nat.{le_trans}
use native.Mathlib.Omega.{arith}
use borrow.Author.Tests.{leb-true, leb-false}
use lib.Dec.{leb, eqb, lit≤}
use lib.ListN.{length, get_or, length-append, get_or-eq_default}
use Rattle.format.specs.Limits.{string_limit}
use Rattle.dem.specs.Limits.{name_limit}
use Rattle.dem.specs.Kind
use Rattle.format.specs.Bytes.{le_write, bit, write_string}
use Rattle.format.specs.Layout.{Value, number, text, Layout, done, field, split, string, print, allows}
use Rattle.format.specs.Masked.{Slot, Mask, is_sent, slot_layout}
use Rattle.dem.specs.Scene.{Context, zero_baseline}
use Rattle.dem.specs.Message.{Field, byte, short, long, chars, entity, player, stat_index, style, version, limit, channel_entity, time_bits, field_layout}
use Rattle.dem.specs.Message.{row, rows, is_empty, names, TemporaryKind, point, line, explosion2, temporary_kind, temporary_fields, is_update, sound_slots, sound_tail, client_slots, client_tail, update_slots}
use Rattle.dem.specs.Message.{update_mask, high_bit, wide_bit, update_layout, kind_layout, layout}
use Rattle.format.proofs.ByteLaws.{StringBytes, le-length, bit_lt}
use Rattle.format.proofs.EachLaws.{in-run}
use Rattle.format.proofs.LayoutLaws.{Allowed, allows→}

record Within (l : Layout) (n : ℕ) : Type 0 where
  within : (vs : List Value) → Allowed l vs → length (print l vs) ≤ n

more : {l : Layout} {m n : ℕ} → m ≤ n → Within l m → Within l n
more h w = record { within = λ vs a. le_trans (w.within vs a) h }

either : {k l : Layout} {n : ℕ} (b : Bool) → Within k n → Within l n → Within (cond b k l) n
either true p q = p
either false p q = q

-- ---- fields

within-done : Within done 0
unfolding print
within-done = record { within = λ vs a. lit≤ tt }

within-field : {w n : ℕ} {rule : ℕ → ℕ} {k : ℕ → Layout} → ((v : ℕ) → Within (k v) n) → Within (field w rule k) (w + n)
unfolding print
within-field {w} {n} {rule} {k} h = record { within = go }
  where
    go : (vs : List Value) → Allowed (field w rule k) vs → length (print (field w rule k) vs) ≤ w + n
    go [] a = absurd a
    go (text t ∷ vs) a = absurd a
    go (number v ∷ vs) a = omega (arith, length-append (le_write w v) (print (k v) vs), le-length w v, (h v).within vs a.2)

within-split : {w low n : ℕ} {rule : ℕ → ℕ} {k : Layout} → Within k n → Within (split w low rule k) (w + n)
unfolding print
within-split {w} {low} {n} {rule} {k} h = record { within = go }
  where
    go : (vs : List Value) → Allowed (split w low rule k) vs → length (print (split w low rule k) vs) ≤ w + n
    go [] a = absurd a
    go (text t ∷ vs) a = absurd a
    go (number l ∷ []) a = absurd a
    go (number l ∷ text t ∷ vs) a = absurd a
    go (number l ∷ number x ∷ vs) a =
        omega (arith, length-append (le_write w (x * 2 ^ low + l)) (print k vs), le-length w (x * 2 ^ low + l), h.within vs a.3)

string-length : (n : ℕ) (t : List ℕ) → StringBytes n t → length (write_string t) ≤ n
unfolding write_string
string-length zero t h = absurd h
string-length (suc n) [] h = omega arith
string-length (suc n) (b ∷ t) h = omega (arith, string-length n t h.3)

within-string : {n : ℕ} {rule : List ℕ → ℕ} {k : List ℕ → Layout} → ((t : List ℕ) → Within (k t) n) → Within (string rule k) (string_limit + n)
unfolding print
within-string {n} {rule} {k} h = record { within = go }
  where
    go : (vs : List Value) → Allowed (string rule k) vs → length (print (string rule k) vs) ≤ string_limit + n
    go [] a = absurd a
    go (number v ∷ vs) a = absurd a
    go (text t ∷ vs) a =
        omega (arith, length-append (write_string t) (print (k t) vs), string-length string_limit t a.0, (h t).within vs a.2)

-- ---- rows

field_within : (c : Context) (f : Field) {k : Layout} {n : ℕ} → Within k n → Within (field_layout c f k) (string_limit + n)
field_within c byte h = more (omega arith) (within-field (λ v. h))
field_within c short h = more (omega arith) (within-field (λ v. h))
field_within c long h = more (omega arith) (within-field (λ v. h))
field_within c chars h = within-string (λ t. h)
field_within c entity h = more (omega arith) (within-field (λ v. h))
field_within c player h = more (omega arith) (within-field (λ v. h))
field_within c stat_index h = more (omega arith) (within-field (λ v. h))
field_within c style h = more (omega arith) (within-field (λ v. h))
field_within c version h = more (omega arith) (within-field (λ v. h))
field_within c limit h = more (omega arith) (within-field (λ v. h))
field_within c channel_entity h = more (omega arith) (within-split h)
field_within c time_bits h = more (omega arith) (within-field (λ v. h))

row_within : (c : Context) (fs : List Field) {k : Layout} {n : ℕ} → Within k n → Within (row c fs k) (string_limit * length fs + n)
row_within c [] h = more (omega arith) h
row_within c (f ∷ fs) h = more (omega arith) (field_within c f (row_within c fs h))

-- One test computed over all rows.
row-short : (n : ℕ) → length (get_or rows n []) ≤ 12
row-short n = go (leb 35 n) refl
  where
    go : (b : Bool) → leb 35 n ≡ b → length (get_or rows n []) ≤ 12
    go true e = rw (get_or-eq_default rows [] (leb-true 35 n e)) (lit≤ tt)
    go false e =
        leb-true (length (get_or rows n [])) 12
        (in-run (λ n. leb (length (get_or rows n [])) 12) 0 35 n refl zero-le (leb-false 35 n e))

temporary-short : (t : TemporaryKind) → length (temporary_fields t) ≤ 7
temporary-short point = lit≤ tt
temporary-short line = lit≤ tt
temporary-short explosion2 = lit≤ tt

-- ---- names and masked fields

names_within : (m : ℕ) {k : Layout} {n : ℕ} → Within k n → Within (names m k) (string_limit * suc m + n)
names_within zero h = more (omega arith) (within-string (λ t. h))
names_within (suc m) h =
    more (omega arith) (within-string (λ t. either (is_empty t) (more (omega arith) h) (names_within m h)))

widths : List Slot → ℕ
widths [] = 0
widths (s ∷ ss) = s.width + widths ss

sent-most : (b : Bool) (w : ℕ) → cond b w 0 ≤ w
sent-most true w = omega arith
sent-most false w = omega arith

slots_within : (ss : List Slot) (mask : Mask) {k : Layout} {n : ℕ} → Within k n → Within (slot_layout ss mask k) (widths ss + n)
unfolding widths
slots_within [] mask h = more (omega arith) h
slots_within (s ∷ ss) mask h =
    more (omega (arith, sent-most (is_sent s mask) s.width)) (within-field (λ v. slots_within ss mask h))

-- ---- every message

-- Behind its number.
abbrev most : ℕ
most = 2 ^ 20 + 2 ^ 15

update_within : (n : ℕ) → Within (update_layout n) most
unfolding widths
update_within n =
    more (omega (arith, sent-most (bit n high_bit) 1))
    (within-field (λ high. more {n = 16} (omega (arith, bit_lt (update_mask n high wide_bit)))
    (within-field (λ e. slots_within (update_slots zero_baseline) (update_mask n high) within-done))))

kind_within : (x : Context) (n : ℕ) → Within (kind_layout x n) most
unfolding kind_layout widths
kind_within x n =
    either (is_update n) (update_within n)
    (either (eqb n Kind.sound) (more (omega arith) (within-field (λ m. slots_within sound_slots (bit m) (row_within x sound_tail within-done))))
    (either (eqb n Kind.clientdata) (more (omega arith) (within-field (λ m. slots_within client_slots (bit m) (row_within x client_tail within-done))))
    (either (eqb n Kind.temporary) (more (omega arith) (within-field {n = string_limit * 7} (λ k. more (omega (arith, temporary-short (temporary_kind k)))
    (row_within x (temporary_fields (temporary_kind k)) within-done))))
    (more (omega (arith, row-short n)) (row_within x (get_or rows n [])
    (either (eqb n Kind.serverinfo) (names_within name_limit (names_within name_limit within-done)) (more (omega arith) within-done)))))))

layout_within : (x : Context) → Within (layout x) (2 ^ 21)
unfolding layout
layout_within x = more (omega arith) (within-field (kind_within x))

pub message-size : (x : Context) (vs : List Value) → allows (layout x) vs ≡ true → length (print (layout x) vs) ≤ 2 ^ 21
message-size x vs a = (layout_within x).within vs (allows→ (layout x) vs a)
