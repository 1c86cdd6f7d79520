-- The bits of a mask, as code takes them, and of a mask that two numbers make.
-- Assumes nothing.
use mathlib.Core.Path.{◌≡◌, refl, sym, ap, ◌∙◌}
use mathlib.Core.Bool.{Bool, cond, not}
use Prim.Native.Nat.{ℕ, zero, suc, ◌+◌, ◌-◌, ◌*◌, ◌/◌, ◌%◌, ◌^◌, ◌<◌}
use native.Mathlib.Omega.{arith}
use native.Mathlib.Nat.{pow-suc, mul_assoc}
use borrow.Author.Tests.{lt-ltb, le-ltb, ne_eqb}
use lib.Dec.{ltb, eqb, leb-suc-suc}
use Rattle.format.specs.Bytes.{is_set, bit}
use Rattle.format.proofs.ByteLaws.{bit_div}

set_not : (x : ℕ) → not (eqb x 0) ≡ is_set x
set_not zero = refl
set_not (suc x) = ap not (ne_eqb (suc x) 0 (λ z. omega arith))

-- As code takes one: what is left behind a shift is odd.
pub bit_test : (m k : ℕ) → not (eqb (m / 2 ^ k % 2) 0) ≡ bit m k
bit_test m k = set_not (m / 2 ^ k % 2) ∙ sym (bit_div m k)

-- The bits of n, then those of h.
pub join_bits : (j h n k : ℕ) → n < 2 ^ j → bit (h * 2 ^ j + n) k ≡ cond (ltb k j) (bit n k) (bit h (k - j))
unfolding bit
join_bits zero h n k l =
    let e : h * 1 + n ≡ h = omega arith in
    let d : k - 0 ≡ k = omega arith in
    rw (e, le-ltb k 0 (omega arith), d)
join_bits (suc j) h n zero l =
    let q : h * 2 ^ suc j ≡ h * 2 ^ j * 2 = rw pow-suc (sym (mul_assoc h (2 ^ j) 2)) in
    let e : (h * 2 ^ j * 2 + n) % 2 ≡ n % 2 = omega arith in
    rw (q, e, lt-ltb 0 (suc j) (omega arith))
join_bits (suc j) h n (suc k) l =
    let q : h * 2 ^ suc j ≡ h * 2 ^ j * 2 = rw pow-suc (sym (mul_assoc h (2 ^ j) 2)) in
    let e : (h * 2 ^ j * 2 + n) / 2 ≡ h * 2 ^ j + n / 2 = omega arith in
    let d : suc k - suc j ≡ k - j = omega arith in
    rw (q, e, d, leb-suc-suc (suc k) j) (join_bits j h (n / 2) k (omega (arith, rw pow-suc at l)))
