-- Laws of powers of whole numbers (Profile value): of a product, of a power, and the order of the bases.
-- Assumes nothing.
use mathlib.Core.Path.{◌≡◌, ap, ◌∙◌}
use Prim.Native.Nat.{ℕ, zero, suc, ◌+◌, ◌*◌, ◌^◌, ◌≤◌, ◌<◌}
use native.Mathlib.Nat.{pow-zero, pow-suc, mul-zero, mul-suc, one-mul, mul-mul-mul_comm, pow-lt-pow_left, not-le_of_lt, lt_of_not-le}
use native.Mathlib.Decide.{dec_le}
use native.Mathlib.Omega.{arith}
use lib.Pow.{pow-add}

pub mul_pow : (a b k : ℕ) → (a * b) ^ k ≡ a ^ k * b ^ k
mul_pow a b zero = simp pow-zero
mul_pow a b (suc k) = simp pow-suc (ap (λ (x : ℕ). x * (a * b)) (mul_pow a b k) ∙ mul-mul-mul_comm (a ^ k) (b ^ k) a b)

pub pow_mul : (a i j : ℕ) → a ^ (i * j) ≡ (a ^ i) ^ j
pow_mul a i zero = simp (mul-zero, pow-zero)
pow_mul a i (suc j) = rw (mul-suc, pow-add, pow-suc, pow_mul a i j)

pub pow_one : (a : ℕ) → a ^ 1 ≡ a
pow_one a = rw (pow-suc a 0, pow-zero, one-mul)

pub pow_double : (a k : ℕ) → a ^ (k * 2) ≡ a ^ k * a ^ k
pow_double a k =
    let e : k * 2 ≡ k + k = omega arith in
    rw (e, pow-add)

pub pow_cancel : {a b : ℕ} (k : ℕ) → 0 < k → a ^ k ≤ b ^ k → a ≤ b
pow_cancel {a} {b} k h g = either (dec_le a b)
  where
    either : Dec (a ≤ b) → a ≤ b
    either (yes le) = le
    either (no f) = absurd (not-le_of_lt (pow-lt-pow_left (lt_of_not-le f) (λ (e : k ≡ 0). omega arith)) g)
