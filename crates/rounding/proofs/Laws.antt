-- The laws of nearest that its users need (the paper's first paragraph): within a half, the only such number, exact at multiples, monotone. Assumes nothing.
use mathlib.Core.Path.{◌≡◌, sym, ◌∙◌}
use Prim.Native.Nat.{ℕ, zero, suc, ◌+◌, ◌*◌, ◌/◌, ◌≤◌, ◌<◌}
use native.Mathlib.Nat.{div-mul-le_self, lt-div-mul-add, div-eq_of_lt-le, div-zero, le-div_iff_mul-le}
use native.Mathlib.Omega.{arith}
use Rattle.rounding.specs.Nearest.{nearest, IsNearest, OneNearest, HalfAdded}

double : (q d : ℕ) → q * (2 * d) ≡ 2 * (q * d)
double q d = omega arith

pub nearest_is : (x d : ℕ) → 0 < d → IsNearest x d (nearest x d)
unfolding nearest
nearest_is x d h =
    let below : (2 * x + d) / (2 * d) * (2 * d) ≤ 2 * x + d = div-mul-le_self (2 * x + d) (2 * d) in
    let pos : 0 < 2 * d = omega arith in
    let above : 2 * x + d < (2 * x + d) / (2 * d) * (2 * d) + 2 * d = lt-div-mul-add pos in
    let same : (2 * x + d) / (2 * d) * (2 * d) ≡ 2 * ((2 * x + d) / (2 * d) * d) = double ((2 * x + d) / (2 * d)) d in
    record { not_above = omega arith; not_below = omega arith }

pub nearest_only : (x d q : ℕ) → 0 < d → IsNearest x d q → q ≡ nearest x d
unfolding nearest
nearest_only x d q h is =
    let low : q * (2 * d) ≤ 2 * x + d = omega (arith, double q d) in
    let high : 2 * x + d < (q + 1) * (2 * d) = omega (arith, double q d) in
    sym (div-eq_of_lt-le (2 * d) low high)

pub one_nearest : OneNearest
one_nearest x d h = (nearest_is x d h, λ q is. nearest_only x d q h is)

pub nearest_zero : (x : ℕ) → nearest x 0 ≡ 0
unfolding nearest
nearest_zero x = div-zero (2 * x + 0)

pub half_added : HalfAdded
half_added x zero = div-zero (x + 0) ∙ sym (nearest_zero x)
half_added x (suc d) =
    let low : (x + suc d / 2) / suc d * suc d ≤ x + suc d / 2 = div-mul-le_self (x + suc d / 2) (suc d) in
    let high : x + suc d / 2 < (x + suc d / 2) / suc d * suc d + suc d = lt-div-mul-add (omega arith) in
    nearest_only x (suc d) ((x + suc d / 2) / suc d) (omega arith) (record { not_above = omega arith; not_below = omega arith })

pub nearest_multiple : (q d : ℕ) → 0 < d → nearest (q * d) d ≡ q
nearest_multiple q d h = sym (nearest_only (q * d) d q h (record { not_above = omega arith; not_below = omega arith }))

pub quotient_le : (x y d : ℕ) → 0 < d → x ≤ y → x / d ≤ y / d
quotient_le x y d p h = (le-div_iff_mul-le p).1 (omega (arith, div-mul-le_self x d))

pub nearest_mono : (x y d : ℕ) → x ≤ y → nearest x d ≤ nearest y d
unfolding nearest
nearest_mono x y zero h = omega (arith, nearest_zero x, nearest_zero y)
nearest_mono x y (suc d) h = quotient_le (2 * x + suc d) (2 * y + suc d) (2 * suc d) (omega arith) (omega arith)
