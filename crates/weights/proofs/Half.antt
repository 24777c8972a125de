-- Halves (Temperature of a day): "No half can occur." Twice a whole number is even, and fifteen times an odd one is odd. Assumes nothing.
use mathlib.Core.Path.{◌≡◌, ap}
use Prim.Native.Nat.{ℕ, ◌+◌, ◌*◌}
use native.Mathlib.Omega.{arith}
use lib.IntN.{ℤ, pos, ◌+ℤ◌, ◌*ℤ◌}
use Rattle.rounding.proofs.Parts.{above, below, less_sum, less_product}
use Rattle.weights.specs.Temperature.{NoHalf}

even_not_odd : (m n : ℕ) → 2 * m ≡ 2 * n + 1 → ⊥
even_not_odd m n e = omega (arith, e)

pub no_half : NoHalf
no_half x q e =
    let odd : ℤ = pos 2 *ℤ q +ℤ pos 1 in
    even_not_odd (above x + 15 * below q) (below x + 15 * above q + 7)
    (omega (
      arith,
      ap above e,
      ap below e,
      less_product (pos 2) x,
      less_product (pos 2) q,
      less_sum (pos 2 *ℤ q) (pos 1),
      less_product odd (pos 15),
    ))
