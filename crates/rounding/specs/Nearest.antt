-- Rounding, of the paper's first paragraph: "nearest" is to the nearest whole number with an exact half going up.
use Rattle.std.specs.Prelude.{◌≡◌, ℕ, ◌+◌, ◌*◌, ◌/◌, ◌≤◌, ◌<◌}

-- x / d to the nearest whole number: floor (x / d + 1/2), written over 2 × d. It is 0 where d is 0.
unfoldable pub nearest : ℕ → ℕ → ℕ
nearest x d = (2 * x + d) / (2 * d)

-- q is at most a half above x / d, and less than a half below it
pub record IsNearest (x d q : ℕ) : Type 0 where
  pub not_above : 2 * (q * d) ≤ 2 * x + d
  pub not_below : 2 * x < 2 * (q * d) + d

-- where d is above 0 there is one such q, `nearest x d` (proofs/Laws, `one_nearest`)
abbrev pub OneNearest : Type 0
OneNearest = (x d : ℕ) → 0 < d → IsNearest x d (nearest x d) × ((q : ℕ) → IsNearest x d q → q ≡ nearest x d)

-- K3: "However a statement rounds now, add half the divisor, rounded down, before dividing, and test no remainder. Every figure is nearest
-- as before, shown once for all amounts, at odd and even divisors." (proofs/Laws, `half_added`)
abbrev pub HalfAdded : Type 0
HalfAdded = (x d : ℕ) → (x + d / 2) / d ≡ nearest x d
