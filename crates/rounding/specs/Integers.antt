-- Rounding of integers (the paper's first paragraph): "floor" is downwards, "nearest" is to the nearest whole number with an exact half going up.
use Rattle.std.specs.Prelude.{◌≡◌, ℕ, ◌*◌, ◌/◌, ◌<◌, ℤ, pos, negsuc, ◌+ℤ◌, ◌*ℤ◌, ◌≤ℤ◌}
use Rattle.rounding.specs.Nearest.{nearest}

-- a quotient rounded downwards, of a negative number too
abbrev pub floor_ℤ : ℤ → ℕ → ℤ
floor_ℤ (pos n) d = pos (n / d)
floor_ℤ (negsuc n) d = negsuc (n / d)

-- q times d and a rest below d
pub record IsFloor (x : ℤ) (d : ℕ) (q : ℤ) : Type 0 where
  pub rest : ℕ
  pub small : rest < d
  pub adds_up : x ≡ q *ℤ pos d +ℤ pos rest

-- where d is above 0 there is one such q, `floor_ℤ x d` (proofs/Integers, `one_floor`)
abbrev pub OneFloor : Type 0
OneFloor = (x : ℤ) (d : ℕ) → 0 < d → IsFloor x d (floor_ℤ x d) × ((q : ℤ) → IsFloor x d q → q ≡ floor_ℤ x d)

-- x / d to the nearest whole number, an exact half going up
abbrev pub nearest_ℤ : ℤ → ℕ → ℤ
nearest_ℤ x d = floor_ℤ (pos 2 *ℤ x +ℤ pos d) (2 * d)

-- q is at most a half above x / d, and less than a half below it
pub record IsNearestℤ (x : ℤ) (d : ℕ) (q : ℤ) : Type 0 where
  pub not_above : (pos 2 *ℤ (q *ℤ pos d)) ≤ℤ (pos 2 *ℤ x +ℤ pos d)
  pub not_below : (pos 2 *ℤ x +ℤ pos 1) ≤ℤ (pos 2 *ℤ (q *ℤ pos d) +ℤ pos d)

-- where d is above 0 there is one such q, `nearest_ℤ x d`, also below zero (proofs/Integers, `one_nearest_ℤ`)
abbrev pub OneNearestℤ : Type 0
OneNearestℤ = (x : ℤ) (d : ℕ) → 0 < d → IsNearestℤ x d (nearest_ℤ x d) × ((q : ℤ) → IsNearestℤ x d q → q ≡ nearest_ℤ x d)

-- of a number that is not negative it is `nearest` (proofs/Integers, `same_rounding`)
abbrev pub SameRounding : Type 0
SameRounding = (x d : ℕ) → nearest_ℤ (pos x) d ≡ pos (nearest x d)
