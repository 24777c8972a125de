-- The sums of day weights (Account and its calls, "Statement"): empty, split at a boundary, above 0.
-- Assumes nothing.
use mathlib.Core.Path.{◌≡◌, refl}
use mathlib.Core.Bool.{true}
use mathlib.Core.List.{List}
use mathlib.Core.Logic.{⊎_elim}
use Prim.Native.Nat.{ℕ, zero, suc, ◌+◌, ◌≤◌, ◌<◌}
use native.Mathlib.Nat.{eq-or-lt_of_le}
use native.Mathlib.Omega.{arith}
use lib.ListN.{length, get_or}
use borrow.Author.Tests.{le-leb, lt-leb, leb-true}
use Rattle.account.specs.Account.{good_weight, good_weights}
use Rattle.common.proofs.Below.{both, every_at}
use Rattle.statement.specs.Split.{weight_sum}

pub weight_positive : (w : List ℕ) → good_weights w ≡ true → (d : ℕ) → d < length w → 0 < get_or w d 0
unfolding good_weights
weight_positive w good d h =
    let b = both _ _ (every_at (λ j. good_weight (get_or w j 0)) (length w) good d h) in
    leb-true _ _ b.0

module _ (w : List ℕ) where
  -- one day more
  sum_suc : (p d : ℕ) → p ≤ d → weight_sum w p (suc d) ≡ weight_sum w p d + get_or w d 0
  unfolding weight_sum
  sum_suc p d h = rw (le-leb p d h)

  pub sum_empty : (p q : ℕ) → q ≤ p → weight_sum w p q ≡ 0
  unfolding weight_sum
  sum_empty p zero h = refl
  sum_empty p (suc d) h = rw (sum_empty p d (omega arith), lt-leb p d h)

  pub sum_splits : (p k q : ℕ) → p ≤ k → k ≤ q → weight_sum w p q ≡ weight_sum w p k + weight_sum w k q
  sum_splits p k zero low high = omega (arith, sum_empty p zero (omega arith), sum_empty p k (omega arith), sum_empty k zero (omega arith))
  sum_splits p k (suc d) low high =
      ⊎_elim (λ end. rw (← end) (omega (arith, sum_empty k k (omega arith))))
      (λ lt. omega (arith, sum_splits p k d low (omega arith), sum_suc p d (omega arith), sum_suc k d (omega arith)))
      (eq-or-lt_of_le high)

  pub sum_positive : ((d : ℕ) → d < length w → 0 < get_or w d 0) → (p q : ℕ) → p < q → q ≤ length w → 0 < weight_sum w p q
  sum_positive positive p zero h fits = omega arith
  sum_positive positive p (suc d) h fits = omega (arith, sum_suc p d (omega arith), positive d fits)
