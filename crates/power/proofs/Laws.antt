-- What is known of the two bounds of a power (Profile value), for every ratio N / M at most one and every exponent: they enclose the exact power, the lower is at most the upper, they are at most one, and one where the ratio is.
-- Assumes nothing.
use mathlib.Core.Path.{◌≡◌}
use Prim.Native.Nat.{ℕ, ◌*◌, ◌^◌, ◌≤◌, ◌<◌}
use native.Mathlib.Nat.{le_trans, le_of_mul-le-mul_right, one-le-pow}
use native.Mathlib.Omega.{arith}
use Rattle.std.proofs.lemmas.Bool.Decides.{nat_tests}
use lib.Dec.{lit<}
use borrow.Author.Tests.{ne_eqb, le-ltb}
use Rattle.power.specs.declared.rounded.Rounding.TheVariants.{Down, Up}
use Rattle.power.specs.Power.{one, exponent, c_low, c_high, p_low, p_high, AtMost, AtLeast, Encloses, Enclosing, of_ratio, lower_of, upper_of}
use Rattle.power.proofs.Powers.{pow_cancel}
use Rattle.power.proofs.Way.{Rounded, below, above, at_most, at_least}
use Rattle.power.proofs.Quotient.{quotient_rounded}
use Rattle.power.proofs.AtMostOne.{ratio_le, ratio_one_lem, power_le, power_one}
use Rattle.power.proofs.Enclosing.{exact, power_reached}
use Rattle.power.proofs.Ratio.{encloses}

-- the exponent is rounded against the power
c_high_rounded : (C : ℕ) → Rounded Down (C * 2 ^ 24) (c_high C * 10 ^ 7)
unfolding c_high exponent
c_high_rounded C = below (at_least (quotient_rounded Up (C * 2 ^ 24) (10 ^ 7) (lit< tt)))

c_low_rounded : (C : ℕ) → Rounded Up (C * 2 ^ 24) (c_low C * 10 ^ 7)
unfolding c_low exponent
c_low_rounded C = above (at_most (quotient_rounded Down (C * 2 ^ 24) (10 ^ 7) (lit< tt)))

module _ (N M C : ℕ) (pos : 0 < M) where
  module _ (le : N ≤ M) where
    pub enclosed : Encloses N M C (p_low N M C) (p_high N M C)
    unfolding p_low p_high
    enclosed =
        encloses
        (exact N M C (2 ^ 24) (10 ^ 7) le pos (lit< tt) (quotient_rounded Down (N * one) M pos) (c_high_rounded C) (power_reached _ _))
        (exact N M C (2 ^ 24) (10 ^ 7) le pos (lit< tt) (quotient_rounded Up (N * one) M pos) (c_low_rounded C) (power_reached _ _))

    pub low_le_high : p_low N M C ≤ p_high N M C
    unfolding AtMost AtLeast
    low_le_high = pow_cancel (10 ^ 7) (lit< tt) (le_of_mul-le-mul_right (le_trans enclosed.below enclosed.above) (one-le-pow C M pos))

    pub low_le_one : p_low N M C ≤ one
    unfolding p_low
    low_le_one = power_le Down _ _ (ratio_le Down N M pos le)

    pub high_le_one : p_high N M C ≤ one
    unfolding p_high
    high_le_one = power_le Up _ _ (ratio_le Up N M pos le)

    of_ratio_lem : (p : ℕ) → of_ratio N M p ≡ p
    unfolding of_ratio
    of_ratio_lem p = simp (ne_eqb M 0 (λ (e : M ≡ 0). omega arith), le-ltb M N le)

    pub lower_of_lem : lower_of N M C ≡ p_low N M C
    unfolding lower_of
    lower_of_lem = of_ratio_lem (p_low N M C)

    pub upper_of_lem : upper_of N M C ≡ p_high N M C
    unfolding upper_of
    upper_of_lem = of_ratio_lem (p_high N M C)

  module _ (e : N ≡ M) where
    pub low_one : p_low N M C ≡ one
    unfolding p_low
    low_one = rw ratio_one_lem (power_one Down (c_high C))

    pub high_one : p_high N M C ≡ one
    unfolding p_high
    high_one = rw ratio_one_lem (power_one Up (c_low C))

-- no bound is above one, whatever the two numbers
of_ratio_le : (N M p : ℕ) → (0 < M → N ≤ M → p ≤ one) → of_ratio N M p ≤ one
unfolding of_ratio
of_ratio_le N M p h = grind (arith, nat_tests, h)

pub lower_le_one : (N M C : ℕ) → lower_of N M C ≤ one
unfolding lower_of
lower_le_one N M C = of_ratio_le N M (p_low N M C) (low_le_one N M C)

pub upper_le_one : (N M C : ℕ) → upper_of N M C ≤ one
unfolding upper_of
upper_le_one N M C = of_ratio_le N M (p_high N M C) (high_le_one N M C)

pub enclosing : Enclosing
enclosing = enclosed
