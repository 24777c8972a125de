-- The value of GHD33 at 8.00 degrees (Starred cases, "By program"), computed: 1.000000058 to 1.000000080. Assumes nothing.
use mathlib.Core.Path.{◌≡◌, refl}
use lib.IntN.{pos}
use Rattle.power.specs.Power.{one, quotient, exponent, c_low, c_high, newton, sqrt_down, sqrt_up, square_root, scaled_product, next_root, raise, times_roots, power, p_low, p_high}
use Rattle.profile.specs.Coefficients.{profile_of}
use Rattle.profile.specs.Value.{linear, value_low, value_high}
use Rattle.vectors.specs.Near.{NearOne}

low_is : value_low (profile_of 3) (pos 800) ≡ pos 1_000_000_058
unfolding one quotient exponent c_low c_high newton sqrt_down sqrt_up square_root scaled_product next_root raise times_roots power p_low p_high linear value_low profile_of
low_is = refl

high_is : value_high (profile_of 3) (pos 800) ≡ pos 1_000_000_080
unfolding one quotient exponent c_low c_high newton sqrt_down sqrt_up square_root scaled_product next_root raise times_roots power p_low p_high linear value_high profile_of
high_is = refl

pub near_one_lem : NearOne
near_one_lem = rw (low_is, high_is) refl
