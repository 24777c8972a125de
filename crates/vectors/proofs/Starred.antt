-- The starred cases (Buyer's note), one fact about the rules: each answer is computed, but for the powers, where N and the exponent are any numbers, and
-- for the customer value, where the weights are any with the sum.
-- Assumes nothing.
use mathlib.Core.Path.{◌≡◌, refl}
use mathlib.Core.List.{List}
use Prim.Native.Nat.{ℕ, ◌^◌, ◌<◌}
use Rattle.power.specs.Power.{one, power_low, power_high, p_low, p_high}
use Rattle.power.proofs.AtMostOne.{power_one}
use Rattle.power.proofs.Laws.{low_one, high_one}
use Rattle.profile.specs.Limits.{in_range}
use Rattle.common.specs.Lists.{list_of, sum_of}
use Rattle.weights.specs.Temperature.{temperature_of}
use Rattle.rounding.specs.Nearest.{nearest}
use Rattle.customer.specs.Customer.{customer_value}
use Rattle.common.specs.Below.{everywhere, somewhere, how_many, first, last}
use Rattle.account.specs.Stands.{never_falling, last_less_first}
use Rattle.account.specs.Account.{good_weights, good_marks, zero_counts}
use Rattle.account.specs.Refusals.{out_of_order}
use Rattle.statement.specs.Split.{weight_sum, rounded_share, between, has}
use Rattle.statement.specs.Parts.{parts_below}
use Rattle.vectors.specs.Starred.{Starred, EveryLine}

low : (c : ℕ) → power_low one c ≡ 2 ^ 30
unfolding one
low c = power_one _ c

high : (c : ℕ) → power_high one c ≡ 2 ^ 30
unfolding one
high c = power_one _ c

low_whole : (N C : ℕ) → 0 < N → p_low N N C ≡ 2 ^ 30
unfolding one
low_whole N C h = low_one N N C h refl

high_whole : (N C : ℕ) → 0 < N → p_high N N C ≡ 2 ^ 30
unfolding one
high_whole N C h = high_one N N C h refl

of_sum : (w : List ℕ) → sum_of w ≡ 379_356_309 → customer_value 958_000 w ≡ 25_253
unfolding nearest
of_sum w sum = rw sum

pub starred : Starred
unfolding in_range temperature_of nearest everywhere somewhere how_many first last never_falling last_less_first good_weights good_marks zero_counts out_of_order weight_sum rounded_share between has parts_below sum_of list_of
starred = (((refl, refl, refl), (refl, refl, refl), (refl, refl, refl)), (((refl, refl, refl), (refl, refl, refl), (refl, refl, refl), (refl, refl, refl), (refl, refl, refl)), ((low, high, low_whole, high_whole), ((refl, refl, refl), (((refl, refl, refl), (refl, refl, refl), (refl, refl, refl)), ((of_sum, refl, refl), ((refl, refl, refl, refl), ((refl, refl, refl), tt))))))))

pub every_line : EveryLine
every_line = (refl, λ (a, (b, (c, (d, (e, (f, (g, (h, none)))))))). (a, b, c, d, e, f, g, h))
