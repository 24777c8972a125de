-- Customer value, or Kundenwert, and daily amount (Customer value and daily amount): "The customer value, in units of 0.1 Wh, is
-- nearest(energy × 10^7 / Z), energy in Wh, Z the sum of the lent weights. The daily amount is nearest(value × weight / 10^7) Wh."
use Rattle.std.specs.Prelude.{ℕ, ◌*◌, ◌≡◌, not, List, ltb, length}
use Rattle.profile.specs.Limits.{bad_span}
use Rattle.rounding.specs.Nearest.{nearest}
use Rattle.account.specs.Account.{good_weight, good_weights, energy_most}
use Rattle.common.specs.Rows.{row, if_done}
use Rattle.common.specs.Lists.{sum_of}

-- Z is the sum of w
abbrev pub customer_value : ℕ → List ℕ → ℕ
customer_value energy w = nearest (energy * 10_000_000) (sum_of w)

abbrev pub daily_amount : ℕ → ℕ → ℕ
daily_amount v weight = nearest (v * weight) 10_000_000

-- 12: "customer value above 10^12"
abbrev pub value_most : ℕ
value_most = 1_000_000_000_000

abbrev pub customer_number : ℕ → List ℕ → ℕ
customer_number energy w =
    row (bad_span (length w)) 3  -- n outside 1 to 1,096
    (row (not (good_weights w)) 5  -- lent weights unsound
    (row (ltb energy_most energy) 9  -- energy above 2,000,000,000
    (row (ltb value_most (customer_value energy w)) 12  -- customer value above 10^12
    0)))

-- 5 asks about the single weight, and 12 about the value that is passed in
abbrev pub amount_number : ℕ → ℕ → ℕ
amount_number v weight =
    row (not (good_weight weight)) 5  -- weight outside 1 to 6,999,999
    (row (ltb value_most v) 12  -- customer value above 10^12
    0)

pub record CustomerMet (energy : ℕ) (w : List ℕ) (answered given : ℕ) (after : List ℕ) : Type 0 where
  pub answers : answered ≡ customer_number energy w
  pub gives : given ≡ if_done (customer_number energy w) (customer_value energy w) 0
  pub stays : after ≡ w

pub record AmountMet (v weight answered given : ℕ) : Type 0 where
  pub answers : answered ≡ amount_number v weight
  pub gives : given ≡ if_done (amount_number v weight) (daily_amount v weight) 0
