-- The calls for C and Rust (If a call declines): each has the record of the call below it, over the numbers, places and values that it returns. Here is what
-- is theirs alone.
use Rattle.std.specs.Prelude.{ℕ, ◌+◌, ◌≡◌, List, ℤ}
use Rattle.weights.specs.Choose.{Series, Measured, Forecast, Neither, choice}
use Rattle.ffi.specs.declared.Outcome.{Outcome}
use Rattle.ffi.specs.declared.Temperature.{Temperature}
use Rattle.ffi.specs.declared.Values.{Values}
use Rattle.ffi.specs.declared.Chosen.{Chosen}

-- the number, the place and the value that a call returns
abbrev pub outcome_of : ℕ → ℕ → ℕ → Outcome
outcome_of number place value = record { number = number; place = place; value = value }

abbrev pub temperature_of : ℕ → ℕ → ℤ → Temperature
temperature_of number place value = record { number = number; place = place; value = value }

abbrev pub values_of : ℕ → ℕ → ℤ → ℤ → Values
values_of number place low high = record { number = number; place = place; low = low; high = high }

-- the number of the series that the chooser returns means of, and how many of these there are
abbrev pub series_number : Series → ℕ
series_number Measured = 1
series_number Forecast = 2
series_number Neither = 0

abbrev pub means_count : Series → ℕ → ℕ
means_count Measured count = count
means_count Forecast count = count
means_count Neither count = 0

pub record ChooseReturned (measured forecast : List ℤ) (n : ℕ) (r : Chosen) (measuredAfter forecastAfter : List ℤ) : Type 0 where
  pub series_is : r.series ≡ series_number (choice measured forecast n)
  pub in_number : r.means ≡ means_count (choice measured forecast n) (n + 3)
  pub measured_stays : measuredAfter ≡ measured
  pub forecast_stays : forecastAfter ≡ forecast
