-- The choice of a series (Temperature of a day): "A span has n days, 1 to 1,096, and needs n+3 means". "The chooser returns, of the caller's two series, the first n+3
-- means of the measured one if it has that many, all in range; else those of the forecast on the same terms; else the empty part at the
-- start of the measured one. It returns that empty part also where n is outside 1 to 1,096, and never declines."
use Rattle.std.specs.Prelude.{◌≡◌, Bool, cond, ◌&&◌, not, List, ℕ, ◌+◌, leb, ℤ, length, take}
use Rattle.std.specs.Borrow.{Bor}
use Rattle.profile.specs.Limits.{bad_span}
use Rattle.weights.specs.Means.{some_out}

-- the series has that many means at its start, all in range
abbrev pub serves : List ℤ → ℕ → Bool
serves series count = leb count (length series) && not (some_out (take count series))

-- the series that the chooser returns means of
pub data Series : Type 0 where
  Measured : Series
  Forecast : Series
  Neither : Series

abbrev pub choice : List ℤ → List ℤ → ℕ → Series
choice measured forecast n =
    cond (bad_span n) Neither
    (cond (serves measured (n + 3)) Measured
    (cond (serves forecast (n + 3)) Forecast
    Neither))

-- a part of a lent slice: where it starts, and its means
pub record SeriesPart : Type 0 where
  pub start : ℕ × ℕ
  pub means : List ℤ

abbrev pub first_of : ℕ → Bor (List ℤ) → SeriesPart
first_of count series = record { start = series.ref_ptr; means = take count series.now }

abbrev pub part_of : Series → Bor (List ℤ) → Bor (List ℤ) → ℕ → SeriesPart
part_of Measured measured forecast count = first_of count measured
part_of Forecast measured forecast count = first_of count forecast
part_of Neither measured forecast count = first_of 0 measured

abbrev pub chosen : Bor (List ℤ) → Bor (List ℤ) → ℕ → SeriesPart
chosen measured forecast n = part_of (choice measured.now forecast.now n) measured forecast (n + 3)

pub record ChooseMet (measured forecast : Bor (List ℤ)) (n : ℕ) (answer : Bor (List ℤ)) (measuredAfter forecastAfter : List ℤ) : Type 0 where
  pub start_is : answer.ref_ptr ≡ (chosen measured forecast n).start
  pub means_are : answer.now ≡ (chosen measured forecast n).means
  pub measured_stays : measuredAfter ≡ measured.now
  pub forecast_stays : forecastAfter ≡ forecast.now
