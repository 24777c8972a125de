-- The weights of a span (Temperature of a day): "Day k, from 0, has its own mean at index k+3, and its weekday is day 0's plus k, modulo 7." The table: rows 3, 1, 2 and 4,
-- n being "the number of means less three"; rows 1, 2 and 4 say "outputs zero", row 3 "untouched". K1: "It refuses with 14 the first byte above 7, after 4, giving its
-- index, outputs zero."
use Rattle.std.specs.Prelude.{◌≡◌, Bool, false, not, ◌||◌, List, ℕ, ◌+◌, ◌-◌, ◌%◌, ◌≤◌, ◌<◌, leb, ltb, eqb, ℤ, pos, length, get_or, replicate}
use Rattle.profile.specs.Limits.{profile_count, span_least, span_most, bad_span, weight_least, weight_most}
use Rattle.profile.specs.Weight.{weight_of}
use Rattle.common.specs.Rows.{row, zeros}
use Rattle.common.specs.Lists.{list_of}
use Rattle.weights.specs.Means.{first_out, some_out}
use Rattle.weights.specs.Temperature.{temperature_of}
use Rattle.weights.specs.Calendar.{counts_as, some_no_day, first_no_day}

abbrev pub mean_at : List ℤ → ℕ → ℤ
mean_at means i = get_or means i (pos 0)

-- the allocation temperature of day k, its own mean first
abbrev pub day_temperature : List ℤ → ℕ → ℤ
day_temperature means k = temperature_of (mean_at means (k + 3)) (mean_at means (k + 2)) (mean_at means (k + 1)) (mean_at means k)

-- K1: "Weights are compared against the amended factor", that of the weekday which the day counts as
abbrev pub day_weight : (profile weekday : ℕ) (means : List ℤ) (calendar : List ℕ) (k : ℕ) → ℕ
day_weight profile weekday means calendar k = weight_of profile (counts_as weekday calendar k) (day_temperature means k)

-- the weights of the days of a span, day 0 being a weekday of Monday 0 to Sunday 6
unfoldable pub weights_of : (profile weekday : ℕ) (means : List ℤ) (calendar : List ℕ) → List ℕ
weights_of profile weekday means calendar = list_of (day_weight profile weekday means calendar) (length means - 3)

-- n is outside 1 to 1,096, or the output or the calendar is not n long
abbrev pub unfit_lengths : (means calendar out : ℕ) → Bool
unfit_lengths means calendar out = bad_span (means - 3) || not (eqb out (means - 3)) || not (eqb calendar (means - 3))

abbrev pub unfit : (means : List ℤ) (calendar out : List ℕ) → Bool
unfit means calendar out = unfit_lengths (length means) (length calendar) (length out)

-- what the table lays down for a call: the number, the index, and what the output then holds
pub record Ruling : Type 0 where
  pub number : ℕ
  pub place : ℕ
  pub memory : List ℕ

abbrev pub ruling : (profile weekday : ℕ) (means : List ℤ) (calendar before : List ℕ) → Ruling
ruling profile weekday means calendar before =
    row (unfit means calendar before) (record { number = 3; place = 0; memory = before })  -- n outside 1 to 1,096, or a lent length unfit
    (row (leb profile_count profile) (record { number = 1; place = 0; memory = zeros before })  -- profile above 9
    (row (ltb 6 weekday) (record { number = 2; place = 0; memory = zeros before })  -- weekday above 6
    (row (some_out means) (record { number = 4; place = first_out means; memory = zeros before })  -- first mean out of range
    (row (some_no_day calendar) (record { number = 14; place = first_no_day calendar; memory = zeros before })  -- first byte above 7
    (record { number = 0; place = 0; memory = weights_of profile weekday means calendar })))))

-- weights that an account takes: as many as a span has days, "every weight that the table can give is 1 to 6,999,999"
pub record Bounded (weights : List ℕ) : Type 0 where
  pub least : span_least ≤ length weights
  pub most : length weights ≤ span_most
  pub each : (k : ℕ) → k < length weights → (weight_least ≤ get_or weights k 0) × (get_or weights k 0 ≤ weight_most)

pub record WeightsMet (profile weekday : ℕ) (means : List ℤ) (calendar before : List ℕ) (answered placed : ℕ) (after : List ℕ) (means_after : List ℤ) (calendar_after : List ℕ) : Type 0 where
  pub answers : answered ≡ (ruling profile weekday means calendar before).number
  pub places : placed ≡ (ruling profile weekday means calendar before).place
  pub writes : after ≡ (ruling profile weekday means calendar before).memory
  pub bounded : answered ≡ 0 → Bounded after
  pub stays : means_after ≡ means
  pub calendar_stays : calendar_after ≡ calendar

-- K1, "7 throughout": each day has the weight of its own weekday (proofs/Table, `own_days`)
abbrev pub OwnDays : Type 0
OwnDays =
    (profile weekday : ℕ) (means means_after : List ℤ) (before after calendar_after : List ℕ) (placed : ℕ) →
    WeightsMet profile weekday means (replicate (length means - 3) 7) before 0 placed after means_after calendar_after →
    (k : ℕ) → k < length means - 3 → get_or after k 0 ≡ weight_of profile ((weekday + k) % 7) (day_temperature means k)

-- ---- what the private functions answer: row 3 by the lengths alone, and what the rows below it say of every output that is fit
pub record LengthsMet (means calendar out answered : ℕ) : Type 0 where
  pub answers : answered ≡ row (unfit_lengths means calendar out) 3 0

pub record RowsMet (profile weekday : ℕ) (means : List ℤ) (calendar : List ℕ) (answered placed : ℕ) : Type 0 where
  pub answers : (out : List ℕ) → unfit means calendar out ≡ false → answered ≡ (ruling profile weekday means calendar out).number
  pub places : (out : List ℕ) → unfit means calendar out ≡ false → placed ≡ (ruling profile weekday means calendar out).place

-- and what they ask: no condition of rows 1, 2 and 4 holds
pub record Ready (profile weekday : ℕ) (means : List ℤ) : Type 0 where
  pub profile_known : profile < profile_count
  pub weekday_known : weekday < 7
  pub means_in_range : some_out means ≡ false
