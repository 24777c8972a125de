-- The calls on profiles (If a call declines): rows 1, 2 and 4 of the table, for profile by number, profile value and day weight, and what these calls
-- promise. "Checks run 3, 1, 2, 4"; "Single values refused are zero"; "The index of 4 is 0 for one temperature".
use Rattle.std.specs.Prelude.{◌≡◌, not, Result, Ok, Err, ℕ, ◌≤◌, leb, ltb, ℤ, pos}
use Rattle.common.specs.Rows.{row, if_done}
use Rattle.profile.specs.Limits.{in_range, coldest, warmest, weight_least, weight_most, span_least, span_most, profile_count}
use Rattle.common.specs.Lists.{sum_of}
use Rattle.profile.specs.Coefficients.{profile_of, no_profile}
use Rattle.profile.specs.Value.{value_low, value_high}
use Rattle.profile.specs.Weight.{weight_of}
use Rattle.profile.specs.declared.Profile.{Profile}
use Rattle.profile.specs.declared.curve.Values.{Values}
use Rattle.common.specs.declared.refusal.Refusal.{Refusal}
use Rattle.common.specs.declared.refusal.Fault.{Fault}

-- ---- profile by number
abbrev pub profile_number : ℕ → ℕ
profile_number profile =
    row (leb profile_count profile) 1  -- profile above 9
    0

-- the profile that an answer gives, one of zeros where a row declines
abbrev pub profile_given : Result Profile Refusal → Profile
profile_given (Ok p) = p
profile_given (Err r) = no_profile

pub record ByNumberMet (profile answered : ℕ) (given : Profile) : Type 0 where
  pub answers : answered ≡ profile_number profile
  pub gives : given ≡ profile_of profile
  pub week : profile_number profile ≡ 0 → sum_of given.factors ≡ 70_000

-- the limits, as the code names them
pub record LimitsMet (cold warm : ℤ) (count : ℕ) : Type 0 where
  pub cold_is : cold ≡ coldest
  pub warm_is : warm ≡ warmest
  pub count_is : count ≡ profile_count

pub record WeightLimitsMet (least most : ℕ) : Type 0 where
  pub least_is : least ≡ weight_least
  pub most_is : most ≡ weight_most

pub record SpanLimitsMet (least most : ℕ) : Type 0 where
  pub least_is : least ≡ span_least
  pub most_is : most ≡ span_most

-- ---- profile value
abbrev pub value_number : ℕ → ℤ → ℕ
value_number profile t =
    row (leb profile_count profile) 1  -- profile above 9
    (row (not (in_range t)) 4  -- first mean out of range
    0)

-- the low and the high value that an answer gives, 0 where a row declines
abbrev pub low_given : Result Values Fault → ℤ
low_given (Ok v) = v.low
low_given (Err f) = pos 0

abbrev pub high_given : Result Values Fault → ℤ
high_given (Ok v) = v.high
high_given (Err f) = pos 0

-- the value by the rules, 0 where there is none
abbrev pub low_by_rule : ℕ → ℤ → ℤ
low_by_rule profile t = if_done (value_number profile t) (value_low (profile_of profile) t) (pos 0)

abbrev pub high_by_rule : ℕ → ℤ → ℤ
high_by_rule profile t = if_done (value_number profile t) (value_high (profile_of profile) t) (pos 0)

pub record ValueMet (profile : ℕ) (t : ℤ) (answered placed : ℕ) (lowest highest : ℤ) : Type 0 where
  pub answers : answered ≡ value_number profile t
  pub places : placed ≡ 0
  pub low : lowest ≡ low_by_rule profile t
  pub high : highest ≡ high_by_rule profile t

-- ---- day weight
abbrev pub weight_number : ℕ → ℕ → ℤ → ℕ
weight_number profile weekday t =
    row (leb profile_count profile) 1  -- profile above 9
    (row (ltb 6 weekday) 2  -- weekday above 6
    (row (not (in_range t)) 4  -- first mean out of range
    0))

pub record WeightMet (profile weekday : ℕ) (t : ℤ) (answered placed given : ℕ) : Type 0 where
  pub answers : answered ≡ weight_number profile weekday t
  pub places : placed ≡ 0
  pub gives : given ≡ if_done (weight_number profile weekday t) (weight_of profile weekday t) 0
  pub least : weight_number profile weekday t ≡ 0 → weight_least ≤ given
  pub most : weight_number profile weekday t ≡ 0 → given ≤ weight_most
