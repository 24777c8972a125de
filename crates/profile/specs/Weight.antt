-- The weight of a day (Profile value): "A day's weight, in millionths, is floor(low value × F / 10^7)."
use Rattle.std.specs.Prelude.{◌≡◌, true, ℕ, ◌≤◌, ◌<◌, ℤ, pos, nat_abs, ◌*ℤ◌, get_or}
use Rattle.rounding.specs.Integers.{floor_ℤ}
use Rattle.profile.specs.Limits.{in_range, profile_count, weight_least, weight_most}
use Rattle.profile.specs.Coefficients.{profile_of}
use Rattle.profile.specs.Value.{value_low}

-- the factor F of a profile's weekday, Monday 0 to Sunday 6
abbrev pub factor_of : ℕ → ℕ → ℕ
factor_of profile weekday = get_or (profile_of profile).factors weekday 0

-- the weight of a profile on a weekday at temperature t, as a natural number: over the table it is the floor itself (`WholeTable`)
unfoldable pub weight_of : ℕ → ℕ → ℤ → ℕ
weight_of profile weekday t = nat_abs (floor_ℤ (value_low (profile_of profile) t *ℤ pos (factor_of profile weekday)) 10_000_000)

-- "Every weight that the table can give is 1 to 6,999,999, shown over the whole table" (proofs/Bounds, `whole_table`)
abbrev pub WholeTable : Type 0
WholeTable =
    (profile weekday : ℕ) (t : ℤ) → profile < profile_count → weekday < 7 → in_range t ≡ true →
    (pos (weight_of profile weekday t) ≡ floor_ℤ (value_low (profile_of profile) t *ℤ pos (factor_of profile weekday)) 10_000_000) × (weight_least ≤ weight_of profile weekday t) × (weight_of profile weekday t ≤ weight_most)
