-- The allocation temperature (Temperature of a day): "With today's mean a and those of one, two and three days before b, c, d, the allocation temperature is
-- nearest((8a+4b+2c+d)/15). No half can occur." The table: the index of 4 is "0 to 3 for four means in the order a, b, c, d", "single values refused are zero".
use Rattle.std.specs.Prelude.{◌≡◌, true, List, [], ◌∷◌, ℕ, Result, Ok, Err, ℤ, pos, ◌+ℤ◌, ◌*ℤ◌}
use Rattle.rounding.specs.Integers.{nearest_ℤ}
use Rattle.profile.specs.Limits.{in_range}
use Rattle.common.specs.Rows.{row, if_done}
use Rattle.common.specs.declared.refusal.Fault.{Fault}
use Rattle.weights.specs.Means.{first_out, some_out}

abbrev pub weighted : ℤ → ℤ → ℤ → ℤ → ℤ
weighted a b c d = pos 8 *ℤ a +ℤ pos 4 *ℤ b +ℤ pos 2 *ℤ c +ℤ d

-- 8 + 4 + 2 + 1
abbrev pub divisor : ℕ
divisor = 15

-- the allocation temperature: a mean of four days, geometric weights
unfoldable pub temperature_of : ℤ → ℤ → ℤ → ℤ → ℤ
temperature_of a b c d = nearest_ℤ (weighted a b c d) divisor

-- "No half can occur": no integer x over 15 is an odd number over 2, whatever sum of means x is (proofs/Half, `no_half`)
abbrev pub NoHalf : Type 0
NoHalf = (x q : ℤ) → pos 2 *ℤ x ≡ (pos 2 *ℤ q +ℤ pos 1) *ℤ pos divisor → ⊥

-- the temperature of means in range is in range, so that every day of a span has a weight (proofs/Range, `temperature_in_range`)
abbrev pub TemperatureInRange : Type 0
TemperatureInRange =
    (a b c d : ℤ) → in_range a ≡ true → in_range b ≡ true → in_range c ≡ true → in_range d ≡ true → in_range (temperature_of a b c d) ≡ true

-- the temperature that a call gives; 0 where a row declines it
abbrev pub value : Result ℤ Fault → ℤ
value (Ok t) = t
value (Err f) = pos 0

abbrev pub four : ℤ → ℤ → ℤ → ℤ → List ℤ
four a b c d = a ∷ b ∷ c ∷ d ∷ []

-- what the table lays down for four means: the number, the index and the temperature
abbrev pub temperature_number : ℤ → ℤ → ℤ → ℤ → ℕ
temperature_number a b c d =
    row (some_out (four a b c d)) 4  -- first mean out of range
    0

abbrev pub temperature_place : ℤ → ℤ → ℤ → ℤ → ℕ
temperature_place a b c d = if_done (temperature_number a b c d) 0 (first_out (four a b c d))

abbrev pub temperature_value : ℤ → ℤ → ℤ → ℤ → ℤ
temperature_value a b c d = if_done (temperature_number a b c d) (temperature_of a b c d) (pos 0)

pub record TemperatureMet (a b c d : ℤ) (answered placed : ℕ) (given : ℤ) : Type 0 where
  pub answers : answered ≡ temperature_number a b c d
  pub places : placed ≡ temperature_place a b c d
  pub gives : given ≡ temperature_value a b c d
