-- Starred cases, the line below the starred ones: "By program: GHD33 at 8.00 degrees has a value within 0.00001 of 1." The program `figures`
-- prints it; here it is a fact about the rules (proofs/Near, `near_one_lem`).
use Rattle.std.specs.Prelude.{◌≡◌, Bool, true, ◌&&◌, ℤ, pos}
use Rattle.std.specs.Int.Signed.{le_z}
use Rattle.profile.specs.Coefficients.{profile_of}
use Rattle.profile.specs.Value.{value_low, value_high}

-- low and high within 0.00001 of 1, in units of 10^-9
abbrev pub near_one : ℤ → ℤ → Bool
near_one low high = le_z (pos 999_990_000) low && le_z high (pos 1_000_010_000)

-- GHD33 is number 3
abbrev pub NearOne : Type 0
NearOne = near_one (value_low (profile_of 3) (pos 800)) (value_high (profile_of 3) (pos 800)) ≡ true
