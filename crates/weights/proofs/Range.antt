-- The temperature of four means (Temperature of a day): where they are in range it is in range again, so that 16 bits hold it. Assumes nothing.
use mathlib.Core.Path.{◌≡◌, ◌∙◌, sym}
use mathlib.Core.Bool.{true, and-true}
use native.Mathlib.Omega.{arith}
use borrow.Author.Tests.{leb-true, le-leb}
use lib.IntN.{ℤ, pos, negsuc}
use lib.Signed.{◌≤ℤ◌}
use mir.Syntax.{w16}
use mir.Val.{SFits}
use Rattle.std.proofs.lemmas.Int.{ints, to_z-of_z}
use Rattle.rounding.specs.Integers.{floor_ℤ}
use Rattle.profile.specs.Limits.{in_range, minus, coldest, warmest}
use Rattle.weights.specs.Temperature.{temperature_of, TemperatureInRange}

within : (z : ℤ) → in_range z ≡ true → (coldest ≤ℤ z) × (z ≤ℤ warmest)
unfolding in_range
within (pos n) e = let h = leb-true n 3999 e in (omega (arith, ints), omega (arith, ints))
within (negsuc n) e = let h = leb-true n 4999 (sym (and-true _) ∙ e) in (omega (arith, ints), omega (arith, ints))

floor_in_range : (x : ℤ) → minus 150_000 ≤ℤ x → x ≤ℤ pos 119_999 → in_range (floor_ℤ x 30) ≡ true
unfolding in_range
floor_in_range (pos n) least most = le-leb _ 3999 (omega (arith, ints))
floor_in_range (negsuc n) least most = and-true _ ∙ le-leb _ 4999 (omega (arith, ints))

-- a temperature of means in range is in range again
pub temperature_in_range : TemperatureInRange
unfolding temperature_of
temperature_in_range a b c d ha hb hc hd =
    let wa = within a ha in
    let wb = within b hb in
    let wc = within c hc in
    let wd = within d hd in
    floor_in_range _ (omega (arith, ints)) (omega (arith, ints))

-- 16 bits hold what is in range
pub in_range_fits : (z : ℤ) → in_range z ≡ true → SFits w16 z
in_range_fits z e = let w = within z e in omega (arith, ints)

-- a number that its type holds, as the code passes it on
pub ruleset kept = (to_z-of_z)
