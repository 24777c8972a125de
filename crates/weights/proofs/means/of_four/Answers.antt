-- `weights::means::of_four` meets its contract (Temperature of a day): the temperature is in range again, so that 16 bits hold it.
use Rattle.std.proofs.Common.{arith, ◌≡◌, ℕ, ℤ, pos, negsuc, FitsSigned, refl, ◌∙◌, ap}
use Rattle.std.proofs.lemmas.Int.{ints}
use mir.Syntax.{w16}
use Rattle.std.specs.Int.{int_div_euclid}
use Rattle.rounding.specs.Integers.{floor_ℤ}
use Rattle.weights.specs.Temperature.{temperature_of}
use Rattle.weights.proofs.Range.{temperature_in_range, in_range_fits}
use Rattle.weights.proofs.means.of_four.Goals as goal

floor_is : (z : ℤ) (d : ℕ) → int_div_euclid z (pos d) ≡ floor_ℤ z d
floor_is (pos n) d = refl
floor_is (negsuc n) d = refl

given : (c : goal.After-div_euclid) → c.div_euclid.result ≡ temperature_of c.args.a c.args.b c.args.c c.args.d
unfolding temperature_of
given c = c.div_euclid.ensures ∙ floor_is _ 30 ∙ ap (λ (z : ℤ). floor_ℤ z 30) (omega (arith, ints))

fits : (c : goal.After-div_euclid) → FitsSigned w16 c.div_euclid.result
fits c = rw given (in_range_fits _ (temperature_in_range c.args.a c.args.b c.args.c c.args.d c.requires.0 c.requires.1 c.requires.2 c.requires.3))

pub overflow_cast-result : goal.overflow_cast-result
overflow_cast-result c = let f = fits c in omega (arith, ints)

pub returns : goal.returns
returns c = let f = fits c in let g = given c in omega (arith, ints)
