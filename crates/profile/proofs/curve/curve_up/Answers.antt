-- `profile::curve::curve_up` meets its contract (Profile value): A × 100 × s is below 2^61. Assumes nothing.
use Rattle.std.proofs.Common.{◌*◌, ◌^◌, arith}
use Rattle.std.proofs.lemmas.Int.{ints}
use lib.Dec.{lit<}
use Rattle.power.proofs.Quotient.{ceil_is}
use Rattle.profile.proofs.Bounds.{curve_small}
use Rattle.profile.proofs.curve.curve_up.Goals as goal

pub returns : goal.returns
returns c =
    let up = rw c.from.ensures at c.div_ceil.ensures in
    rw (← ceil_is (c.args.a * 100 * c.args.s) (2 ^ 30) (lit< tt))
    (omega (arith, ints, up, curve_small c.args.a c.args.s c.requires.0 c.requires.1))
