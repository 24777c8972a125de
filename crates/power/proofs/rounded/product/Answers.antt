-- `power::rounded::product` meets its contract (Profile value): the product of two numbers at most one is at most one × one.
-- Assumes nothing.
use Rattle.std.proofs.Common.{arith}
use Rattle.std.proofs.Math.Nat.{mul-le-mul}
use Rattle.power.specs.Power.{one, scaled_product}
use Rattle.power.proofs.rounded.product.Goals as goal

pub overflow_mul-p : goal.overflow_mul-p
unfolding one
overflow_mul-p c = omega (arith, mul-le-mul c.requires.0 c.requires.1)

pub returns : goal.returns
unfolding scaled_product one
returns c = c.quotient.ensures
