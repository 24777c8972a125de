-- `power::rounded::root_down` meets its contract (Profile value): the mean is not below the root, and falls.
-- Assumes nothing.
use Rattle.std.proofs.Common.{◌*◌, arith}
use Rattle.std.proofs.Math.Nat.{mul-le-mul, mul-div_cancel, div-le_self}
use Rattle.power.specs.Power.{one}
use Rattle.power.proofs.Root.{one_pos, mean_above, mean_below, square_pos, root_by_next, root_down_only}
use Rattle.power.proofs.rounded.root_down.Goals as goal

pub overflow_mul-x : goal.overflow_mul-x
unfolding one
overflow_mul-x c = omega arith

pub overflow_add-s : goal.overflow_add-s
unfolding one
overflow_add-s c = omega arith

pub loop-s-init : goal.loop-s-init
unfolding one
loop-s-init c = (omega arith, rw (mul-div_cancel c.args.r one_pos) at (mean_above (c.args.r * one) one one_pos))

pub overflow_mul-s : goal.overflow_mul-s
unfolding one
overflow_mul-s c = omega (arith, mul-le-mul c.loop-s.invariant.0 c.loop-s.invariant.0)

pub overflow_add-s-in-loop-s : goal.overflow_add-s-in-loop-s
unfolding one
overflow_add-s-in-loop-s c = omega (arith, div-le_self (c.args.r * one) c.loop-s.s)

pub loop-s-preserved : goal.loop-s-preserved
loop-s-preserved c =
    let above = c.loop-s-test.true in
    (omega (arith, mean_below _ _ above), mean_above _ _ (square_pos _ _ above))

pub returns : goal.returns
unfolding one
returns c = root_down_only _ _ (root_by_next _ _ c.loop-s-test.false c.loop-s.invariant.1)
