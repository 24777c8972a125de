-- The sum so far in the loop of `residual::Points::limited_sum` (K5): that of the bases passed, within the limit.
use Rattle.std.proofs.Common.{◌≡◌, ◌≤◌, take}
use Rattle.common.specs.Lists.{sum_of}
use Rattle.residual.specs.Call.{base_most}
use Rattle.residual.proofs.Points.limited_sum.Given as goal

abbrev pub invariant-loop-base : goal.invariant-loop-base
invariant-loop-base l = (l.sum ≤ base_most) × (l.sum ≡ sum_of (take l.base-index l.self.bases.now))
