-- s is at most one and not below the root of x, and falls.
use Rattle.std.proofs.Common.{◌+◌, ◌*◌, ◌≤◌, ◌<◌}
use Rattle.power.specs.Power.{one}
use Rattle.power.proofs.rounded.root_down.Given as goal

abbrev pub invariant-loop-s : goal.invariant-loop-s
invariant-loop-s l = (l.s ≤ one) × (l.x < (l.s + 1) * (l.s + 1))

abbrev pub decreases-loop-s : goal.decreases-loop-s
decreases-loop-s l = l.s
