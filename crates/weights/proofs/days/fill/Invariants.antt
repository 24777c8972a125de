-- What lasts in the loop of `weights::days::fill` (Temperature of a day, K1): the elements passed are the weights of the days passed.
use Rattle.std.proofs.Common.{length}
use Rattle.common.proofs.Filled.{Filled}
use Rattle.weights.specs.Weights.{day_weight}
use Rattle.weights.proofs.days.fill.Given as goal

abbrev pub invariant-loop-k : goal.invariant-loop-k
invariant-loop-k l = Filled (day_weight l.profile l.weekday l.means l.calendar) (length l.initial.out) l.out l.k
