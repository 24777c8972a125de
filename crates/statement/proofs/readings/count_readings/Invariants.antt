-- The count so far in the loop of `statement::readings::count_readings` (Account and its calls): that of the boundaries passed.
use Rattle.std.proofs.Common.{◌≡◌, ◌≤◌}
use Rattle.common.specs.Below.{how_many}
use Rattle.account.specs.Slices.{reads_at}
use Rattle.statement.proofs.readings.count_readings.Given as goal

abbrev pub invariant-loop-mark : goal.invariant-loop-mark
invariant-loop-mark l = (l.count ≤ l.mark-index) × (l.count ≡ how_many (reads_at l.marks) l.mark-index)
