-- Of the numbers, those before the index are zero.
use Rattle.std.proofs.Common.{◌≡◌, take, replicate}
use Rattle.common.proofs.clear.Given as goal

abbrev pub invariant-loop-number : goal.invariant-loop-number
invariant-loop-number g l = take l.number-index l.numbers ≡ replicate l.number-index g.T.Number.ZERO
