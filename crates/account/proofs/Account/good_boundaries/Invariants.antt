-- What lasts in the loop of `account::Account::good_boundaries` (Account and its calls): the boundaries passed are sound, and `last` is the last
-- reading's count.
use Rattle.std.proofs.Common.{length}
use Rattle.account.specs.Account.{lent}
use Rattle.account.proofs.Pass.{Passed}
use Rattle.account.proofs.Account.good_boundaries.Given as goal

abbrev pub invariant-loop-mark : goal.invariant-loop-mark
invariant-loop-mark l = Passed (lent l.self) (length l.yielded) l.last
