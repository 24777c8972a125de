-- What lasts in the loop of `statement::fill_interval` (Account and its calls): the parts up to boundary k are written (`Within`).
use Rattle.account.specs.Account.{lent}
use Rattle.statement.specs.Parts.{outputs}
use Rattle.statement.proofs.CodeInterval.{Within}
use Rattle.statement.proofs.fill_interval.Given as goal

abbrev pub invariant-loop-k : goal.invariant-loop-k
invariant-loop-k l = Within (lent l.fn.account) l.p l.q l.low l.e l.z l.k l.zk (outputs l.from l.to l.wh) l.reached
