-- What lasts in the loop of `statement::fill` (Account and its calls): the parts up to the last reading below boundary q are written (`Below`).
use Rattle.account.specs.Account.{lent}
use Rattle.statement.specs.Parts.{outputs}
use Rattle.statement.proofs.CodeFill.{Below}
use Rattle.statement.proofs.fill.Given as goal

abbrev pub invariant-loop-q : goal.invariant-loop-q
invariant-loop-q l = Below (lent l.account) l.q (outputs l.from l.to l.wh) l.done
