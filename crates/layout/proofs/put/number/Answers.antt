-- `layout::put::number` meets its contract (Case file): the digits, at most 20, and the byte after them. Assumes nothing.
use Rattle.std.proofs.Common.{arith}
use Rattle.layout.proofs.Decimal.{decimal_most}
use Rattle.layout.proofs.Laid.{then_laid}
use Rattle.layout.proofs.put.number.Goals as goal

pub byte-requires : goal.byte-requires
byte-requires c = omega (arith, c.digits-end.ensures.ends, decimal_most c.args.n)

pub returns-clause-laid_out : goal.returns-clause-laid_out
returns-clause-laid_out c = then_laid c.digits-end.ensures c.byte.ensures

pub returns-clause-upper_bound : goal.returns-clause-upper_bound
returns-clause-upper_bound c = omega (arith, c.byte.ensures.ends, c.digits-end.ensures.ends, decimal_most c.args.n)
