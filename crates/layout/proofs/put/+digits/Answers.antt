-- `layout::put::digits`, which calls itself, meets its contract (Case file): the digits before the last are those of a tenth of the number. Assumes nothing.
use Rattle.std.proofs.Common.{◌/◌, arith, sym}
use Rattle.layout.proofs.Decimal.{one_digit, last_digit, decimal_most}
use Rattle.layout.proofs.Laid.{then_laid}
use Rattle.layout.proofs.put.+digits.Goals as goal

pub returns-then-n-lt10 : goal.returns-then-n-lt10
returns-then-n-lt10 t c = rw (one_digit c.args.n c.if-n-lt10.true, sym c.glyph.ensures) c.byte.ensures

pub byte-requires-2 : goal.byte-requires-2
byte-requires-2 t c = omega (arith, c.digits-last.ensures.ends, decimal_most (c.args.n / 10))

pub returns : goal.returns
returns t c = rw (last_digit c.args.n c.if-n-lt10.false c.ranges.n.fits, sym c.glyph-2.ensures) (then_laid c.digits-last.ensures c.byte-2.ensures)
