-- `layout::line` meets its contract (Case file): its numbers, one after the other. Assumes nothing.
use Rattle.std.proofs.Common.{sym}
use Rattle.layout.specs.Text.{decimal, space, line_feed}
use Rattle.layout.proofs.Laid.{then_both}
use Rattle.layout.proofs.line.Goals as goal

pub returns-clause-laid_out : goal.returns-clause-laid_out
returns-clause-laid_out c =
    rw (sym c.from.ensures, sym c.from-2.ensures)
    (then_both (decimal c.args.wh) line_feed
    (then_both (decimal c.from-2.result) space c.number-at.ensures.laid_out c.number-at-2.ensures.laid_out)
    c.number.ensures.laid_out)
