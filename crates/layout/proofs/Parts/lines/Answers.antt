-- `layout::Parts::lines` meets its contract (Case file). Assumes nothing.
use Rattle.std.proofs.Common.{arith, sym, add-zero}
use Rattle.layout.proofs.Laid.{then_laid}
use Rattle.layout.proofs.Sums.{lines_none, lines_more}
use Rattle.layout.proofs.Parts.lines.Goals as goal

pub loop-i-init : goal.loop-i-init
loop-i-init c = (record { ends = rw lines_none (sym (add-zero _)); stored = rw lines_none }, omega arith)

pub loop-i-preserved : goal.loop-i-preserved
loop-i-preserved c = (rw lines_more (then_laid c.loop-i.invariant.0 c.line-next.ensures.laid_out), omega arith)
