-- `layout::put::word` meets its contract (Case file). Assumes nothing.
use Rattle.std.proofs.lemmas.List.{take_more}
use Rattle.layout.proofs.Laid.{then_laid}
use Rattle.layout.proofs.put.word.Goals as goal

pub loop-b-preserved : goal.loop-b-preserved
loop-b-preserved c = rw (take_more c.args.text.now c.loop-b.b-index 0 c.loop-b-test.true) (then_laid c.loop-b.invariant c.byte-next.ensures)
