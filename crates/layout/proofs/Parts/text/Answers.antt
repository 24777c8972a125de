-- `layout::Parts::text` meets its contract (Case file): its words, numbers and lines, one after the other. Assumes nothing.
use Rattle.layout.specs.Text.{decimal, line_feed}
use Rattle.layout.specs.Parts.{count}
use Rattle.layout.proofs.Laid.{then_laid, then_both}
use Rattle.layout.proofs.Parts.text.Goals as goal

pub returns : goal.returns
returns c =
    let laid =
    then_both (decimal c.sum.result) line_feed
    (then_laid
    (then_laid (then_both (decimal (count c.args.self)) line_feed c.word-at.ensures c.number-at.ensures.laid_out) c.lines-at.ensures.laid_out)
    c.word-at-2.ensures)
    c.number.ensures.laid_out in
    rw c.sum.ensures at laid
