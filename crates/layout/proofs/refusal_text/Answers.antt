-- `layout::refusal_text` meets its contract (Case file): its word and numbers, one after the other. Assumes nothing.
use Rattle.std.proofs.Common.{sym}
use Rattle.layout.specs.Text.{decimal, space, line_feed}
use Rattle.layout.proofs.Laid.{then_both}
use Rattle.layout.proofs.refusal_text.Goals as goal

pub returns : goal.returns
returns c =
    rw (sym c.from.ensures)
    (then_both (decimal c.args.place) line_feed
    (then_both (decimal c.from.result) space c.word-at.ensures c.number-at.ensures.laid_out)
    c.number.ensures.laid_out)
