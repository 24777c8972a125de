-- `page::line` meets its contract (K4): its columns, one after the other. Assumes nothing.
use Rattle.std.proofs.Common.{arith}
use Rattle.layout.specs.Text.{decimal}
use Rattle.page.proofs.Sizes.{small_fits}
use Rattle.page.proofs.Stored.{columns_stored}
use Rattle.page.proofs.line.Goals as goal

pub column-requires : goal.column-requires
column-requires c = (omega arith, rw c.from.ensures (small_fits _ _ _ _ c.requires.1).from_fits)

pub column-requires-2 : goal.column-requires-2
column-requires-2 c = (omega arith, rw c.from-2.ensures (small_fits _ _ _ _ c.requires.1).to_fits)

pub column-requires-3 : goal.column-requires-3
column-requires-3 c = (omega arith, (small_fits _ _ _ _ c.requires.1).wh_fits)

pub column-requires-4 : goal.column-requires-4
column-requires-4 c = (omega arith, (small_fits _ _ _ _ c.requires.1).sum_fits)

pub returns : goal.returns
returns c =
    let a = c.args in
    columns_stored a.page.now a.at (decimal a.from) (decimal a.to) (decimal a.wh) (decimal a.sum) (small_fits _ _ _ _ c.requires.1)
    (rw c.from.ensures at c.column.ensures)
    (rw c.from-2.ensures at c.column-2.ensures)
    c.column-3.ensures
    c.column-4.ensures
