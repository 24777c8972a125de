-- `statement::fill` meets its contract (Account and its calls): from reading to reading the parts are written (`Below`). Assumes nothing.
use native.Mathlib.Omega.{arith}
use Rattle.std.proofs.Common.{sym, ◌∙◌}
use Rattle.statement.proofs.CodeFill.{first_there, below_first, below_next, below_bare, below_last}
use Rattle.statement.proofs.fill.Goals.{then-is_reading, else-is_reading}
use Rattle.statement.proofs.fill.Goals as goal

pub unwrap-first-requires : goal.unwrap-first-requires
unwrap-first-requires c = first_there c.requires _ c.next_reading.ensures

pub loop-q-init : goal.loop-q-init
loop-q-init c = below_first c.requires _ (rw c.unwrap-first.ensures at c.next_reading.ensures)

pub loop-q-preserved : goal.loop-q-preserved
loop-q-preserved c =
    let less = c.loop-q-test.true in
    let reads = c.is_reading.ensures in
    elim c.if-is_reading.branch [
      | then-is_reading w ↦ rw (w.from-is, w.to-is, w.wh-is, w.done-is) (below_next c.loop-q.invariant less (sym reads ∙ w.if-is_reading.true) w.fill_interval-done.ensures)
      | else-is_reading w ↦ rw (w.from-is, w.to-is, w.wh-is, w.done-is) (below_bare c.loop-q.invariant (sym reads ∙ w.if-is_reading.false))
    ]

pub returns : goal.returns
returns c = below_last c.loop-q.invariant (omega (arith, c.loop-q-test.false))
