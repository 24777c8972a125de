-- `power::by_roots::times_roots` meets its contract (Profile value), turn by turn as its definition.
-- Assumes nothing.
use Rattle.std.proofs.Common.{sym, ◌∙◌, arith}
use Rattle.power.proofs.AtMostOne.{product_le, next_le}
use Rattle.power.proofs.Steps.{times_roots_done, times_roots_set, times_roots_clear}
use Rattle.power.proofs.by_roots.times_roots.Goals as goal

pub product-q-requires : goal.product-q-requires
product-q-requires c = (c.loop-bit.invariant.2, rw c.next_root-root.ensures (next_le _ _ c.loop-bit.invariant.1))

pub loop-bit-preserved-then-c-bit-eq1 : goal.loop-bit-preserved-then-c-bit-eq1
loop-bit-preserved-then-c-bit-eq1 c =
    let here = c.loop-bit.invariant in
    rw (c.product-q.ensures, c.next_root-root.ensures)
    (sym (times_roots_set _ _ _ _ _ (omega arith) c.if-c-bit-eq1.true) ∙ here.0, next_le _ _ here.1, product_le _ _ _ here.2 (next_le _ _ here.1))

pub loop-bit-preserved : goal.loop-bit-preserved
loop-bit-preserved c =
    let here = c.loop-bit.invariant in
    rw c.next_root-root.ensures
    (sym (times_roots_clear _ _ _ _ _ (omega arith) c.if-c-bit-eq1.false) ∙ here.0, next_le _ _ here.1, here.2)

pub returns : goal.returns
returns c = sym (times_roots_done _ _ _ _ _ (omega arith)) ∙ c.loop-bit.invariant.0
