-- `statement::fill_interval` meets its contract (Account and its calls). The loop's invariant is `Within` at boundary k. Assumes nothing.
use mathlib.Core.Path.{◌∙◌}
use native.Mathlib.Omega.{arith}
use Rattle.std.proofs.Common.{rules}
use Rattle.account.specs.Account.{lent}
use Rattle.statement.proofs.CodeWritten.{outputs_same}
use Rattle.statement.proofs.CodeInterval.{interval_rises, interval_start, within_small, within_splittable, within_addable, within_bare, within_cut, within_end_addable, within_end}
use Rattle.statement.proofs.fill_interval.Goals.{then-marks-k-ne0, else-marks-k-ne0}
use Rattle.statement.proofs.fill_interval.Goals as goal

pub overflow_sub-e : goal.overflow_sub-e
overflow_sub-e c = interval_rises (lent c.args.account) _ _ _ c.requires

pub loop-k-init : goal.loop-k-init
loop-k-init c =
    interval_start (lent c.args.account) _ _ _ _ _ c.requires c.weight_sum-z.ensures c.from-zk.ensures

pub cut_count-count-requires : goal.cut_count-count-requires
cut_count-count-requires c = within_splittable c.loop-k.invariant (search rules)

pub add_part-reached-requires : goal.add_part-reached-requires
add_part-reached-requires c = within_addable c.loop-k.invariant c.loop-k-test.true _ c.cut_count-count.ensures

pub overflow_add-zk : goal.overflow_add-zk
overflow_add-zk c = omega (arith, c.from-zk-in-loop-k.ensures, c.type_inv.weights c.loop-k.k, within_small c.loop-k.invariant)

pub loop-k-preserved : goal.loop-k-preserved
loop-k-preserved c =
    let less = c.loop-k-test.true in
    let inv = c.loop-k.invariant in
    let more = c.from-zk-in-loop-k.ensures in
    elim c.if-marks-k-ne0.branch [
      | then-marks-k-ne0 w ↦
          rw more (within_cut inv less (omega (arith, w.if-marks-k-ne0.true)) _ w.cut_count-count.ensures (outputs_same w.from-is w.to-is w.wh-is ∙ w.add_part-reached.ensures.1) (w.reached-is ∙ w.add_part-reached.ensures.0))
      | else-marks-k-ne0 w ↦ rw more (within_bare inv less (omega (arith, w.if-marks-k-ne0.false)) (outputs_same w.from-is w.to-is w.wh-is) w.reached-is)
    ]

pub add_part-requires : goal.add_part-requires
add_part-requires c = within_end_addable c.loop-k.invariant c.loop-k-test.false

pub returns : goal.returns
returns c = within_end c.loop-k.invariant c.loop-k-test.false c.add_part.ensures.1 c.add_part.ensures.0
