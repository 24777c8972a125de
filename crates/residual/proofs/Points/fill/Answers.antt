-- `residual::Points::fill` meets its contract (K5): after each point the amounts and totals are those of the points passed (`Filling`). Assumes nothing.
use Rattle.std.proofs.Common.{arith}
use Rattle.residual.proofs.Filling.{filling_none, part_most, not_less, total_within, filling_more, filling_all}
use Rattle.residual.proofs.Table.{known, clear_long}
use Rattle.residual.proofs.Points.fill.Goals as goal

pub loop-i-init : goal.loop-i-init
loop-i-init c = filling_none _ _ _ _ _ (clear_long _ c.requires.cleared.amounts_clear) c.requires.cleared.totals_clear

pub overflow_add-part : goal.overflow_add-part
overflow_add-part c = omega (arith, part_most _ _ _ c.loop-i.invariant (omega arith))

pub rounded_share-after-requires : goal.rounded_share-after-requires
rounded_share-after-requires c =
    record {
      positive = c.requires.spreadable.positive;
      share = omega (arith, part_most _ _ _ c.loop-i.invariant (omega arith));
      sum_within = c.requires.spreadable.sum_within;
      load_within = c.requires.spreadable.load_within;
    }

pub overflow_sub-amount : goal.overflow_sub-amount
overflow_sub-amount c = not_less _ _ _ c.loop-i.invariant (omega arith) c.requires.spreadable.sum_is c.rounded_share-after.ensures

pub bounds-totals-from : goal.bounds-totals-from
bounds-totals-from c =
    omega (arith, c.from.ensures, known c.args.self.suppliers.now c.requires.spreadable.good_list c.loop-i.i (omega arith), c.loop-i.invariant.totals_are.long)

pub overflow_add-totals : goal.overflow_add-totals
overflow_add-totals c =
    let s = c.requires.spreadable in
    rw c.from.ensures
    (omega (arith, total_within _ _ _ c.loop-i.invariant (omega arith) s.sum_is c.rounded_share-after.ensures _ (known _ s.good_list c.loop-i.i (omega arith)) (omega arith), s.load_within))

pub bounds-totals-from-in-loop-i : goal.bounds-totals-from-in-loop-i
bounds-totals-from-in-loop-i c =
    omega (arith, c.from.ensures, known c.args.self.suppliers.now c.requires.spreadable.good_list c.loop-i.i (omega arith), c.loop-i.invariant.totals_are.long)

pub loop-i-preserved : goal.loop-i-preserved
loop-i-preserved c =
    let s = c.requires.spreadable in
    rw c.from.ensures (filling_more _ _ _ c.loop-i.invariant (omega arith) (known _ s.good_list c.loop-i.i (omega arith)) s.sum_is c.rounded_share-after.ensures)

pub returns : goal.returns
returns c = filling_all _ _ _ c.loop-i.invariant (omega arith)
