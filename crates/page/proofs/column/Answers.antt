-- `page::column` meets its contract (K4). Assumes nothing.
use Rattle.std.proofs.Common.{◌/◌, ◌∙◌, ◌-◌, arith}
use native.Mathlib.Nat.{add-sub_cancel_left}
use Rattle.std.proofs.lemmas.List.{length-set}
use Rattle.layout.proofs.Decimal.{some_digit}
use Rattle.page.proofs.Columns.{spaces_stored, first_stored, digit_stored}
use Rattle.page.proofs.column.Goals as goal

pub loop-rest-init : goal.loop-rest-init
loop-rest-init c =
    record {
      some = omega (arith, some_digit c.args.n c.ranges.n.fits);
      room = omega arith;
      inside = omega arith;
      stored = rw (add-sub_cancel_left c.args.at c.args.width);
    }

pub loop-rest-preserved : goal.loop-rest-preserved
loop-rest-preserved c =
    let l = c.loop-rest in
    let step = digit_stored l.page c.args.at l.end l.rest c.loop-rest-test.true (omega arith) l.invariant.room in
    record {
      some = omega (arith, step.0, some_digit (l.rest / 10) (omega arith));
      room = step.0;
      inside = simp length-set (omega arith);
      stored = step.1 ∙ l.invariant.stored;
    }

pub returns : goal.returns
returns c =
    let l = c.loop-rest in
    spaces_stored _ c.args.at (l.end - 1) (simp length-set (omega arith)) (omega arith) (c.fill.ensures.after (λ y e. e)) ∙
    first_stored l.page c.args.at l.end l.rest c.loop-rest-test.false l.invariant.some ∙
    l.invariant.stored
