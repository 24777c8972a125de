-- `residual::Points::into_cleared` meets its contract (K5): where no row declines, the load is spread, or all is zero. Assumes nothing.
use Rattle.std.proofs.Common.{◌≡◌, sym, ◌∙◌, arith}
use Rattle.common.specs.Lists.{sum_of}
use Rattle.residual.specs.Spread.{outputs}
use Rattle.residual.specs.Progress.{lent}
use Rattle.residual.proofs.Table.{within_both, with_base, with_none, cleared_fits, cleared_same}
use Rattle.residual.proofs.AddUp.{done_met}
use Rattle.residual.proofs.Near.{spread_zero}
use Rattle.residual.proofs.Points.into_cleared.Goals as goal

pub returns-then-sum-gt0 : goal.returns-then-sum-gt0
returns-then-sum-gt0 c =
    let some = c.in_ok-sum.ensures in
    done_met _ _ _ _ (cleared_fits c.requires)
    (record {
      list = sym c.bad_list.ensures ∙ c.if-bad_list.false;
      enough = within_both c.args.load c.args.self.bases.now (omega arith) (omega (arith, some));
      base = with_base c.args.load c.args.self.bases.now (omega (arith, some));
    })
    c.fill.ensures

pub returns-else-load-gt0 : goal.returns-else-load-gt0
returns-else-load-gt0 c =
    let none = c.in_ok-sum.ensures in
    let empty : sum_of c.args.self.bases.now ≡ 0 = omega (arith, none) in
    let p = lent c.args.self in
    let o = outputs c.args.amounts.now c.args.totals.now in
    let fits = cleared_fits c.requires in
    done_met c.args.load p o o fits
    (record {
      list = sym c.bad_list.ensures ∙ c.if-bad_list.false;
      enough = within_both c.args.load c.args.self.bases.now (omega arith) (omega (arith, none));
      base = with_none c.args.load c.args.self.bases.now empty (omega arith);
    })
    (cleared_same p o c.requires ∙ sym (spread_zero c.args.load p o fits empty))
