-- `residual::Points::limited_sum` meets its contract (K5): a sum of the first bases is formed only where it is within the limit. Assumes nothing.
use Rattle.std.proofs.Common.{suc, ◌<◌, rules, refl, ◌∙◌, ap, take, arith, add-one}
use lib.Seq.{take_all}
use Rattle.common.specs.Lists.{sum_of}
use Rattle.residual.specs.Call.{base_most}
use Rattle.residual.proofs.Sums.{sum_more, sum_first}
use Rattle.residual.proofs.Points.limited_sum.Goals as goal

pub loop-base-init : goal.loop-base-init
unfolding sum_of
loop-base-init c = (omega arith, refl)

pub returns-then-sum-base : goal.returns-then-sum-base
returns-then-sum-base c =
    let bases = c.args.self.bases.now in
    let k = c.loop-base.base-index in
    let above : base_most < sum_of bases = omega (arith, c.loop-base.invariant.1, sum_more bases k (omega arith), sum_first (suc k) bases) in
    search rules

pub loop-base-preserved : goal.loop-base-preserved
loop-base-preserved c =
    let bases = c.args.self.bases.now in
    let k = c.loop-base.base-index in
    (omega (arith, c.loop-base.invariant.0), omega (arith, c.loop-base.invariant.1, sum_more bases k (omega arith), ap (λ j. sum_of (take j bases)) (add-one k)))

pub returns : goal.returns
returns c =
    record { sum_is = c.loop-base.invariant.1 ∙ ap sum_of (take_all c.loop-base.base-index c.args.self.bases.now (omega arith)); sum_within = c.loop-base.invariant.0 }
