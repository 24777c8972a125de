-- `layout::Parts::sum` meets its contract (Case file): the sum of the Wh, which fits since no part is too great. Assumes nothing.
use Rattle.std.proofs.Common.{rules, arith, ◌≡◌, ◌<◌, ◌^◌}
use Rattle.std.specs.List.{sum}
use Rattle.layout.specs.Parts.{held, count}
use Rattle.layout.proofs.Sums.{total_sum, total_small}
use Rattle.layout.proofs.Parts.sum.Goals as goal

pub sum-requires-clause-fits : goal.sum-requires-clause-fits
sum-requires-clause-fits c =
    let p = c.args.self in
    let fits : sum p.wh.now < 2 ^ 64 =
    omega (arith, c.requires.fit.wh, c.requires.fit.span, total_sum (held p) (count p) c.requires.fit.wh, total_small (held p) (count p) c.requires.small) in
    search rules

pub returns : goal.returns
returns c =
    let p = c.args.self in
    let is : c.sum.result ≡ sum p.wh.now = search rules in
    omega (arith, total_sum (held p) (count p) c.requires.fit.wh)
