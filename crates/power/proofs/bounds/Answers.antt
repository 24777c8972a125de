-- `power::bounds` meets its contract (Profile value): the enclosing is the law of the rules, at what was returned.
-- Assumes nothing.
use Rattle.std.proofs.Common.{◌≤◌, ◌<◌, refl}
use Rattle.power.specs.Power.{one}
use Rattle.power.proofs.Laws.{enclosed, lower_of_lem, upper_of_lem}
use Rattle.power.proofs.bounds.Goals as goal

pub returns-clause-bounds_met : goal.returns-clause-bounds_met
returns-clause-bounds_met c =
    let n = c.args.n in
    let m = c.args.m in
    let e = c.args.c in
    record {
      lower = c.lower.ensures;
      upper = c.upper.ensures;
      encloses = λ (pos : 0 < m) (le : n ≤ m). rw (c.lower.ensures, c.upper.ensures, lower_of_lem n m e pos le, upper_of_lem n m e pos le) (enclosed n m e pos le);
    }

pub returns-clause-value : goal.returns-clause-value
unfolding one
returns-clause-value c = refl
