-- `power::by_roots::bound` meets its contract (Profile value).
-- Assumes nothing.
use Rattle.std.proofs.Common.{arith}
use Rattle.std.proofs.Math.Nat.{pos_of_ne-zero}
use Rattle.std.proofs.lemmas.Bool.Decides.{nat_tests}
use borrow.Author.Tests.{ne_eqb, le-ltb}
use Rattle.power.specs.Power.{one, exponent, of_ratio}
use Rattle.power.proofs.AtMostOne.{ratio_le}
use Rattle.power.proofs.by_roots.bound.Goals as goal

pub returns-then-m-eq0 : goal.returns-then-m-eq0
unfolding of_ratio
returns-then-m-eq0 c = grind (arith, nat_tests)

pub power-requires : goal.power-requires
unfolding one
power-requires c =
    rw (c.quotient-r.ensures, c.from.ensures, c.from-2.ensures) (ratio_le _ _ _ (pos_of_ne-zero c.if-m-eq0.false) c.if-m-n.false)

pub returns : goal.returns
unfolding of_ratio exponent one
returns c =
    rw (ne_eqb _ 0 c.if-m-eq0.false, le-ltb _ _ c.if-m-n.false, ← c.from.ensures, ← c.from-2.ensures, ← c.from-3.ensures, ← c.quotient-r.ensures, ← c.quotient-e.ensures) c.power.ensures
