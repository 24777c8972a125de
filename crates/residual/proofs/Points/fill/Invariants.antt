-- What lasts in the loop of `residual::Points::fill` (K5): the amounts and totals are those of the points passed (`Filling`).
use Rattle.residual.proofs.Filling.{Filling}
use Rattle.residual.proofs.Points.fill.Given as goal

abbrev pub invariant-loop-i : goal.invariant-loop-i
invariant-loop-i l = Filling l.load l.self.suppliers.now l.self.bases.now l.amounts l.totals l.part l.before l.i
