-- `weights::means::weighted` meets its contract (Temperature of a day): 32 bits hold each sum.
use Rattle.std.proofs.Common.{arith}
use mir.Syntax.{w16}
use mir.Facts.{to_z-of_z}
use Rattle.std.proofs.lemmas.Int.{ints}
use Rattle.weights.proofs.means.weighted.Goals as goal

pub overflow_add-result-2 : goal.overflow_add-result-2
overflow_add-result-2 c = omega (arith, ints)

pub overflow_add-result-3 : goal.overflow_add-result-3
overflow_add-result-3 c = omega (arith, ints)

pub returns : goal.returns
returns c =
    let a = to_z-of_z {w = w16} c.ranges.a in
    let b = to_z-of_z {w = w16} c.ranges.b in
    let c' = to_z-of_z {w = w16} c.ranges.c in
    let d = to_z-of_z {w = w16} c.ranges.d in
    rw (to_z-of_z (overflow_add-result-3 c), to_z-of_z (overflow_add-result-2 c.before)) (omega (arith, ints, a, b, c', d))
