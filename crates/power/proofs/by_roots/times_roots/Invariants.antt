-- The roots left, from where the loop stands, give what all of them give from the start; root and product are at most one.
use Rattle.std.proofs.Common.{◌≡◌, ◌≤◌}
use Rattle.power.specs.Power.{one, times_roots}
use Rattle.power.proofs.by_roots.times_roots.Given as goal

abbrev pub invariant-loop-bit : goal.invariant-loop-bit
invariant-loop-bit l = (times_roots l.way l.bit l.root l.q l.c ≡ times_roots l.way 24 l.r l.p l.c) × (l.root ≤ one) × (l.q ≤ one)
