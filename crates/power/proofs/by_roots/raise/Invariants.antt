-- What is left to do from p gives what the whole gives from one; p is at most one.
use Rattle.std.proofs.Common.{◌≡◌, ◌-◌, ◌≤◌}
use Rattle.power.specs.Power.{one, raise}
use Rattle.power.proofs.by_roots.raise.Given as goal

abbrev pub invariant-loop : goal.invariant-loop
invariant-loop l = (raise l.way (l.n - l.counter) l.r l.p ≡ raise l.way l.n l.r one) × (l.p ≤ one)
