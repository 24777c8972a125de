-- `power::by_roots::power` meets its contract (Profile value): the whole part of the exponent, then its rest.
-- Assumes nothing.
use Rattle.std.proofs.Math.Nat.{le_refl}
use Rattle.power.specs.Power.{one, power}
use Rattle.power.proofs.AtMostOne.{raise_le}
use Rattle.power.proofs.by_roots.power.Goals as goal

pub times_roots-requires : goal.times_roots-requires
times_roots-requires c = (c.requires, rw c.raise-p.ensures (raise_le _ _ _ _ c.requires (le_refl one)))

pub returns : goal.returns
unfolding power
returns c = rw (← c.raise-p.ensures) c.times_roots.ensures
