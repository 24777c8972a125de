-- `power::lower` meets its contract (Profile value).
-- Assumes nothing.
use Rattle.power.specs.Power.{lower_of, p_low, c_high}
use Rattle.power.proofs.lower.Goals as goal

pub returns : goal.returns
unfolding lower_of p_low c_high
returns c = c.bound.ensures
