-- `power::upper` meets its contract (Profile value).
-- Assumes nothing.
use Rattle.power.specs.Power.{upper_of, p_high, c_low}
use Rattle.power.proofs.upper.Goals as goal

pub returns : goal.returns
unfolding upper_of p_high c_low
returns c = c.bound.ensures
