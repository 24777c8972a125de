-- `power::rounded::quotient` meets its contract (Profile value), case by case as its definition.
-- Assumes nothing.
use Rattle.power.specs.Power.{quotient}
use Rattle.power.proofs.Quotient.{ceil_is}
use Rattle.power.proofs.rounded.quotient.Goals as goal

pub returns-in-Down : goal.returns-in-Down
unfolding quotient
returns-in-Down c = rw c.in-Down.is

pub returns-in-Up : goal.returns-in-Up
returns-in-Up c = rw c.in-Up.is (cc (ceil_is c.args.a c.args.b c.requires))
