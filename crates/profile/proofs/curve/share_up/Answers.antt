-- `profile::curve::share_up` meets its contract (Profile value). Assumes nothing.
use Rattle.std.proofs.Common.{◌+◌, ◌*◌, ◌^◌, arith}
use Rattle.power.proofs.Quotient.{ceil_is}
use Rattle.profile.proofs.curve.share_up.Goals as goal

pub returns : goal.returns
returns c = cc (ceil_is (c.args.first * 2 ^ 30) (2 ^ 30 + c.args.q) (omega arith))
