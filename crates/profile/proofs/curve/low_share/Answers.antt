-- `profile::curve::low_share` meets its contract (Profile value): the side is that of the definition, and a power is at most one. Assumes nothing.
use Rattle.std.proofs.Common.{rules, arith}
use Rattle.power.specs.Power.{one}
use Rattle.power.proofs.Laws.{lower_le_one, upper_le_one}
use Rattle.profile.proofs.Power.{on_cold, on_warm}
use Rattle.profile.proofs.curve.low_share.Goals as goal

pub share_down-requires : goal.share_down-requires
unfolding one
share_down-requires c = omega (arith, c.upper.ensures, upper_le_one)

pub returns-then-b-u : goal.returns-then-b-u
unfolding one
returns-then-b-u c =
    let side = on_cold c.args.p c.args.t c.requires (search rules) c.ranges.t c.unsigned_abs-b.ensures.value c.distance-u.ensures c.if-b-u.true in
    simp (c.share_down.ensures, c.upper.ensures, side.high, side.side_is)

pub share_down-requires-2 : goal.share_down-requires-2
unfolding one
share_down-requires-2 c = omega (arith, c.lower-q.ensures, lower_le_one)

pub returns : goal.returns
unfolding one
returns c =
    let side = on_warm c.args.p c.args.t c.requires (search rules) c.ranges.t c.unsigned_abs-b.ensures.value c.distance-u.ensures c.if-b-u.false in
    simp (c.share_down-2.ensures, c.lower-q.ensures, side.low, side.side_is)
