-- `profile::curve::both_shares` meets its contract (Profile value): the side is that of the definition, and both powers are at most one.
-- Assumes nothing.
use Rattle.std.proofs.Common.{rules, arith}
use Rattle.power.specs.Power.{one}
use Rattle.power.proofs.Laws.{lower_le_one, upper_le_one}
use Rattle.profile.proofs.Power.{on_cold, on_warm}
use Rattle.profile.proofs.curve.both_shares.Goals as goal

pub share_down-requires : goal.share_down-requires
unfolding one
share_down-requires c = omega (arith, c.bounds-q.ensures.bounds_met.lower, c.bounds-q.ensures.bounds_met.upper, lower_le_one, upper_le_one)

pub share_up-requires : goal.share_up-requires
unfolding one
share_up-requires c = omega (arith, c.bounds-q.ensures.bounds_met.lower, c.bounds-q.ensures.bounds_met.upper, lower_le_one, upper_le_one)

pub returns-then-b-u : goal.returns-then-b-u
unfolding one
returns-then-b-u c =
    let side = on_cold c.args.p c.args.t c.requires (search rules) c.ranges.t c.unsigned_abs-b.ensures.value c.distance-u.ensures c.if-b-u.true in
    record {
      low_is = simp (c.share_down.ensures, c.bounds-q.ensures.bounds_met.upper, side.high, side.side_is);
      high_is = simp (c.share_up.ensures, c.bounds-q.ensures.bounds_met.lower, side.low, side.side_is);
    }

pub share_down-requires-2 : goal.share_down-requires-2
unfolding one
share_down-requires-2 c = omega (arith, c.bounds-q-2.ensures.bounds_met.lower, c.bounds-q-2.ensures.bounds_met.upper, lower_le_one, upper_le_one)

pub share_up-requires-2 : goal.share_up-requires-2
unfolding one
share_up-requires-2 c = omega (arith, c.bounds-q-2.ensures.bounds_met.lower, c.bounds-q-2.ensures.bounds_met.upper, lower_le_one, upper_le_one)

pub returns : goal.returns
unfolding one
returns c =
    let side = on_warm c.args.p c.args.t c.requires (search rules) c.ranges.t c.unsigned_abs-b.ensures.value c.distance-u.ensures c.if-b-u.false in
    record {
      low_is = simp (c.share_down-2.ensures, c.bounds-q-2.ensures.bounds_met.lower, side.low, side.side_is);
      high_is = simp (c.share_up-2.ensures, c.bounds-q-2.ensures.bounds_met.upper, side.high, side.side_is);
    }
