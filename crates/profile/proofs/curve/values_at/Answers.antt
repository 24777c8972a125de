-- `profile::curve::values_at` meets its contract (Profile value): its two sums are the values, which fit 64 bits over the whole table.
-- Assumes nothing.
use Rattle.std.proofs.Common.{arith}
use mir.Facts.{to_z-of_z}
use Rattle.power.specs.Power.{one}
use Rattle.profile.proofs.Tested.{profile_tested}
use Rattle.profile.proofs.Bounds.{low_share_le, high_share_le, low_fits, high_fits, low_sum, high_sum}
use Rattle.profile.proofs.curve.values_at.Goals as goal

pub curve_down-requires : goal.curve_down-requires
unfolding one
curve_down-requires c =
    let small = rw (← c.profile_at-p.ensures) at (profile_tested c.args.profile c.requires.0).small in
    omega (arith, small, low_share_le, c.both_shares-s.ensures.low_is)

pub overflow_add-result : goal.overflow_add-result
overflow_add-result c =
    rw (low_sum c.args.profile c.ranges.t c.profile_at-p.ensures c.curve_down.type_inv c.linear_at-rest.type_inv c.linear_at-rest.ensures c.both_shares-s.ensures.low_is c.curve_down.ensures)
    (low_fits c.args.profile c.args.t c.requires.0 c.requires.1)

pub curve_up-requires : goal.curve_up-requires
unfolding one
curve_up-requires c =
    let small = rw (← c.profile_at-p.ensures) at (profile_tested c.args.profile c.requires.0).small in
    omega (arith, small, high_share_le, c.both_shares-s.ensures.high_is)

pub overflow_add-result-2 : goal.overflow_add-result-2
overflow_add-result-2 c =
    rw (high_sum c.args.profile c.ranges.t c.profile_at-p.ensures c.curve_up.type_inv c.linear_at-rest.type_inv c.linear_at-rest.ensures c.both_shares-s.ensures.high_is c.curve_up.ensures)
    (high_fits c.args.profile c.args.t c.requires.0 c.requires.1)

pub returns : goal.returns
returns c =
    record {
      low_is = rw (low_sum c.args.profile c.ranges.t c.profile_at-p.ensures c.curve_down.type_inv c.linear_at-rest.type_inv c.linear_at-rest.ensures c.both_shares-s.ensures.low_is c.curve_down.ensures) (to_z-of_z (low_fits c.args.profile c.args.t c.requires.0 c.requires.1));
      high_is = rw (high_sum c.args.profile c.ranges.t c.profile_at-p.ensures c.curve_up.type_inv c.linear_at-rest.type_inv c.linear_at-rest.ensures c.both_shares-s.ensures.high_is c.curve_up.ensures) (to_z-of_z (high_fits c.args.profile c.args.t c.requires.0 c.requires.1));
    }
