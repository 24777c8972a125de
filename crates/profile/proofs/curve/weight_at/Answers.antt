-- `profile::curve::weight_at` meets its contract (Profile value): the low value is a natural number of at most 10^10, and the weight at most 6,999,999.
-- Assumes nothing.
use Rattle.std.proofs.Common.{arith}
use mir.Facts.{to_z-of_z}
use Rattle.power.specs.Power.{one}
use Rattle.profile.proofs.Tested.{profile_tested}
use Rattle.profile.proofs.Bounds.{low_share_le, low_fits, low_cast, low_sum, weight_quotient, whole_table}
use Rattle.profile.proofs.curve.weight_at.Goals as goal

pub curve_down-requires : goal.curve_down-requires
unfolding one
curve_down-requires c =
    let small = rw (← c.profile_at-p.ensures) at (profile_tested c.args.profile c.requires.0).small in
    omega (arith, small, low_share_le, c.low_share.ensures)

pub overflow_add-low : goal.overflow_add-low
overflow_add-low c =
    rw (low_sum c.args.profile c.ranges.t c.profile_at-p.ensures c.curve_down.type_inv c.linear_at.type_inv c.linear_at.ensures c.low_share.ensures c.curve_down.ensures)
    (low_fits c.args.profile c.args.t c.requires.0 c.requires.2)

pub overflow_cast-result : goal.overflow_cast-result
overflow_cast-result c =
    rw (low_sum c.args.profile c.ranges.t c.profile_at-p.ensures c.curve_down.type_inv c.linear_at.type_inv c.linear_at.ensures c.low_share.ensures c.curve_down.ensures, to_z-of_z (low_fits c.args.profile c.args.t c.requires.0 c.requires.2))
    (low_cast c.args.profile c.args.t c.requires.0 c.requires.2)

pub overflow_mul-result : goal.overflow_mul-result
overflow_mul-result c =
    rw (low_sum c.args.profile c.ranges.t c.profile_at-p.ensures c.curve_down.type_inv c.linear_at.type_inv c.linear_at.ensures c.low_share.ensures c.curve_down.ensures, to_z-of_z (low_fits c.args.profile c.args.t c.requires.0 c.requires.2), c.from-factor.ensures, c.from.ensures, c.profile_at-p.ensures)
    (record { fits = omega (arith, weight_quotient c.args.profile c.args.t c.requires.0 c.requires.2 c.args.weekday, (whole_table c.args.profile c.args.weekday c.args.t c.requires.0 c.requires.1 c.requires.2).2) })

pub overflow_cast-result-2 : goal.overflow_cast-result-2
overflow_cast-result-2 c =
    rw (low_sum c.args.profile c.ranges.t c.profile_at-p.ensures c.curve_down.type_inv c.linear_at.type_inv c.linear_at.ensures c.low_share.ensures c.curve_down.ensures, to_z-of_z (low_fits c.args.profile c.args.t c.requires.0 c.requires.2), c.from-factor.ensures, c.from.ensures, c.profile_at-p.ensures)
    (record { fits = omega (arith, weight_quotient c.args.profile c.args.t c.requires.0 c.requires.2 c.args.weekday, (whole_table c.args.profile c.args.weekday c.args.t c.requires.0 c.requires.1 c.requires.2).2) })

pub returns : goal.returns
returns c =
    rw (low_sum c.args.profile c.ranges.t c.profile_at-p.ensures c.curve_down.type_inv c.linear_at.type_inv c.linear_at.ensures c.low_share.ensures c.curve_down.ensures, to_z-of_z (low_fits c.args.profile c.args.t c.requires.0 c.requires.2), c.from-factor.ensures, c.from.ensures, c.profile_at-p.ensures)
    (weight_quotient c.args.profile c.args.t c.requires.0 c.requires.2 c.args.weekday)
