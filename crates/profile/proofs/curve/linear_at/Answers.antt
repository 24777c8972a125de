-- `profile::curve::linear_at` meets its contract (Profile value): 100 × D is below 2^39 and the larger line at most 2^47. Assumes nothing.
use Rattle.std.proofs.Common.{arith}
use Rattle.std.proofs.lemmas.Int.{ints}
use mir.Facts.{to_z-of_z}
use Rattle.profile.specs.Value.{linear}
use Rattle.profile.proofs.curve.linear_at.Goals as goal

pub returns : goal.returns
unfolding linear
returns c =
    let is = simp (to_z-of_z c.ranges.t) at c.larger_line.ensures.is in
    omega (arith, ints, is)
