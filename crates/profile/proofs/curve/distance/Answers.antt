-- `profile::curve::distance` meets its contract (Profile value): 4,000 - t is 1 to 9,000, so that times 100,000 fits 32 bits. Assumes nothing.
use Rattle.std.proofs.Common.{◌≡◌, arith, pos, ◌-ℤ◌, to_z, of_z, w32}
use Rattle.std.proofs.lemmas.Int.{ints}
use Rattle.profile.proofs.Range.{cold_le, le_warm, steps_natural, steps_most}
use Rattle.profile.proofs.curve.distance.Goals as goal

pub overflow_cast-result : goal.overflow_cast-result
overflow_cast-result c =
    let t = c.args.t in
    let is : to_z w32 (of_z w32 (pos 4_000 -ℤ to_z w32 (of_z w32 c.from.result))) ≡ pos 4_000 -ℤ t =
    omega (arith, ints, cold_le t c.requires, le_warm t c.requires) in
    rw is (steps_natural t c.requires, record { fits = omega (arith, steps_most t c.requires) })
