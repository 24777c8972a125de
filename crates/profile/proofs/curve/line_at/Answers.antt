-- `profile::curve::line_at` meets its contract (Profile value): |m × t| is at most 2^46 and |100 × b| at most 100 × 2^31, so nothing wraps.
-- Assumes nothing.
use Rattle.std.proofs.Common.{◌≡◌, ◌^◌, ◌≤◌, ◌<◌, refl, arith, pos, ◌+ℤ◌, ◌*ℤ◌, to_z, of_z, w64}
use Rattle.std.proofs.Math.Nat.{mul-le-mul}
use Rattle.std.proofs.lemmas.Int.{ints, unsigned_abs-mul, fits_signed_from_abs}
use lib.IntN.{ℤ, nat_abs}
use mir.Syntax.{w16, w32}
use lib.Signed.{mag}
use mir.Val.{SFits}
use mir.Facts.{to_z-of_z}
use Rattle.profile.specs.Value.{line}
use Rattle.profile.proofs.Integer.{size, kept}
use Rattle.profile.proofs.curve.line_at.Goals as goal

module _ {m b t : ℤ} (fm : SFits w32 m) (fb : SFits w32 b) (ft : SFits w16 t) where
  slope_size : nat_abs (m *ℤ t) ≤ 2 ^ 46
  slope_size = omega (arith, unsigned_abs-mul m t, mul-le-mul (size fm) (size ft))

  slope_fits : SFits w64 (m *ℤ t)
  slope_fits = fits_signed_from_abs w64 (m *ℤ t) (omega (arith, slope_size))

  height_fits : SFits w64 (pos 100 *ℤ b)
  height_fits = omega (arith, ints)

  line_size : nat_abs (line m b t) ≤ 2 ^ 47
  line_size = omega (arith, ints, slope_size)

  line_fits : SFits w64 (line m b t)
  line_fits = fits_signed_from_abs w64 (line m b t) (omega (arith, line_size))

  -- the sum that the code forms, from its three numbers at 64 bits
  line_is :
      {x y z : ℤ} → mag x < 2 ^ 63 → mag y < 2 ^ 63 → mag z < 2 ^ 63
      → x ≡ to_z w32 (of_z w32 m) → y ≡ to_z w16 (of_z w16 t) → z ≡ to_z w32 (of_z w32 b)
      → to_z w64 (of_z w64 (to_z w64 (of_z w64 x) *ℤ to_z w64 (of_z w64 y))) +ℤ to_z w64 (of_z w64 (pos 100 *ℤ to_z w64 (of_z w64 z))) ≡ line m b t
  line_is {x} {y} {z} fx fy fz e f g =
      rw (kept x fx, kept y fy, kept z fz) (simp (e, f, g, to_z-of_z fm, to_z-of_z fb, to_z-of_z ft, to_z-of_z slope_fits, to_z-of_z height_fits))

pub overflow_add-result : goal.overflow_add-result
overflow_add-result c =
    rw (line_is c.ranges.m c.ranges.b c.ranges.t c.from.type_inv c.from-2.type_inv c.from-3.type_inv c.from.ensures c.from-2.ensures c.from-3.ensures)
    (line_fits c.ranges.m c.ranges.b c.ranges.t)

pub returns : goal.returns
returns c =
    rw (
      line_is c.ranges.m c.ranges.b c.ranges.t c.from.type_inv c.from-2.type_inv c.from-3.type_inv c.from.ensures c.from-2.ensures c.from-3.ensures,
      to_z-of_z (line_fits c.ranges.m c.ranges.b c.ranges.t),
    )
    (record { is = refl; small = line_size c.ranges.m c.ranges.b c.ranges.t })
