-- What a temperature in range is (Profile value): between the two limits, and less than 4,000. Assumes nothing.
use mathlib.Core.Path.{◌≡◌}
use mathlib.Core.Bool.{Bool, true, false, ◌&&◌, false≢true}
use Prim.Native.Nat.{◌≤◌}
use native.Mathlib.Omega.{arith}
use lib.Dec.{T}
use lib.IntN.{ℤ, pos, nat_abs, ◌-ℤ◌}
use lib.Signed.{le_z, non_neg, yes_non_neg, ◌≤ℤ◌}
use Rattle.std.proofs.lemmas.Int.{ints}
use Rattle.profile.specs.Limits.{in_range, coldest, warmest}

both : (a b : Bool) → a && b ≡ true → (T a) × (T b)
both true true e = (tt, tt)
both true false e = absurd (false≢true e)
both false b e = absurd (false≢true e)

module _ (t : ℤ) (r : in_range t ≡ true) where
  pub cold_le : coldest ≤ℤ t
  unfolding in_range
  cold_le = record { le = (both (le_z coldest t) (le_z t warmest) r).0 }

  pub le_warm : t ≤ℤ warmest
  unfolding in_range
  le_warm = record { le = (both (le_z coldest t) (le_z t warmest) r).1 }

  -- 4,000 - t is 1 to 9,000
  pub steps_natural : T (non_neg (pos 4_000 -ℤ t))
  steps_natural = yes_non_neg (omega (arith, ints, le_warm))

  pub steps_least : 1 ≤ nat_abs (pos 4_000 -ℤ t)
  steps_least = omega (arith, ints, le_warm)

  pub steps_most : nat_abs (pos 4_000 -ℤ t) ≤ 9_000
  steps_most = omega (arith, ints, cold_le, le_warm)
