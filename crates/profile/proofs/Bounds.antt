-- The range of values and weights over the whole table (Profile value): a value lies between that with no share at the warm end of the
-- temperatures and that with a whole share at the cold end, since a share is at most one and no line rises. Assumes nothing.
use mathlib.Core.Path.{◌≡◌, refl}
use mathlib.Core.Bool.{true}
use Prim.Native.Nat.{ℕ, ◌+◌, ◌-◌, ◌*◌, ◌/◌, ◌^◌, ◌≤◌, ◌<◌}
use native.Mathlib.Nat.{div-le_of_le-mul, div-lt_iff_lt-mul, mul-le-mul, mul-le-mul_left}
use native.Mathlib.Omega.{arith}
use lib.Dec.{T, lit<}
use lib.IntN.{ℤ, pos, negsuc, nat_abs, ◌+ℤ◌, ◌*ℤ◌}
use lib.Signed.{mag, non_neg, yes_non_neg, ◌≤ℤ◌, ≤ℤ_refl}
use mir.Syntax.{w16, w64}
use mir.Val.{Fits, SFits, of_z, to_z}
use mir.Facts.{to_z-of_z}
use Rattle.std.proofs.lemmas.Int.{ints}
use Rattle.power.specs.Power.{one, quotient, upward}
use Rattle.rounding.specs.Integers.{floor_ℤ}
use Rattle.rounding.proofs.Parts.{choose}
use Rattle.rounding.proofs.Integers.{floor_le}
use Rattle.profile.specs.Limits.{in_range, weight_least, weight_most, profile_count}
use Rattle.profile.specs.Coefficients.{profile_of}
use Rattle.profile.specs.Value.{cold, s_low, s_high, line, linear, value_low, value_high}
use Rattle.profile.specs.Weight.{factor_of, weight_of, WholeTable}
use Rattle.profile.specs.declared.Profile.{Profile}
use Rattle.profile.proofs.Integer.{le_trans, sum_le, scale_le, fall_le, larger_le, kept}
use Rattle.profile.proofs.Range.{cold_le, le_warm}
use Rattle.profile.proofs.Tested.{least, most, Tested, profile_tested}

-- ---- a quotient is at most n where its dividend is at most n times the divisor, also rounded up
pub down_le : (x d n : ℕ) → x ≤ n * d → x / d ≤ n
down_le x d n h = div-le_of_le-mul d (omega arith)

pub up_le : (x d n : ℕ) → 0 < d → x ≤ n * d → upward x d ≤ n
unfolding quotient
up_le x d n p h =
    let below : (x + (d - 1)) / d < n + 1 = (div-lt_iff_lt-mul p).1 (omega arith) in
    omega arith

-- ---- a share is at most one
pub low_share_le : (p : Profile) (t : ℤ) → s_low p t ≤ one
unfolding one
low_share_le p t =
    choose (λ (s : ℕ). s ≤ one) (cold p t) _ _ (λ e. down_le _ _ one (omega arith)) (λ e. down_le _ _ one (omega arith))

pub high_share_le : (p : Profile) (t : ℤ) → s_high p t ≤ one
unfolding one
high_share_le p t =
    choose (λ (s : ℕ). s ≤ one) (cold p t) _ _ (λ e. up_le _ _ one (omega arith) (omega arith)) (λ e. up_le _ _ one (omega arith) (omega arith))

-- A × 100 × s fits 64 bits, and A × 100 × s / one is at most A × 100
pub curve_small : (a s : ℕ) → a < 2 ^ 24 → s ≤ 2 ^ 30 → a * 100 * s < 2 ^ 61
curve_small a s h k = omega (arith, mul-le-mul h k)

curve_le : (a s : ℕ) → s ≤ one → a * 100 * s / one ≤ a * 100
curve_le a s h = down_le (a * 100 * s) one (a * 100) (mul-le-mul_left (a * 100) h)

curve_up_le : (a s : ℕ) → s ≤ one → upward (a * 100 * s) one ≤ a * 100
unfolding one
curve_up_le a s h = up_le (a * 100 * s) one (a * 100) (lit< tt) (mul-le-mul_left (a * 100) h)

-- ---- a line that does not rise
line_le : (m b : ℤ) {s t : ℤ} → m ≤ℤ pos 0 → s ≤ℤ t → line m b t ≤ℤ line m b s
line_le m b f h = sum_le (fall_le m f h) (≤ℤ_refl (pos 100 *ℤ b))

module _ (p : Profile) (ok : Tested p) where
  linear_le : {s t : ℤ} → s ≤ℤ t → linear p t ≤ℤ linear p s
  unfolding linear
  linear_le h =
      sum_le (≤ℤ_refl (pos (100 * p.d)))
      (larger_le (line_le p.mh p.bh ok.heating_falls h) (line_le p.mw p.bw ok.water_falls h))

  module _ (t : ℤ) (r : in_range t ≡ true) (curve : ℕ) (h : curve ≤ p.a * 100) where
    value_least : least p ≤ℤ (pos curve +ℤ linear p t)
    value_least =
        omega (arith, ints, linear_le (le_warm t r))

    value_most_lem : (pos curve +ℤ linear p t) ≤ℤ most p
    value_most_lem =
        omega (arith, ints, linear_le (cold_le t r))

-- of a natural number the floor is the quotient
floor_natural : (z : ℤ) (f d : ℕ) → T (non_neg z) → nat_abs z * f / d ≡ nat_abs (floor_ℤ (z *ℤ pos f) d)
floor_natural (pos n) f d t = refl
floor_natural (negsuc n) f d t = absurd t

-- ---- the table's values and weights
module _ (k : ℕ) (t : ℤ) (h : k < profile_count) (r : in_range t ≡ true) where
  low_curve : (profile_of k).a * 100 * s_low (profile_of k) t / one ≤ (profile_of k).a * 100
  low_curve = curve_le (profile_of k).a (s_low (profile_of k) t) (low_share_le (profile_of k) t)

  high_curve : upward ((profile_of k).a * 100 * s_high (profile_of k) t) one ≤ (profile_of k).a * 100
  high_curve = curve_up_le (profile_of k).a (s_high (profile_of k) t) (high_share_le (profile_of k) t)

  low_least : least (profile_of k) ≤ℤ value_low (profile_of k) t
  unfolding value_low
  low_least = value_least (profile_of k) (profile_tested k h) t r _ low_curve

  low_most : value_low (profile_of k) t ≤ℤ most (profile_of k)
  unfolding value_low
  low_most = value_most_lem (profile_of k) (profile_tested k h) t r _ low_curve

  -- the low value is a natural number of at most 10^10, and so is the high value
  low_natural : pos 0 ≤ℤ value_low (profile_of k) t
  low_natural = le_trans (profile_tested k h).natural low_least

  low_bounded : value_low (profile_of k) t ≤ℤ pos (10 ^ 10)
  low_bounded = le_trans low_most (profile_tested k h).bounded

  high_natural : pos 0 ≤ℤ value_high (profile_of k) t
  unfolding value_high
  high_natural =
      le_trans (profile_tested k h).natural (value_least (profile_of k) (profile_tested k h) t r _ high_curve)

  high_bounded : value_high (profile_of k) t ≤ℤ pos (10 ^ 10)
  unfolding value_high
  high_bounded =
      le_trans (value_most_lem (profile_of k) (profile_tested k h) t r _ high_curve) (profile_tested k h).bounded

  -- so both fit 64 bits
  pub low_fits : SFits w64 (value_low (profile_of k) t)
  low_fits = omega (arith, ints, low_natural, low_bounded)

  pub high_fits : SFits w64 (value_high (profile_of k) t)
  high_fits = omega (arith, ints, high_natural, high_bounded)

  -- the low value, cast
  pub low_cast : T (non_neg (value_low (profile_of k) t)) × Fits w64 (nat_abs (value_low (profile_of k) t))
  low_cast = (yes_non_neg low_natural, record { fits = omega (arith, ints, low_natural, low_bounded) })

  -- a weight is the quotient of natural numbers
  pub weight_quotient : (w : ℕ) → nat_abs (value_low (profile_of k) t) * factor_of k w / 10_000_000 ≡ weight_of k w t
  unfolding weight_of
  weight_quotient w = floor_natural (value_low (profile_of k) t) (factor_of k w) 10_000_000 (yes_non_neg low_natural)

  module _ (w : ℕ) (g : w < 7) where
    abbrev floor : ℤ
    floor = floor_ℤ (value_low (profile_of k) t *ℤ pos (factor_of k w)) 10_000_000

    heavy : pos weight_least ≤ℤ floor
    heavy =
        le_trans ((profile_tested k h).heavy w g) (floor_le 10_000_000 (lit< tt) (scale_le (factor_of k w) low_least))

    light : floor ≤ℤ pos weight_most
    light =
        le_trans (floor_le 10_000_000 (lit< tt) (scale_le (factor_of k w) low_most)) ((profile_tested k h).light w g)

pub whole_table : WholeTable
unfolding weight_of
whole_table k w t h g r = (
  omega (arith, ints, heavy k t h r w g),
  omega (arith, ints, heavy k t h r w g),
  omega (arith, ints, heavy k t h r w g, light k t h r w g),
)

-- ---- the sums that the code forms are the values
module _ (k : ℕ) {t : ℤ} (ft : SFits w16 t) {p : Profile} (is : p ≡ profile_of k) {s : ℕ} {x y : ℤ} (fx : mag x < 2 ^ 63) (fy : mag y < 2 ^ 63) (rest : y ≡ linear p (to_z w16 (of_z w16 t))) where
  pub low_sum : s ≡ s_low p (to_z w16 (of_z w16 t)) → x ≡ pos (p.a * 100 * s / 2 ^ 30) → to_z w64 (of_z w64 x) +ℤ to_z w64 (of_z w64 y) ≡ value_low (profile_of k) t
  unfolding value_low one
  low_sum e f = rw (kept x fx, kept y fy, ← is) (simp (f, rest, e, to_z-of_z ft))

  pub high_sum : s ≡ s_high p (to_z w16 (of_z w16 t)) → x ≡ pos (upward (p.a * 100 * s) (2 ^ 30)) → to_z w64 (of_z w64 x) +ℤ to_z w64 (of_z w64 y) ≡ value_high (profile_of k) t
  unfolding value_high one
  high_sum e f = rw (kept x fx, kept y fy, ← is) (simp (f, rest, e, to_z-of_z ft))
