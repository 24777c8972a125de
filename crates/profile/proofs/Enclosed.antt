-- The share of every power between the two powers lies between the two shares, and the value with it between the two values (Profile value). Assumes nothing.
use mathlib.Core.Path.{◌≡◌, ap}
use mathlib.Core.Bool.{Bool, true, false, cond}
use Prim.Native.Nat.{ℕ, ◌+◌, ◌-◌, ◌*◌, ◌/◌, ◌^◌, ◌≤◌, ◌<◌}
use native.Mathlib.Nat.{le_trans, mul-le-mul_left, mul-le-mul_right, le_of_mul-le-mul_right, div-mul-le_self}
use native.Mathlib.Omega.{arith}
use lib.Dec.{lit<}
use lib.IntN.{ℤ, pos, ◌+ℤ◌, ◌*ℤ◌}
use lib.Signed.{◌≤ℤ◌, ≤ℤ_refl}
use Rattle.power.specs.Power.{one, upward}
use Rattle.power.proofs.Quotient.{quotients}
use Rattle.power.proofs.Root.{one_pos}
use Rattle.rounding.proofs.Parts.{above, below, less_sum, less_product, by_parts}
use Rattle.profile.specs.Limits.{in_range}
use Rattle.profile.specs.Value.{cold, low_power, high_power, s_low, s_high, share_over, linear, value_low, value_high, ValuesEnclose, ValuesInOrder}
use Rattle.profile.specs.declared.Profile.{Profile}
use Rattle.profile.proofs.Integer.{sum_le}
use Rattle.profile.proofs.Power.{low_le_high}
use Rattle.profile.proofs.Bounds.{down_le, up_le}

up_high : (x d : ℕ) → 0 < d → x ≤ upward x d * d
up_high x d h = (quotients x d h).1.high

-- (b - a) × (e - c) is not below 0
crossed : (a b c e : ℕ) → a ≤ b → c ≤ e → a * e + b * c ≤ a * c + b * e
crossed a b c e h g =
    let s : b ≡ a + (b - a) = omega arith in
    rw s (omega (arith, mul-le-mul_left (b - a) g))

-- ---- the shares of a power y / d that is at most h, or at least l
module _ (y d : ℕ) where
  cold_down : (x h : ℕ) → y ≤ h * d → x / (one + h) * (one * d + y) ≤ x * d
  cold_down x h g = omega (arith, mul-le-mul_right d (div-mul-le_self x (one + h)), mul-le-mul_left (x / (one + h)) g)

  cold_up : (x l : ℕ) → l * d ≤ y → x * d ≤ upward x (one + l) * (one * d + y)
  unfolding one
  cold_up x l g = omega (arith, mul-le-mul_right d (up_high x (one + l) (omega arith)), mul-le-mul_left (upward x (one + l)) g)

  warm_down : (l : ℕ) → l * d ≤ y → l * one / (one + l) * (one * d + y) ≤ y * one
  unfolding one
  warm_down l g =
      let s : ℕ = l * one / (one + l) in
      omega (
        arith,
        mul-le-mul_right d (div-mul-le_self (l * one) (one + l)),
        crossed s one (l * d) y (down_le (l * one) (one + l) one (omega arith)) g,
      )

  warm_up : (h : ℕ) → y ≤ h * d → y * one ≤ upward (h * one) (one + h) * (one * d + y)
  unfolding one
  warm_up h g =
      let s : ℕ = upward (h * one) (one + h) in
      omega (
        arith,
        mul-le-mul_right d (up_high (h * one) (one + h) (omega arith)),
        crossed s one y (h * d) (up_le (h * one) (one + h) one (omega arith) (omega arith)) g,
      )

-- ---- the shares, on either side
share_low : (p : Profile) (t : ℤ) (y d : ℕ) → low_power p t * d ≤ y → y ≤ high_power p t * d → s_low p t * (one * d + y) ≤ one * share_over p t y d
unfolding one
share_low p t y d g h = go (cold p t)
  where
    go : (b : Bool) → cond b (2 ^ 60 / (one + high_power p t)) (low_power p t * one / (one + low_power p t)) * (one * d + y) ≤ one * cond b (one * d) y
    go true = omega (arith, cold_down y d (2 ^ 60) (high_power p t) h)
    go false = omega (arith, warm_down y d (low_power p t) g)

share_high : (p : Profile) (t : ℤ) (y d : ℕ) → low_power p t * d ≤ y → y ≤ high_power p t * d → one * share_over p t y d ≤ s_high p t * (one * d + y)
unfolding one
share_high p t y d g h = go (cold p t)
  where
    go : (b : Bool) → one * cond b (one * d) y ≤ cond b (upward (2 ^ 60) (one + low_power p t)) (upward (high_power p t * one) (one + high_power p t)) * (one * d + y)
    go true = omega (arith, cold_up y d (2 ^ 60) (low_power p t) g)
    go false = omega (arith, warm_up y d (high_power p t) h)

-- ---- the values: x times a share, rounded, and the rest of the value
curve_low : (x s top over : ℕ) → s * over ≤ one * top → x * s / one * over ≤ x * top
unfolding one
curve_low x s top over h =
    le_of_mul-le-mul_right (omega (arith, mul-le-mul_right over (div-mul-le_self (x * s) one), mul-le-mul_left x h)) one_pos

curve_high : (x s top over : ℕ) → one * top ≤ s * over → x * top ≤ upward (x * s) one * over
unfolding one
curve_high x s top over h =
    le_of_mul-le-mul_right (omega (arith, mul-le-mul_right over (up_high (x * s) one one_pos), mul-le-mul_left x h)) one_pos

-- (x + rest) × over is x × over + rest × over
module _ (x u over : ℕ) (rest : ℤ) where
  times_over : above (pos x +ℤ rest) * over + below rest * over ≡ below (pos x +ℤ rest) * over + (x + above rest) * over
  times_over = omega (arith, ap (λ (n : ℕ). n * over) (less_sum (pos x) rest).less)

  with_rest_low : x * over ≤ u → ((pos x +ℤ rest) *ℤ pos over) ≤ℤ (pos u +ℤ rest *ℤ pos over)
  with_rest_low h =
      by_parts
      (omega (arith, h, times_over, (less_product (pos x +ℤ rest) (pos over)).less, (less_product rest (pos over)).less, (less_sum (pos u) (rest *ℤ pos over)).less))

  with_rest_high : u ≤ x * over → (pos u +ℤ rest *ℤ pos over) ≤ℤ ((pos x +ℤ rest) *ℤ pos over)
  with_rest_high h =
      by_parts
      (omega (arith, h, times_over, (less_product (pos x +ℤ rest) (pos over)).less, (less_product rest (pos over)).less, (less_sum (pos u) (rest *ℤ pos over)).less))

pub values_enclose : ValuesEnclose
unfolding value_low value_high
values_enclose p t y d g h =
    let top : ℕ = share_over p t y d in
    let over : ℕ = one * d + y in
    let low = share_low p t y d g h in
    let high = share_high p t y d g h in
    record {
      share_low = low;
      share_high = high;
      low_bound = with_rest_low (p.a * 100 * s_low p t / one) (p.a * 100 * top) over (linear p t) (curve_low (p.a * 100) (s_low p t) top over low);
      high_bound = with_rest_high (upward (p.a * 100 * s_high p t) one) (p.a * 100 * top) over (linear p t) (curve_high (p.a * 100) (s_high p t) top over high);
    }

-- at the lower power, which is one of these
shares_in_order : (p : Profile) (t : ℤ) → in_range t ≡ true → s_low p t ≤ s_high p t
unfolding one
shares_in_order p t r =
    let s = values_enclose p t (low_power p t) 1 (omega arith) (omega (arith, low_le_high p t r)) in
    le_of_mul-le-mul_right (le_trans s.share_low s.share_high) (omega arith)

curves_in_order : (x s z : ℕ) → s ≤ z → pos (x * s / one) ≤ℤ pos (upward (x * z) one)
unfolding one
curves_in_order x s z h = by_parts (omega (arith, div-mul-le_self (x * s) one, mul-le-mul_left x h, up_high (x * z) one (lit< tt)))

pub values_in_order : ValuesInOrder
unfolding value_low value_high
values_in_order p t r = sum_le (curves_in_order (p.a * 100) (s_low p t) (s_high p t) (shares_in_order p t r)) (≤ℤ_refl (linear p t))
