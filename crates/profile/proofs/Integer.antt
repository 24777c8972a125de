-- Integers (Profile value): bounds, differences, what grows with what, the larger of two, and when a sum or a product fits a width. Assumes nothing.
use mathlib.Core.Path.{◌≡◌, refl}
use Prim.Native.Nat.{ℕ, ◌≤◌, ◌<◌, ◌^◌}
use native.Mathlib.Nat.{mul-le-mul_left, mul-le-mul_right, zero-mul, zero-add}
use native.Mathlib.Omega.{arith}
use lib.Dec.{T, leb→le}
use lib.IntN.{ℤ, pos, negsuc, nat_abs, ◌+ℤ◌, ◌*ℤ◌}
use lib.Signed.{le_z, mag, nat_abs-le, ◌≤ℤ◌}
use mir.Syntax.{Width, w64}
use mir.Val.{SFits, hbits, of_z, to_z}
use mir.Facts.{to_z-of_z}
use Rattle.std.specs.Int.{int_max}
use Rattle.std.proofs.lemmas.Int.{ints}
use Rattle.rounding.proofs.Parts.{above, below, less_product, parts, by_parts}
use Rattle.profile.specs.Value.{larger}

pub le_trans : {x y z : ℤ} → x ≤ℤ y → y ≤ℤ z → x ≤ℤ z
le_trans h k = omega (arith, ints)

-- a sum grows with its summands
pub sum_le : {x y z w : ℤ} → x ≤ℤ y → z ≤ℤ w → (x +ℤ z) ≤ℤ (y +ℤ w)
sum_le h k = omega (arith, ints)

-- a product with a natural number grows with the other factor
pub scale_le : {x y : ℤ} (n : ℕ) → x ≤ℤ y → (x *ℤ pos n) ≤ℤ (y *ℤ pos n)
scale_le {x} {y} n h =
    by_parts (omega (arith, mul-le-mul_right n (parts h), (less_product x (pos n)).less, (less_product y (pos n)).less))

none_above : (m : ℤ) → T (le_z m (pos 0)) → above m ≡ 0
none_above (pos a) t = omega (arith, leb→le a 0 t)
none_above (negsuc a) t = refl

-- a product with a number that is not above 0 falls as the other factor grows
pub fall_le : {x y : ℤ} (m : ℤ) → m ≤ℤ pos 0 → x ≤ℤ y → (m *ℤ y) ≤ℤ (m *ℤ x)
fall_le {x} {y} m f h =
    by_parts
    (omega (
      arith,
      mul-le-mul_left (below m) (parts h),
      simp (none_above m f.le, zero-mul, zero-add) at (less_product m x).less,
      simp (none_above m f.le, zero-mul, zero-add) at (less_product m y).less,
    ))

-- ---- the larger of two
pub larger_le : {x y z w : ℤ} → x ≤ℤ z → y ≤ℤ w → larger x y ≤ℤ larger z w
larger_le h k = grind (arith, ints)

-- `max` of the library
pub larger_is : (x y : ℤ) → int_max x y ≡ larger x y
larger_is x y = grind (arith, ints)

-- ---- what a signed width holds
pub size : {w : Width} {z : ℤ} → SFits w z → nat_abs z ≤ 2 ^ hbits w
size {z = z} f = nat_abs-le z f.sfits

-- a call's result, as the record of the call has its range
pub kept : (z : ℤ) → mag z < 2 ^ 63 → to_z w64 (of_z w64 z) ≡ z
kept z h = to_z-of_z {w = w64} (record { sfits = h })
