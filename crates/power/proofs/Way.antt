-- What rounding does to a number (Profile value): rounded down it is at most the exact one, rounded up at least. One relation for both, so that a law is proved once.
-- Assumes nothing.
use mathlib.Core.Path.{◌≡◌}
use Prim.Native.Nat.{ℕ, ◌+◌, ◌-◌, ◌*◌, ◌^◌, ◌≤◌, ◌<◌}
use native.Mathlib.Nat.{le_refl, le_trans, mul-le-mul_left, mul-le-mul_right, le_of_mul-le-mul_right, pow-le-pow_left, one-le-pow, mul_assoc}
use native.Mathlib.Omega.{arith}
use lib.Pow.{pow-add}
use Rattle.power.specs.declared.rounded.Rounding.{Rounding}
use Rattle.power.specs.declared.rounded.Rounding.TheVariants.{Down, Up}
use Rattle.power.proofs.Powers.{pow_cancel}

-- a is b rounded this way, or further
pub data Rounded : Rounding → ℕ → ℕ → Type 0 where
  below : {a b : ℕ} → a ≤ b → Rounded Down a b
  above : {a b : ℕ} → b ≤ a → Rounded Up a b

pub same : (way : Rounding) (a : ℕ) → Rounded way a a
same Down a = below (le_refl a)
same Up a = above (le_refl a)

pub chain : {way : Rounding} {a b c : ℕ} → Rounded way a b → Rounded way b c → Rounded way a c
chain (below h) (below g) = below (le_trans h g)
chain (above h) (above g) = above (le_trans g h)

pub times : {way : Rounding} {a b : ℕ} (k : ℕ) → Rounded way a b → Rounded way (a * k) (b * k)
times k (below h) = below (mul-le-mul_right k h)
times k (above h) = above (mul-le-mul_right k h)

pub cancel : {way : Rounding} {a b : ℕ} (k : ℕ) → 0 < k → Rounded way (a * k) (b * k) → Rounded way a b
cancel k pos (below h) = below (le_of_mul-le-mul_right h pos)
cancel k pos (above h) = above (le_of_mul-le-mul_right h pos)

pub raised : {way : Rounding} {a b : ℕ} (k : ℕ) → Rounded way a b → Rounded way (a ^ k) (b ^ k)
raised k (below h) = below (pow-le-pow_left h k)
raised k (above h) = above (pow-le-pow_left h k)

pub lowered : {way : Rounding} {a b : ℕ} (k : ℕ) → 0 < k → Rounded way (a ^ k) (b ^ k) → Rounded way a b
lowered k pos (below h) = below (pow_cancel k pos h)
lowered k pos (above h) = above (pow_cancel k pos h)

apart : (z a f d : ℕ) {e : ℕ} → e ≡ f + d → z * a ^ e ≡ z * a ^ f * a ^ d
apart z a f d s = rw (s, pow-add, mul_assoc)

-- for N at most M a larger exponent makes (N / M)^e smaller, so an exponent rounded the other way only rounds the power further
pub eased : {way : Rounding} (x y N M : ℕ) {e f : ℕ} → N ≤ M → 0 < M → Rounded way f e → Rounded way (x * M ^ e) (y * N ^ e) → Rounded way (x * M ^ f) (y * N ^ f)
eased x y N M {e} {f} le pos (below h) (below g) =
    let d : ℕ = e - f in
    let s : e ≡ f + d = omega arith in
    let l : x * M ^ f * M ^ d ≤ y * N ^ f * M ^ d =
    omega (arith, g, apart x M f d s, apart y N f d s, mul-le-mul_left (y * N ^ f) (pow-le-pow_left le d)) in
    below (le_of_mul-le-mul_right l (one-le-pow d M pos))
eased x y N M {e} {f} le pos (above h) (above g) =
    let d : ℕ = f - e in
    let s : f ≡ e + d = omega arith in
    let l : y * N ^ f ≤ x * M ^ f =
    omega (arith, mul-le-mul_right (M ^ d) g, apart x M e d s, apart y N e d s, mul-le-mul_left (y * N ^ e) (pow-le-pow_left le d)) in
    above l

pub at_most : {a b : ℕ} → Rounded Down a b → a ≤ b
at_most (below h) = h

pub at_least : {a b : ℕ} → Rounded Up a b → b ≤ a
at_least (above h) = h
