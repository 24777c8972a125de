-- The exact power rounded down and up encloses it, and what the enclosing says where it is the ratio itself, at C = 10^7 (Profile value).
-- Assumes nothing.
use mathlib.Core.Path.{sym, subst₂}
use mathlib.Core.Logic.{◌↔◌}
use Prim.Native.Nat.{ℕ, ◌*◌, ◌^◌, ◌≤◌, ◌<◌}
use native.Mathlib.Nat.{pow-le-pow_left}
use lib.Dec.{lit<}
use Rattle.power.specs.declared.rounded.Rounding.TheVariants.{Down, Up}
use Rattle.power.specs.Power.{one, AtMost, AtLeast, Encloses, AtTheRatio}
use Rattle.power.proofs.Powers.{mul_pow, pow_cancel}
use Rattle.power.proofs.Way.{Rounded, at_most, at_least}

-- the exact power, rounded down and rounded up, is enclosed
pub encloses : {N M C p q : ℕ} → Rounded Down (p ^ (10 ^ 7) * M ^ C) (N ^ C * one ^ (10 ^ 7)) → Rounded Up (q ^ (10 ^ 7) * M ^ C) (N ^ C * one ^ (10 ^ 7)) → Encloses N M C p q
unfolding AtMost AtLeast
encloses low high = record { below = at_most low; above = at_least high }

-- two products are in the order of their k-th powers
in_order : (a b c d k : ℕ) → 0 < k → (a ^ k * b ^ k ≤ c ^ k * d ^ k) ↔ (a * b ≤ c * d)
in_order a b c d k pos = (
  λ h. pow_cancel k pos (subst₂ ◌≤◌ (sym (mul_pow a b k)) (sym (mul_pow c d k)) h),
  λ h. subst₂ ◌≤◌ (mul_pow a b k) (mul_pow c d k) (pow-le-pow_left h k),
)

pub at_the_ratio : AtTheRatio
unfolding AtMost AtLeast
at_the_ratio p N M = (in_order p M N one (10 ^ 7) (lit< tt), in_order N one p M (10 ^ 7) (lit< tt))
