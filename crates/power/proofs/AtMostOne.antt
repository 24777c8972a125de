-- The power of a ratio at most one is at most one, and that of one is one (Profile value).
-- Assumes nothing.
use mathlib.Core.Path.{◌≡◌, refl}
use mathlib.Core.Bool.{Bool, true, false, cond}
use Prim.Native.Nat.{ℕ, zero, suc, ◌*◌, ◌/◌, ◌%◌, ◌^◌, ◌≤◌, ◌<◌}
use native.Mathlib.Nat.{le_refl, mul_comm, mul-le-mul, mul-le-mul_right}
use lib.Dec.{eqb}
use Rattle.power.specs.declared.rounded.Rounding.{Rounding}
use Rattle.power.specs.Power.{one, quotient, scaled_product, next_root, raise, times_roots, power}
use Rattle.power.proofs.Quotient.{quotient_le, quotient_exact}
use Rattle.power.proofs.Root.{one_pos, root_le, root_exact}

module _ (way : Rounding) where
  -- root 0
  pub ratio_le : (N M : ℕ) → 0 < M → N ≤ M → quotient way (N * one) M ≤ one
  ratio_le N M pos le = quotient_le way (N * one) M one pos (rw (mul_comm one M) (mul-le-mul_right one le))

  pub product_le : (p r : ℕ) → p ≤ one → r ≤ one → scaled_product way p r ≤ one
  unfolding scaled_product
  product_le p r hp hr = quotient_le way (p * r) one one one_pos (mul-le-mul hp hr)

  pub next_le : (r : ℕ) → r ≤ one → next_root way r ≤ one
  unfolding next_root
  next_le r h = root_le way (r * one) one (mul-le-mul_right one h)

  cond_le : (b : Bool) (p r : ℕ) → p ≤ one → r ≤ one → cond b (scaled_product way p r) p ≤ one
  cond_le true p r hp hr = product_le p r hp hr
  cond_le false p r hp hr = hp

  pub raise_le : (n r p : ℕ) → r ≤ one → p ≤ one → raise way n r p ≤ one
  unfolding raise
  raise_le zero r p hr hp = hp
  raise_le (suc n) r p hr hp = raise_le n r (scaled_product way p r) hr (product_le p r hp hr)

  times_roots_le : (k r p c : ℕ) → r ≤ one → p ≤ one → times_roots way k r p c ≤ one
  unfolding times_roots
  times_roots_le zero r p c hr hp = hp
  times_roots_le (suc k) r p c hr hp = times_roots_le k (next_root way r) _ c (next_le r hr) (cond_le (eqb (c / 2 ^ k % 2) 1) p (next_root way r) hp (next_le r hr))

  pub power_le : (r c : ℕ) → r ≤ one → power way r c ≤ one
  unfolding power
  power_le r c h = times_roots_le 24 r _ (c % 2 ^ 24) h (raise_le (c / 2 ^ 24) r one h (le_refl one))

  pub ratio_one_lem : (N M : ℕ) → 0 < M → N ≡ M → quotient way (N * one) M ≡ one
  ratio_one_lem N M pos e = rw (e, mul_comm M one) (quotient_exact way M one pos)

  product_one : scaled_product way one one ≡ one
  unfolding scaled_product
  product_one = quotient_exact way one one one_pos

  next_one : next_root way one ≡ one
  unfolding next_root
  next_one = root_exact way one

  cond_one : (b : Bool) → cond b (scaled_product way one one) one ≡ one
  cond_one true = product_one
  cond_one false = refl

  raise_one : (n : ℕ) → raise way n one one ≡ one
  unfolding raise
  raise_one zero = refl
  raise_one (suc n) = rw product_one (raise_one n)

  times_roots_one : (k c : ℕ) → times_roots way k one one c ≡ one
  unfolding times_roots
  times_roots_one zero c = refl
  times_roots_one (suc k) c = rw (next_one, cond_one (eqb (c / 2 ^ k % 2) 1)) (times_roots_one k c)

  pub power_one : (c : ℕ) → power way one c ≡ one
  unfolding power
  power_one c = rw raise_one (times_roots_one 24 (c % 2 ^ 24))
