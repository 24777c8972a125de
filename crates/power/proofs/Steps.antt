-- One turn of each loop of the power (Profile value), and its end, in the words of the definitions.
-- Assumes nothing.
use mathlib.Core.Path.{◌≡◌, refl}
use mathlib.Core.Bool.{cond}
use Prim.Native.Nat.{ℕ, zero, suc, ◌-◌, ◌/◌, ◌%◌, ◌^◌, ◌≤◌, ◌<◌}
use native.Mathlib.Omega.{arith}
use lib.Dec.{eqb}
use borrow.Author.Tests.{eq-eqb, ne_eqb}
use Rattle.power.specs.declared.rounded.Rounding.{Rounding}
use Rattle.power.specs.Power.{scaled_product, next_root, raise, times_roots}

module _ (way : Rounding) where
  pub raise_done : (n r p : ℕ) → n ≤ 0 → raise way n r p ≡ p
  unfolding raise
  raise_done zero r p h = refl
  raise_done (suc n) r p h = absurd (omega arith)

  pub raise_turn : (n r p : ℕ) → 0 < n → raise way n r p ≡ raise way (n - 1) r (scaled_product way p r)
  unfolding raise
  raise_turn zero r p h = absurd (omega arith)
  raise_turn (suc n) r p h =
      let e : suc n - 1 ≡ n = omega arith in
      rw e

  pub times_roots_done : (k r p c : ℕ) → k ≤ 0 → times_roots way k r p c ≡ p
  unfolding times_roots
  times_roots_done zero r p c h = refl
  times_roots_done (suc k) r p c h = absurd (omega arith)

  times_roots_turn : (k r p c : ℕ) → 0 < k → times_roots way k r p c ≡ times_roots way (k - 1) (next_root way r) (cond (eqb (c / 2 ^ (k - 1) % 2) 1) (scaled_product way p (next_root way r)) p) c
  unfolding times_roots
  times_roots_turn zero r p c h = absurd (omega arith)
  times_roots_turn (suc k) r p c h =
      let e : suc k - 1 ≡ k = omega arith in
      rw e

  pub times_roots_set : (k r p c : ℕ) → 0 < k → c / 2 ^ (k - 1) % 2 ≡ 1 → times_roots way k r p c ≡ times_roots way (k - 1) (next_root way r) (scaled_product way p (next_root way r)) c
  times_roots_set k r p c h bit = rw (eq-eqb (c / 2 ^ (k - 1) % 2) 1 bit) at (times_roots_turn k r p c h)

  pub times_roots_clear : (k r p c : ℕ) → 0 < k → (c / 2 ^ (k - 1) % 2 ≡ 1 → ⊥) → times_roots way k r p c ≡ times_roots way (k - 1) (next_root way r) p c
  times_roots_clear k r p c h bit = rw (ne_eqb (c / 2 ^ (k - 1) % 2) 1 bit) at (times_roots_turn k r p c h)
