-- The first and the last boundary with p (Account and its calls), when k is taken in among them. Assumes nothing.
use Prim.Native.Nat.{ℕ, zero, suc, ◌≤◌, ◌<◌, min, max}
use native.Mathlib.Decide.{dec_lt}
use native.Mathlib.Nat.{le_refl}
use native.Mathlib.Omega.{arith}
use mathlib.Core.Path.{◌≡◌, refl, ap₂, ◌∙◌}
use mathlib.Core.Bool.{Bool, true, ◌||◌}
use borrow.Author.Tests.{eq-eqb, ne_eqb}
use Rattle.common.specs.Below.{somewhere, first, last}
use Rattle.account.specs.Stands.{put}
use Rattle.common.proofs.Below.{first_at, first_below, first_holds, last_at, last_less, last_holds, last_above}

pub put_here {ℓ} : {A : Type ℓ} (f : ℕ → A) (k : ℕ) (x : A) → put f k x k ≡ x
put_here f k x = rw (eq-eqb k k refl)

pub put_other {ℓ} : {A : Type ℓ} (f : ℕ → A) (k : ℕ) (x : A) (j : ℕ) → (j ≡ k → ⊥) → put f k x j ≡ f j
put_other f k x j h = rw (ne_eqb j k h)

module _ (p : ℕ → Bool) (k m : ℕ) (within : k < m) where
  some_with : (j : ℕ) → j ≤ k → somewhere (put p k true) j ≡ somewhere p j
  unfolding somewhere
  some_with zero l = refl
  some_with (suc j) l = ap₂ ◌||◌ (some_with j (omega arith)) (put_other p k true j (λ e. omega arith))

  pub first_with : first (put p k true) m ≡ min (first p m) k
  first_with = go (dec_lt (first p m) k)
    where
      go : Dec (first p m < k) → first (put p k true) m ≡ min (first p m) k
      go (yes l) =
          let is = first_at (put p k true) m (first p m) (omega arith)
          (some_with (first p m) (omega arith) ∙ first_below p m (first p m) (le_refl (first p m)))
          (put_other p k true (first p m) (λ e. omega arith) ∙ first_holds p m (omega arith)) in
          omega arith
      go (no l) =
          let is = first_at (put p k true) m k within (some_with k (le_refl k) ∙ first_below p m k (omega arith)) (put_here p k true) in
          omega arith

  pub last_with : last (put p k true) m ≡ max (last p m) k
  last_with = go (dec_lt k (last p m))
    where
      go : Dec (k < last p m) → last (put p k true) m ≡ max (last p m) k
      go (yes l) =
          let is = last_at (put p k true) m (last p m) (last_less p m (omega arith))
          (put_other p k true (last p m) (λ e. omega arith) ∙ last_holds p m (omega arith))
          (λ j g s. put_other p k true j (λ e. omega arith) ∙ last_above p m j (omega arith) s) in
          omega arith
      go (no l) =
          let is = last_at (put p k true) m k within (put_here p k true)
          (λ j g s. put_other p k true j (λ e. omega arith) ∙ last_above p m j (omega arith) s) in
          omega arith
