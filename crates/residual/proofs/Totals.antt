-- The suppliers' totals (K5): each is at most the sum of the amounts, and together they are that sum. Assumes nothing.
use mathlib.Core.Path.{◌≡◌, refl}
use mathlib.Core.Bool.{Bool, true, false, cond}
use mathlib.Core.List.{List}
use mathlib.Core.Logic.{⊎_elim}
use Prim.Native.Nat.{ℕ, zero, suc, ◌+◌, ◌≤◌, ◌<◌}
use native.Mathlib.Nat.{eq-or-lt_of_le}
use native.Mathlib.Omega.{arith}
use lib.Dec.{eqb}
use lib.ListN.{length, get_or, take}
use borrow.Author.Tests.{eq-eqb, ne_eqb}
use Rattle.common.specs.Lists.{list_of, sum_of}
use Rattle.residual.specs.Spread.{total_of}
use Rattle.residual.proofs.Sums.{sum_more, sum_list_of}

-- a is added to the one number that is x, among those below n
abbrev pub more : (ℕ → ℕ) → (x a s : ℕ) → ℕ
more g x a s = g s + cond (eqb x s) a 0

pub more_other : (g : ℕ → ℕ) (x a s : ℕ) → (x ≡ s → ⊥) → more g x a s ≡ g s
more_other g x a s other = rw (ne_eqb x s other) (omega arith)

pub more_here : (g : ℕ → ℕ) (x a s : ℕ) → x ≡ s → more g x a s ≡ g s + a
more_here g x a s here = rw (eq-eqb x s here)

sum_other : (g : ℕ → ℕ) (x a n : ℕ) → n ≤ x → sum_of (list_of (more g x a) n) ≡ sum_of (list_of g n)
unfolding list_of
sum_other g x a zero h = refl
sum_other g x a (suc n) h =
    omega (arith, sum_list_of (more g x a) n, sum_list_of g n, sum_other g x a n (omega arith), more_other g x a n (λ e. omega arith))

sum_here : (g : ℕ → ℕ) (x a n : ℕ) → x < n → sum_of (list_of (more g x a) n) ≡ sum_of (list_of g n) + a
sum_here g x a zero h = absurd (omega arith)
sum_here g x a (suc n) h =
    ⊎_elim
    (λ e. omega (arith, sum_list_of (more g x a) n, sum_list_of g n, sum_other g x a n (omega arith), more_here g x a n (omega arith)))
    (λ l. omega (arith, sum_list_of (more g x a) n, sum_list_of g n, sum_here g x a n (omega arith), more_other g x a n (λ e. omega arith)))
    (eq-or-lt_of_le h)

sum_none : (n : ℕ) → sum_of (list_of (λ s. 0) n) ≡ 0
unfolding sum_of list_of
sum_none zero = refl
sum_none (suc n) = omega (arith, sum_list_of (λ s. 0) n, sum_none n)

at_most : (b : Bool) (a : ℕ) → cond b a 0 ≤ a
at_most true a = omega arith
at_most false a = omega arith

module _ (suppliers amounts : List ℕ) where
  pub total_most : (s m : ℕ) → m ≤ length amounts → total_of suppliers amounts s m ≤ sum_of (take m amounts)
  unfolding total_of sum_of
  total_most s zero h = omega arith
  total_most s (suc m) h =
      omega (arith, total_most s m (omega arith), sum_more amounts m (omega arith), at_most (eqb (get_or suppliers m 0) s) (get_or amounts m 0))

  pub totals_reach : (m : ℕ) → m ≤ length amounts → ((i : ℕ) → i < m → get_or suppliers i 0 < 64) →
      sum_of (list_of (λ s. total_of suppliers amounts s m) 64) ≡ sum_of (take m amounts)
  unfolding total_of sum_of
  totals_reach zero h known = sum_none 64
  totals_reach (suc m) h known =
      omega (
        arith,
        sum_here (λ s. total_of suppliers amounts s m) (get_or suppliers m 0) (get_or amounts m 0) 64 (known m (omega arith)),
        totals_reach m (omega arith) (λ i l. known i (omega arith)),
        sum_more amounts m (omega arith),
      )
