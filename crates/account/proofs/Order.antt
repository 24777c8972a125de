-- Laws of `never_falling` (Account and its calls): it is found in one pass that carries the last reading's count. Assumes nothing.
use Prim.Native.Nat.{ℕ, zero, suc, ◌≤◌, ◌<◌}
use native.Mathlib.Nat.{not-suc-le-zero, le_of_suc-le-suc, eq-or-lt_of_le}
use mathlib.Core.Path.{◌≡◌, refl, sym, subst}
use mathlib.Core.Logic.{⊎_elim}
use mathlib.Core.Bool.{Bool, true, false, cond, ◌||◌, and-false, or-true, or-false}
use borrow.Author.Tests.{le-leb, lt-leb}
use lib.Dec.{leb, eqb, leb-zero}
use Rattle.common.specs.Below.{somewhere, last}
use Rattle.account.specs.Stands.{Readings, never_falling}

-- "zero without a reading", at k
abbrev pub zero_at : Readings → ℕ → Bool
zero_at r k = r.at k || eqb (r.count k) 0

-- the count of the last reading below m, 0 where there is none
abbrev pub carried : Readings → ℕ → ℕ
carried r zero = 0
carried r (suc m) = cond (r.at m) (r.count m) (carried r m)

module _ (r : Readings) where
  carried_is : (m : ℕ) → carried r m ≡ cond (somewhere r.at m) (r.count (last r.at m)) 0
  unfolding somewhere last
  carried_is zero = refl
  carried_is (suc m) = go (carried_is m) (r.at m)
    where
      go : carried r m ≡ cond (somewhere r.at m) (r.count (last r.at m)) 0 → (b : Bool) →
          cond b (r.count m) (carried r m) ≡ cond (somewhere r.at m || b) (r.count (cond b m (last r.at m))) 0
      go rest true = rw or-true
      go rest false = rw or-false rest

  -- at a reading, the test with the count carried is that of `never_falling`
  same_test : (k : ℕ) → cond (somewhere r.at k) (leb (r.count (last r.at k)) (r.count k)) true ≡ leb (carried r k) (r.count k)
  same_test k = rw (carried_is k) (go (somewhere r.at k))
    where
      go : (b : Bool) → cond b (leb (r.count (last r.at k)) (r.count k)) true ≡ leb (cond b (r.count (last r.at k)) 0) (r.count k)
      go true = refl
      go false = sym (leb-zero (r.count k))

  pub rising : (k : ℕ) → never_falling r k ≡ true → r.at k ≡ true → carried r k ≤ r.count k → never_falling r (suc k) ≡ true
  unfolding never_falling
  rising k e at h = rw (e, at, same_test k, le-leb _ _ h)

  pub passing : (k : ℕ) → never_falling r k ≡ true → r.at k ≡ false → never_falling r (suc k) ≡ true
  unfolding never_falling
  passing k e h = rw (e, h)

  pub falling : (k : ℕ) → r.at k ≡ true → r.count k < carried r k → never_falling r (suc k) ≡ false
  unfolding never_falling
  falling k e h = rw (e, same_test k, lt-leb _ _ h) (and-false (never_falling r k))

  pub falls : (m k : ℕ) → k < m → never_falling r (suc k) ≡ false → never_falling r m ≡ false
  unfolding never_falling
  falls zero k l e = absurd (not-suc-le-zero l)
  falls (suc m) k l e =
      ⊎_elim
      (λ q. subst (λ (j : ℕ). never_falling r (suc j) ≡ false) q e)
      (λ s. rw (falls m k s e))
      (eq-or-lt_of_le (le_of_suc-le-suc l))
