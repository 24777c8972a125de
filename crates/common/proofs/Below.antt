-- What the questions about numbers below one answer (Account and its calls): everywhere, somewhere, first, last, how many. Assumes nothing.
use mathlib.Core.Path.{◌≡◌, refl, sym, subst}
use mathlib.Core.Bool.{Bool, true, false, cond, ◌&&◌, ◌||◌, and-false, or-true}
use mathlib.Core.Logic.{⊎_elim}
use Prim.Native.Nat.{ℕ, zero, suc, ◌≤◌, ◌<◌}
use native.Mathlib.Nat.{not-suc-le-zero, eq-or-lt_of_le, le_of_suc-le-suc}
use native.Mathlib.Omega.{arith}
use Rattle.common.specs.Below.{everywhere, somewhere, how_many, first, last}

-- a test that is true is not false
pub clash : {b : Bool} → b ≡ true → b ≡ false → ⊥
clash t f = let z : ◌≡◌ {A = ℕ} 0 1 = cc in omega arith

pub refuted : (b : Bool) → (b ≡ true → ⊥) → b ≡ false
refuted true h = absurd (h refl)
refuted false h = refl

pub both : (a b : Bool) → (a && b) ≡ true → (a ≡ true) × (b ≡ true)
both true b h = (refl, h)
both false b h = absurd (clash h refl)

pub neither : (a b : Bool) → (a || b) ≡ false → (a ≡ false) × (b ≡ false)
neither true b h = absurd (clash refl h)
neither false b h = (refl, h)

-- what holds below m and at m holds below suc m
pub below_suc {ℓ} : (P : ℕ → Type ℓ) (m : ℕ) → ((k : ℕ) → k < m → P k) → P m → (k : ℕ) → k < suc m → P k
below_suc P m all here k h = ⊎_elim (λ e. subst P (sym e) here) (λ lt. all k lt) (eq-or-lt_of_le (le_of_suc-le-suc h))

-- k is the first boundary at which p holds, and lies below m
pub record IsFirst (p : ℕ → Bool) (m k : ℕ) : Type 0 where
  pub below : k < m
  pub holds : p k ≡ true
  pub none_before : (j : ℕ) → j < k → p j ≡ false

-- k is the last boundary below m at which p holds
pub record IsLast (p : ℕ → Bool) (m k : ℕ) : Type 0 where
  pub below : k < m
  pub holds : p k ≡ true
  pub none_after : (j : ℕ) → k < j → j < m → p j ≡ false

module _ (p : ℕ → Bool) where
  pub every_at : (m : ℕ) → everywhere p m ≡ true → (k : ℕ) → k < m → p k ≡ true
  unfolding everywhere
  every_at zero h k lt = absurd (omega arith)
  every_at (suc m) h k lt = let b = both (everywhere p m) (p m) h in below_suc (λ j. p j ≡ true) m (every_at m b.0) b.1 k lt

  pub every_is : (m : ℕ) → ((k : ℕ) → k < m → p k ≡ true) → everywhere p m ≡ true
  unfolding everywhere
  every_is zero all = refl
  every_is (suc m) all = rw (every_is m (λ k h. all k (omega arith)), all m (omega arith))

  pub none_at : (m : ℕ) → somewhere p m ≡ false → (k : ℕ) → k < m → p k ≡ false
  unfolding somewhere
  none_at zero h k lt = absurd (omega arith)
  none_at (suc m) h k lt = let b = neither (somewhere p m) (p m) h in below_suc (λ j. p j ≡ false) m (none_at m b.0) b.1 k lt

  pub none_is : (m : ℕ) → ((k : ℕ) → k < m → p k ≡ false) → somewhere p m ≡ false
  unfolding somewhere
  none_is zero all = refl
  none_is (suc m) all = rw (none_is m (λ k h. all k (omega arith)), all m (omega arith)) refl

  -- a boundary below m at which p holds
  pub found : (m : ℕ) → 0 < how_many p m → (k : ℕ) × (k < m) × (p k ≡ true)
  unfolding how_many
  found zero h = absurd (omega arith)
  found (suc m) h = go (λ l. found m l) (p m) refl
    where
      go : (0 < how_many p m → (k : ℕ) × (k < m) × (p k ≡ true)) → (b : Bool) → p m ≡ b → (k : ℕ) × (k < suc m) × (p k ≡ true)
      go rest true e = (m, omega arith, e)
      go rest false e = let r = rest (omega (arith, rw e at h)) in (r.0, omega (arith, r.1), r.2)

  pub first_some : (m : ℕ) → somewhere p m ≡ true → IsFirst p m (first p m)
  unfolding first somewhere
  first_some zero h = absurd (clash h refl)
  first_some (suc m) h = go (λ e. first_some m e) (somewhere p m) refl
    where
      go : (somewhere p m ≡ true → IsFirst p m (first p m)) → (b : Bool) → somewhere p m ≡ b →
          IsFirst p (suc m) (cond (somewhere p m) (first p m) (cond (p m) m (suc m)))
      go rest true e = let r = rest e in rw e (record { below = omega arith; holds = r.holds; none_before = r.none_before })
      go rest false e =
          let here : p m ≡ true = rw e at h in
          rw (e, here) (record { below = omega arith; holds = here; none_before = none_at m e })

  -- where p holds somewhere below m, first and last find it
  pub first_found : (m k : ℕ) → k < m → p k ≡ true → IsFirst p m (first p m)
  first_found m k lt h = go (somewhere p m) refl
    where
      go : (b : Bool) → somewhere p m ≡ b → IsFirst p m (first p m)
      go true e = first_some m e
      go false e = absurd (clash h (none_at m e k lt))

  pub last_found : (m k : ℕ) → k < m → p k ≡ true → IsLast p m (last p m)
  unfolding last
  last_found zero k lt h = absurd (omega arith)
  last_found (suc m) k lt h = go (λ l. last_found m k l h) (p m) refl
    where
      go : (k < m → IsLast p m (last p m)) → (b : Bool) → p m ≡ b → IsLast p (suc m) (cond (p m) m (last p m))
      go rest true e = rw e (record { below = omega arith; holds = e; none_after = λ j a b. absurd (omega arith) })
      go rest false e =
          let other : k ≡ m → ⊥ = λ same. clash h (rw (← same) at e) in
          let r = rest (omega arith) in
          rw e
          (record {
            below = omega arith;
            holds = r.holds;
            none_after = λ j a b. below_suc (λ i. last p m < i → p i ≡ false) m (λ i c d. r.none_after i d c) (λ c. e) j b a;
          })

  -- and there is one such boundary
  pub first_least : {m f k : ℕ} → IsFirst p m f → p k ≡ true → f ≤ k
  first_least {k} is h = let no : k < _ → ⊥ = λ lt. clash h (is.none_before k lt) in omega arith

  pub last_most : {m l k : ℕ} → IsLast p m l → k < m → p k ≡ true → k ≤ l
  last_most {k} is lt h = let no : _ < k → ⊥ = λ after. clash h (is.none_after k after lt) in omega arith

  pub first_is : {m k : ℕ} → IsFirst p m k → first p m ≡ k
  first_is {m} {k} is =
      let other = first_found m k is.below is.holds in
      omega (arith, first_least other is.holds, first_least is other.holds)

  pub last_is : {m k : ℕ} → IsLast p m k → last p m ≡ k
  last_is {m} {k} is =
      let other = last_found m k is.below is.holds in
      omega (arith, last_most other is.below is.holds, last_most is other.below other.holds)

  pub every_zero : everywhere p 0 ≡ true
  unfolding everywhere
  every_zero = refl

  pub every_more : (m : ℕ) → everywhere p m ≡ true → p m ≡ true → everywhere p (suc m) ≡ true
  unfolding everywhere
  every_more m e h = rw (e, h)

  pub every_fails : (m k : ℕ) → k < m → p k ≡ false → everywhere p m ≡ false
  unfolding everywhere
  every_fails zero k l h = absurd (not-suc-le-zero l)
  every_fails (suc m) k l h =
      ⊎_elim
      (λ q. rw (← q, h) (and-false (everywhere p k)))
      (λ s. rw (every_fails m k s h))
      (eq-or-lt_of_le (le_of_suc-le-suc l))

  pub some_zero : somewhere p 0 ≡ false
  unfolding somewhere
  some_zero = refl

  pub some_none : (m : ℕ) → somewhere p m ≡ false → p m ≡ false → somewhere p (suc m) ≡ false
  unfolding somewhere
  some_none m e h = rw (e, h)

  pub some_at : (m k : ℕ) → k < m → p k ≡ true → somewhere p m ≡ true
  unfolding somewhere
  some_at zero k l h = absurd (not-suc-le-zero l)
  some_at (suc m) k l h =
      ⊎_elim
      (λ q. rw (← q, h) (or-true (somewhere p k)))
      (λ s. rw (some_at m k s h))
      (eq-or-lt_of_le (le_of_suc-le-suc l))

  pub first_none : (m : ℕ) → somewhere p m ≡ false → first p m ≡ m
  unfolding somewhere first
  first_none zero e = refl
  first_none (suc m) e = rw ((neither (somewhere p m) (p m) e).0, (neither (somewhere p m) (p m) e).1)

  pub first_at : (m k : ℕ) → k < m → somewhere p k ≡ false → p k ≡ true → first p m ≡ k
  first_at m k l e h = first_is (record { below = l; holds = h; none_before = none_at k e })

  pub last_none : (m : ℕ) → ((k : ℕ) → k < m → p k ≡ false) → last p m ≡ 0
  unfolding last
  last_none zero h = refl
  last_none (suc m) h = rw (h m (omega arith)) (last_none m (λ k l. h k (omega arith)))

  pub last_zero : last p 0 ≡ 0
  unfolding last
  last_zero = refl

  pub last_here : {m k : ℕ} → m ≡ suc k → p k ≡ true → last p m ≡ k
  unfolding last
  last_here e h = rw (e, h)

  pub last_below : {m k : ℕ} → m ≡ suc k → p k ≡ false → last p m ≡ last p k
  unfolding last
  last_below e h = rw (e, h)

  -- there is none before the first, and it is one
  pub first_below : (m k : ℕ) → k ≤ first p m → somewhere p k ≡ false
  first_below m k l = none_is k (λ j h. go j (omega arith) (somewhere p m) refl)
    where
      go : (j : ℕ) → j < first p m → (b : Bool) → somewhere p m ≡ b → p j ≡ false
      go j h true e = (first_some m e).none_before j h
      go j h false e = none_at m e j (omega (arith, first_none m e))

  pub first_holds : (m : ℕ) → first p m < m → p (first p m) ≡ true
  first_holds m l = go (somewhere p m) refl
    where
      go : (b : Bool) → somewhere p m ≡ b → p (first p m) ≡ true
      go true e = (first_some m e).holds
      go false e = let end = first_none m e in absurd (omega arith)

  -- the last is one if it is not 0, and there is none after it
  pub last_less : (m : ℕ) → 0 < m → last p m < m
  unfolding last
  last_less zero l = l
  last_less (suc m) l = go (p m) m (last_less m)
    where
      go : (c : Bool) (m : ℕ) → (0 < m → last p m < m) → cond c m (last p m) < suc m
      go true m below = omega arith
      go false zero below = omega arith
      go false (suc m) below = let s = below (omega arith) in omega arith

  pub last_holds : (m : ℕ) → 0 < last p m → p (last p m) ≡ true
  unfolding last
  last_holds zero l = absurd (not-suc-le-zero l)
  last_holds (suc m) l = go (p m) refl (last_holds m) l
    where
      go : (c : Bool) → p m ≡ c → (0 < last p m → p (last p m) ≡ true) → 0 < cond c m (last p m) → p (cond c m (last p m)) ≡ true
      go true e holds l = e
      go false e holds l = holds l

  pub last_above : (m j : ℕ) → last p m < j → j < m → p j ≡ false
  last_above m j g l = refuted (p j) (λ h. let most = last_most (last_found m j l h) l h in omega arith)

  pub last_at : (m k : ℕ) → k < m → p k ≡ true → ((j : ℕ) → k < j → j < m → p j ≡ false) → last p m ≡ k
  last_at m k l e none = last_is (record { below = l; holds = e; none_after = none })
