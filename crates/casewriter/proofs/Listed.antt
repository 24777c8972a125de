-- The numbers at which a question is answered with yes, one after the other (K2): how many come before each of them. Assumes nothing.
use Prim.Native.Nat.{ℕ, zero, suc, ◌+◌, ◌-◌, ◌≤◌, ◌<◌}
use mathlib.Core.Path.{◌≡◌, refl, sym, ◌∙◌, ap, subst}
use mathlib.Core.Bool.{Bool, true, false, cond}
use native.Mathlib.Omega.{arith}
use mir.Val.{bool_byte}
use native.Mathlib.Numerals.{add-one}
use native.Mathlib.Nat.{add-zero}
use native.Mathlib.Decide.{dec_lt, le_ind}
use Rattle.common.specs.Below.{how_many}
use Rattle.common.proofs.Below.{refuted}

-- p holds at b 0, b 1, .. up to `count` of them, and nowhere else; they rise and lie below m
pub record Listed (p : ℕ → Bool) (b : ℕ → ℕ) (count m : ℕ) : Type 0 where
  pub rise : (i j : ℕ) → i < j → j < count → b i < b j
  pub below : (i : ℕ) → i < count → b i < m
  pub at : (i : ℕ) → i < count → p (b i) ≡ true
  pub from : (k : ℕ) → p k ≡ true → (i : ℕ) × (i < count) × (b i ≡ k)

-- the same numbers are listed of no other question
listed_too : {p q : ℕ → Bool} {b : ℕ → ℕ} {count m n : ℕ} → Listed p b count m → Listed q b count n → (k : ℕ) → p k ≡ true → q k ≡ true
listed_too {q = q} a b k h = let (i, l, e) = a.from k h in subst (λ (j : ℕ). q j ≡ true) e (b.at i l)

pub listed_same : {p q : ℕ → Bool} {b : ℕ → ℕ} {count m n : ℕ} → Listed p b count m → Listed q b count n → (k : ℕ) → p k ≡ q k
listed_same {p} {q} a b k = go (p k) (q k) (listed_too a b k) (listed_too b a k)
  where
    go : (x y : Bool) → (x ≡ true → y ≡ true) → (y ≡ true → x ≡ true) → x ≡ y
    go true y there back = sym (there refl)
    go false true there back = back refl
    go false false there back = refl

-- a test counts at most once
pub once : (b : Bool) → bool_byte b ≤ 1
once true = omega arith
once false = omega arith

module _ (p : ℕ → Bool) where
  -- how many there are: no more than the numbers asked, no fewer below a larger one, and all of them where p always holds
  pub many_most : (m : ℕ) → how_many p m ≤ m
  unfolding how_many
  many_most zero = omega arith
  many_most (suc m) = go (p m) (many_most m)
    where
      go : (b : Bool) → how_many p m ≤ m → how_many p m + cond b 1 0 ≤ suc m
      go true l = omega arith
      go false l = omega arith

  -- one number more
  pub many_more : (k : ℕ) {n r : ℕ} {b : Bool} → n ≡ how_many p k → b ≡ p k → r ≡ bool_byte b → n + r ≡ how_many p (k + 1)
  unfolding how_many
  many_more k {b = b} was is one = rw (was, one, add-one k, ← is) (ap (λ (x : ℕ). how_many p k + x) (byte b))
    where
      byte : (x : Bool) → bool_byte x ≡ cond x 1 0
      byte true = refl
      byte false = refl

  pub many_up : (m n : ℕ) → m ≤ n → how_many p m ≤ how_many p n
  unfolding how_many
  many_up m = le_ind (λ n. how_many p m ≤ how_many p n) (omega arith) (λ n h l. omega arith)

  pub many_all : ((k : ℕ) → p k ≡ true) → (m : ℕ) → how_many p m ≡ m
  unfolding how_many
  many_all all zero = refl
  many_all all (suc m) = rw (all m, many_all all m) (omega arith)

  pub many_same : (j d : ℕ) → ((i : ℕ) → j ≤ i → i < j + d → p i ≡ false) → how_many p (j + d) ≡ how_many p j
  unfolding how_many
  many_same j zero none = rw add-zero refl
  many_same j (suc d) none =
      let e : j + suc d ≡ suc (j + d) = omega arith in
      rw (e, none (j + d) (omega arith) (omega arith), add-zero) (many_same j d (λ i l h. none i l (omega arith)))

  -- fewer come before one than there are
  pub fewer : (m k : ℕ) → k < m → p k ≡ true → how_many p k < how_many p m
  unfolding how_many
  fewer m k l h =
      let one : how_many p (suc k) ≡ how_many p k + 1 = rw h refl in
      omega (arith, many_up (suc k) m l)

  -- of two the one with fewer before it is the earlier
  pub earlier : (j k : ℕ) → how_many p j < how_many p k → j < k
  earlier j k l = go (dec_lt j k)
    where
      go : Dec (j < k) → j < k
      go (yes h) = h
      go (no g) = absurd (omega (arith, many_up k j (omega arith)))

  -- the one that has i of them before it
  pub ith : (m i : ℕ) → i < how_many p m → (k : ℕ) × (k < m) × (p k ≡ true) × (how_many p k ≡ i)
  unfolding how_many
  ith zero i l = absurd (omega arith)
  ith (suc m) i l = go (ith m i) (dec_lt i (how_many p m)) (p m) refl l
    where
      go : (i < how_many p m → (k : ℕ) × (k < m) × (p k ≡ true) × (how_many p k ≡ i)) → Dec (i < how_many p m) → (b : Bool) → p m ≡ b → i < how_many p m + cond b 1 0
          → (k : ℕ) × (k < suc m) × (p k ≡ true) × (how_many p k ≡ i)
      go rest (yes h) b e l = let (k, below, holds, many) = rest h in (k, omega arith, holds, many)
      go rest (no g) true e l = (m, omega arith, e, omega arith)
      go rest (no g) false e l = absurd (omega arith)

  -- the least number that could come after the first i
  abbrev next : (ℕ → ℕ) → ℕ → ℕ
  next b zero = 0
  next b (suc i) = b i + 1

  module _ {b : ℕ → ℕ} {count m : ℕ} (l : Listed p b count m) where
    up : (i j : ℕ) → i ≤ j → j < count → b i ≤ b j
    up i j h c = go (dec_lt i j)
      where
        go : Dec (i < j) → b i ≤ b j
        go (yes later) = omega (arith, l.rise i j later c)
        go (no g) = let same : i ≡ j = omega arith in omega (arith, ap b same)

    -- the first i lie before it, the others from it on
    passed : (i j : ℕ) → j < i → i ≤ count → b j < next b i
    passed zero j h c = absurd (omega arith)
    passed (suc i) j h c = omega (arith, up j i (omega arith) (omega arith))

    reached : (i : ℕ) → i < count → next b i ≤ b i
    reached zero h = omega arith
    reached (suc i) h = omega (arith, l.rise i (suc i) (omega arith) h)

    -- none lies between the first i and the others
    none_between : (i k : ℕ) → i ≤ count → next b i ≤ k → (i < count → k < b i) → p k ≡ false
    none_between i k c lo hi = refuted (p k) (λ t. go (l.from k t))
      where
        go : (j : ℕ) × (j < count) × (b j ≡ k) → ⊥
        go (j, h, e) = by (dec_lt j i)
          where
            by : Dec (j < i) → ⊥
            by (yes first) = omega (arith, passed i j first c)
            by (no g) = omega (arith, up i j (omega arith) h, hi (omega arith))

    stretch : (i k : ℕ) → i ≤ count → next b i ≤ k → (i < count → k ≤ b i) → how_many p k ≡ how_many p (next b i)
    stretch i k c lo hi =
        let e : k ≡ next b i + (k - next b i) = omega arith in
        ap (how_many p) e ∙ many_same (next b i) (k - next b i) (λ j a h. none_between i j c a (λ o. omega (arith, hi o)))

    first_few : (i : ℕ) → i ≤ count → how_many p (next b i) ≡ i
    unfolding how_many
    first_few zero c = refl
    first_few (suc i) c =
        rw (add-one (b i), l.at i (omega arith), add-one)
        (ap suc (stretch i (b i) (omega arith) (reached i (omega arith)) (λ _. omega arith) ∙ first_few i (omega arith)))

    -- so i of them come before the one that is number i, and there are `count`
    pub before_each : (i : ℕ) → i < count → how_many p (b i) ≡ i
    before_each i h = stretch i (b i) (omega arith) (reached i h) (λ _. omega arith) ∙ first_few i (omega arith)

    pub all_counted : how_many p m ≡ count
    all_counted = stretch count m (omega arith) (last count refl) (λ o. absurd (omega arith)) ∙ first_few count (omega arith)
      where
        last : (i : ℕ) → i ≡ count → next b i ≤ m
        last zero e = omega arith
        last (suc i) e = omega (arith, l.below i (omega arith))
