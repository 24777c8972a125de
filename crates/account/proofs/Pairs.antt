-- "Readings never falling" by pairs (Account and its calls): of any two readings the later has at least what the earlier has. What a
-- reading taken in, or one removed, leaves of that. Assumes nothing.
use Prim.Native.Nat.{ℕ, zero, suc, ◌≤◌, ◌<◌}
use mathlib.Core.Path.{◌≡◌, refl}
use mathlib.Core.Logic.{⊎_elim}
use mathlib.Core.Bool.{Bool, true, false, cond, ◌&&◌}
use mathlib.Core.List.{[], ◌∷◌}
use native.Mathlib.Nat.{eq-or-lt_of_le}
use native.Mathlib.Omega.{arith}
use lib.Dec.{leb, ltb, eqb}
use lib.ListN.{get_or}
use borrow.Author.Tests.{leb-true, le-leb, eqb-true, eqb-false, lt-ltb, le-ltb, ltb-true, ltb-false}
use Rattle.common.specs.Below.{everywhere, somewhere, first, last}
use Rattle.account.specs.Stands.{Readings, with_reading, never_falling, last_less_first, first_reading, last_reading}
use Rattle.account.specs.Account.{marks_reading, readings_in, good_weights, good_marks, zero_counts}
use Rattle.account.specs.Refusals.{below_earlier, above_later, out_of_order, EqualCounts, EqualBetween}
use Rattle.common.proofs.Below.{clash, neither, none_at, none_is, first_found, last_found, first_least, last_most, last_less, last_holds, some_at, first_some, both, below_suc}

-- a reading has at least what the reading before it has
pub rising : (r : Readings) (m : ℕ) → never_falling r m ≡ true → (k : ℕ) → k < m → r.at k ≡ true → somewhere r.at k ≡ true →
    r.count (last r.at k) ≤ r.count k
unfolding never_falling
rising r zero h k lt at earlier = absurd (omega arith)
rising r (suc m) h k lt at earlier =
    let b = both (never_falling r m) _ h in
    below_suc (λ j. r.at j ≡ true → somewhere r.at j ≡ true → r.count (last r.at j) ≤ r.count j) m (rising r m b.0)
    (λ here before. leb-true _ _ (simp (here, before) at b.1)) k lt at earlier

-- of two readings below m the later has at least what the earlier has
abbrev pub Rising : Readings → ℕ → Type 0
Rising r m = (j k : ℕ) → j ≤ k → k < m → r.at j ≡ true → r.at k ≡ true → r.count j ≤ r.count k

pub pairs : (r : Readings) (m : ℕ) → never_falling r m ≡ true → (i : ℕ) → i ≤ m → Rising r i
pairs r m h zero le j k ordered lt at_j at-k = absurd (omega arith)
pairs r m h (suc i) le j k ordered lt at_j at-k = ⊎_elim (λ e. rw e (omega arith)) (before (pairs r m h i (omega arith))) (eq-or-lt_of_le ordered)
  where
    before : Rising r i → j < k → r.count j ≤ r.count k
    before rest less =
        let l = last_found r.at k j less at_j in
        let up = rest j (last r.at k) (last_most r.at l less at_j) (omega arith) at_j l.holds in
        omega (arith, rising r m h k (omega arith) at-k (some_at r.at k j less at_j))

-- the last that is asked about, where it is not one, is 0
last_none : (p : ℕ → Bool) (m : ℕ) → p (last p m) ≡ false → last p m ≡ 0
last_none p m h = let found : 0 < last p m → ⊥ = λ somewhere. clash (last_holds p m somewhere) h in omega arith

-- the other way
pub neighbours : (r : Readings) (m : ℕ) → Rising r m → never_falling r m ≡ true
unfolding never_falling
neighbours r zero rises = refl
neighbours r (suc m) rises =
    rw (neighbours r m (λ j k le lt. rises j k le (omega arith))) (go (r.at m) refl (somewhere r.at m) refl)
  where
    go : (b : Bool) → r.at m ≡ b → (c : Bool) → somewhere r.at m ≡ c → cond (b && c) (leb (r.count (last r.at m)) (r.count m)) true ≡ true
    go true e true f =
        let earlier = first_some r.at m f in
        let l = last_found r.at m _ earlier.below earlier.holds in
        le-leb _ (r.count m) (rises (last r.at m) m (omega arith) (omega arith) l.holds e)
    go true e false f = refl
    go false e c f = refl

-- every reading of one is a reading of the other, with the same count
pub record Within (r s : Readings) : Type 0 where
  pub there : (k : ℕ) → r.at k ≡ true → s.at k ≡ true
  pub same : (k : ℕ) → r.at k ≡ true → r.count k ≡ s.count k

module _ (r s : Readings) (within : Within r s) where
  pub fewer_rise : (m : ℕ) → Rising s m → Rising r m
  fewer_rise m rises j k le lt at_j at-k =
      omega (arith, within.same j at_j, within.same k at-k, rises j k le lt (within.there j at_j) (within.there k at-k))

  -- among fewer readings last less first only narrows
  pub fewer_less : (n : ℕ) → (r.at 0 ≡ false → r.count 0 ≡ 0) → Rising s (suc n) → last_less_first n r ≤ last_less_first n s
  unfolding last_less_first
  fewer_less n zeros rises = go (r.at (last_reading n r)) refl
    where
      go : (b : Bool) → r.at (last_reading n r) ≡ b → last_less_first n r ≤ last_less_first n s
      go true e =
          let last-r = last_less r.at (suc n) (omega arith) in
          let first_r = first_found r.at (suc n) (last_reading n r) (omega arith) e in
          let at_last = within.there (last_reading n r) e in
          let at_first = within.there (first_reading n r) first_r.holds in
          let first-s = first_found s.at (suc n) (first_reading n r) first_r.below at_first in
          let last-s = last_found s.at (suc n) (last_reading n r) (omega arith) at_last in
          let low = rises (first_reading n s) (first_reading n r) (first_least s.at first-s at_first) first_r.below first-s.holds at_first in
          let high = rises (last_reading n r) (last_reading n s) (last_most s.at last-s (omega arith) at_last) last-s.below at_last last-s.holds in
          omega (arith, within.same (last_reading n r) e, within.same (first_reading n r) first_r.holds)
      go false e = let z = last_none r.at (suc n) e in rw z (omega (arith, zeros (rw z at e)))

pub equal_counts : EqualCounts
unfolding out_of_order
equal_counts n r k v above below =
    rw (none_is (below_earlier r k v) (suc n) (λ j h. earlier j (ltb j k) refl (r.at j) refl), none_is (above_later r k v) (suc n) (λ j h. later j (ltb k j) refl (r.at j) refl)) refl
  where
    earlier : (j : ℕ) (b : Bool) → ltb j k ≡ b → (c : Bool) → r.at j ≡ c → (b && (c && ltb v (r.count j))) ≡ false
    earlier j true before true at = le-ltb v (r.count j) (above j at (ltb-true j k before))
    earlier j true before false at = refl
    earlier j false before c at = refl

    later : (j : ℕ) (b : Bool) → ltb k j ≡ b → (c : Bool) → r.at j ≡ c → (b && (c && ltb (r.count j) v)) ≡ false
    later j true after true at = le-ltb (r.count j) v (omega (arith, below j at (ltb-true k j after)))
    later j true after false at = refl
    later j false after c at = refl

pub equal_between : EqualBetween
unfolding good_weights good_marks zero_counts everywhere never_falling last_less_first somewhere first last
equal_between = rw (equal_counts 2 (readings_in (2 ∷ 0 ∷ 2 ∷ []) (500 ∷ 0 ∷ 500 ∷ [])) 1 500 above below)
  where
    above : (j : ℕ) → marks_reading (get_or (2 ∷ 0 ∷ 2 ∷ []) j 0) ≡ true → j < 1 → get_or (500 ∷ 0 ∷ 500 ∷ []) j 0 ≤ 500
    above zero at before = omega arith
    above (suc j) at before = absurd (omega arith)

    below : (j : ℕ) → marks_reading (get_or (2 ∷ 0 ∷ 2 ∷ []) j 0) ≡ true → 1 < j → 500 ≤ get_or (500 ∷ 0 ∷ 500 ∷ []) j 0
    below zero at after = absurd (omega arith)
    below (suc zero) at after = absurd (omega arith)
    below (suc (suc zero)) at after = omega arith
    below (suc (suc (suc j))) at after = absurd (clash at refl)

module _ (n : ℕ) (r : Readings) (k v : ℕ) (fits : out_of_order n r k v ≡ false) where
  neither_row : (somewhere (below_earlier r k v) (suc n) ≡ false) × (somewhere (above_later r k v) (suc n) ≡ false)
  unfolding out_of_order
  neither_row = neither _ _ fits

  not_below : (j : ℕ) → j < suc n → r.at j ≡ true → j < k → r.count j ≤ v
  not_below j lt at less =
      ltb-false v (r.count j) (rw (lt-ltb j k less, at) at (none_at (below_earlier r k v) (suc n) neither_row.0 j lt))

  not_above : (j : ℕ) → j < suc n → r.at j ≡ true → k < j → v ≤ r.count j
  not_above j lt at less =
      ltb-false (r.count j) v (rw (lt-ltb k j less, at) at (none_at (above_later r k v) (suc n) neither_row.1 j lt))

  pub more_rise : Rising r (suc n) → Rising (with_reading r k v) (suc n)
  more_rise rises i j le lt = go (eqb i k) refl (eqb j k) refl
    where
      go : (b : Bool) → eqb i k ≡ b → (c : Bool) → eqb j k ≡ c → cond b true (r.at i) ≡ true → cond c true (r.at j) ≡ true →
          cond b v (r.count i) ≤ cond c v (r.count j)
      go true e true f at_i at_j = omega arith
      go true e false f at_i at_j = not_above j lt at_j (omega (arith, eqb-true i k e, eqb-false j k f))
      go false e true f at_i at_j = not_below i (omega arith) at_i (omega (arith, eqb-false i k e, eqb-true j k f))
      go false e false f at_i at_j = rises i j le lt at_i at_j
