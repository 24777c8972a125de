-- The readings of a file as they stand (Case file, If a call declines): what the table asks of the next one is what the file's own
-- faults ask. Assumes nothing.
use Prim.Native.Nat.{ℕ, zero, suc, ◌+◌, ◌-◌, ◌≤◌, ◌<◌}
use mathlib.Core.Path.{◌≡◌, refl, sym, ◌∙◌, ap}
use mathlib.Core.Bool.{Bool, true, false, cond}
use native.Mathlib.Omega.{arith}
use native.Mathlib.Nat.{le_refl}
use native.Mathlib.Decide.{dec_lt}
use borrow.Author.Tests.{ltb-true, ltb-false, lt-ltb, le-ltb, eq-eqb, ne_eqb, eqb-true}
use lib.Dec.{ltb, eqb}
use Rattle.common.specs.Rows.{row}
use Rattle.common.specs.Below.{somewhere}
use Rattle.account.specs.Stands.{Stands, Readings, with_reading, last_less_first}
use Rattle.account.specs.Account.{energy_most}
use Rattle.account.specs.Refusals.{below_earlier, above_later, out_of_order, too_much, reading_rows}
use Rattle.common.proofs.Below.{clash, refuted, both, none_is, some_at, first_is, last_is}
use Rattle.casefile.specs.Faults.{fails_to_rise}
use Rattle.casefile.proofs.Items.{above, before, rises, falling}

-- boundaries rise
pub risen : (boundary : ℕ → ℕ) (i : ℕ) → fails_to_rise boundary i ≡ false → above boundary i ≤ boundary i
risen boundary i e = ltb-false (boundary i) (above boundary i) (rises boundary i ∙ e)

-- the first i readings with these boundaries and counts, as they stand
pub record Orderly (boundary count : ℕ → ℕ) (i : ℕ) (r : Readings) : Type 0 where
  pub below : (j : ℕ) → r.at j ≡ true → j < above boundary i
  pub from : (j : ℕ) → r.at j ≡ true → boundary 0 ≤ j
  pub most : (j : ℕ) → r.at j ≡ true → r.count j ≤ before count i
  pub each : (m : ℕ) → m < i → (r.at (boundary m) ≡ true) × (r.count (boundary m) ≡ count m)

lowest : (boundary count : ℕ → ℕ) (i : ℕ) (r : Readings) → Orderly boundary count i r → above boundary i ≤ boundary i → boundary 0 ≤ boundary i
lowest boundary count zero r o up = le_refl _
lowest boundary count (suc i) r o up = omega (arith, o.below (boundary 0) (o.each 0 (omega arith)).0)

-- a count below the one before is below one that stands
highest : (boundary count : ℕ → ℕ) (i : ℕ) (r : Readings) → Orderly boundary count i r → count i < before count i
    → (j : ℕ) × (r.at j ≡ true) × (count i < r.count j)
highest boundary count zero r o l = absurd (omega arith)
highest boundary count (suc i) r o l =
    let e = o.each i (omega arith) in
    (boundary i, e.0, omega (arith, e.1))

-- one more reading that rises
module _ {boundary count : ℕ → ℕ} {i : ℕ} (st : Stands) (o : Orderly boundary count i st.readings) (rising : fails_to_rise boundary i ≡ false) where
  up : above boundary i ≤ boundary i
  up = risen boundary i rising

  abbrev one_more : Readings
  one_more = with_reading st.readings (boundary i) (count i)

  pub more : before count i ≤ count i → Orderly boundary count (suc i) one_more
  more up-too =
      record {
        below = λ j. below j (eqb j (boundary i)) refl;
        from = λ j. from j (eqb j (boundary i)) refl;
        most = λ j. most j (eqb j (boundary i));
        each = λ m l. each m (dec_lt m i) l;
      }
    where
      below : (j : ℕ) (t : Bool) → eqb j (boundary i) ≡ t → cond t true (st.readings.at j) ≡ true → j < boundary i + 1
      below j true e h = omega (arith, eqb-true j (boundary i) e)
      below j false e h = omega (arith, o.below j h, up)

      from : (j : ℕ) (t : Bool) → eqb j (boundary i) ≡ t → cond t true (st.readings.at j) ≡ true → boundary 0 ≤ j
      from j true e h = omega (arith, eqb-true j (boundary i) e, lowest boundary count i st.readings o up)
      from j false e h = o.from j h

      most : (j : ℕ) (t : Bool) → cond t true (st.readings.at j) ≡ true → cond t (count i) (st.readings.count j) ≤ count i
      most j true h = le_refl _
      most j false h = omega (arith, o.most j h, up-too)

      each : (m : ℕ) → Dec (m < i) → m < suc i → (one_more.at (boundary m) ≡ true) × (one_more.count (boundary m) ≡ count m)
      each m (yes h) l =
          let e = o.each m h in
          let other = ne_eqb (boundary m) (boundary i) (λ same. omega (arith, o.below _ e.0, up)) in
          (simp other e.0, simp other e.1)
      each m (no g) l =
          let same : m ≡ i = omega arith in
          let here = eq-eqb (boundary m) (boundary i) (ap boundary same) in
          (simp here, simp here (ap count (sym same)))

  free : (j : ℕ) → boundary i ≤ j → st.readings.at j ≡ false
  free j l = refuted (st.readings.at j) λ h. omega (arith, o.below j h, up)

  -- 8: the counts that stand are those of the readings before
  in_order : (n : ℕ) → before count i ≤ count i → out_of_order n st.readings (boundary i) (count i) ≡ false
  unfolding out_of_order
  in_order n l = rw (none_is _ (suc n) (λ j h. earlier j), none_is _ (suc n) (λ j h. later j)) refl
    where
      earlier : (j : ℕ) → below_earlier st.readings (boundary i) (count i) j ≡ false
      earlier j = refuted _ λ h.
          let p = (both (ltb j (boundary i)) _ h).1 in
          let q = both (st.readings.at j) _ p in
          omega (arith, ltb-true (count i) (st.readings.count j) q.1, o.most j q.0, l)

      later : (j : ℕ) → above_later st.readings (boundary i) (count i) j ≡ false
      later j = refuted _ λ h.
          let p = both (ltb (boundary i) j) _ h in
          clash (both (st.readings.at j) _ p.1).0 (free j (omega (arith, ltb-true (boundary i) j p.0)))

  not_in_order : (n : ℕ) → boundary i ≤ n → count i < before count i → out_of_order n st.readings (boundary i) (count i) ≡ true
  unfolding out_of_order
  not_in_order n inside l =
      let (j, at, above-it) = highest boundary count i st.readings o l in
      let earlier = o.below j at in
      rw (some_at (below_earlier st.readings (boundary i) (count i)) (suc n) j (omega (arith, up)) (simp (lt-ltb j (boundary i) (omega (arith, up)), at, lt-ltb (count i) (st.readings.count j) above-it))) refl

  -- 9: it is the last then, and the first is reading 0
  last_less_first_lem : (n : ℕ) → boundary i ≤ n → before count i ≤ count i
      → too_much n st.readings (boundary i) (count i) ≡ ltb energy_most (count i - count 0)
  unfolding last_less_first
  last_less_first_lem n inside l =
      let m = more l in
      let here = m.each i (omega arith) in
      let start = m.each 0 (omega arith) in
      let last = last_is one_more.at {m = suc n} (record { below = omega arith; holds = here.0; none_after = λ j a b. refuted _ (λ t. omega (arith, m.below j t)) }) in
      let first = first_is one_more.at {m = suc n} (record { below = omega (arith, m.from _ here.0); holds = start.0; none_before = λ j a. refuted _ (λ t. omega (arith, m.from j t)) }) in
      λ x. ltb energy_most ((ap one_more.count last ∙ here.1) x - (ap one_more.count first ∙ start.1) x)

  -- the rows that the table asks of the reading
  pub reading_rows_lem : (n : ℕ) → reading_rows n st (boundary i) (count i) ≡
      row (ltb n (boundary i)) 6
      (row (somewhere (λ j. ltb (count i) (count j)) i) 8
      (row (ltb energy_most (count i - count 0)) 9
      0))
  reading_rows_lem n = go (dec_lt n (boundary i)) (dec_lt (count i) (before count i))
    where
      top : (j : ℕ) → j < i → count j ≤ before count i
      top j l = let e = o.each j l in omega (arith, e.1, o.most _ e.0)

      go : Dec (n < boundary i) → Dec (count i < before count i) → reading_rows n st (boundary i) (count i) ≡
          row (ltb n (boundary i)) 6 (row (somewhere (λ j. ltb (count i) (count j)) i) 8 (row (ltb energy_most (count i - count 0)) 9 0))
      go (yes l) d = simp (lt-ltb n (boundary i) l)
      go (no g) (yes l) = simp (
        le-ltb n (boundary i) (omega arith),
        free (boundary i) (omega arith),
        not_in_order n (omega arith) l,
        falling count (count i) i top (λ z. ap count z),
        lt-ltb (count i) (before count i) l,
      )
      go (no g) (no h) = simp (
        le-ltb n (boundary i) (omega arith),
        free (boundary i) (omega arith),
        in_order n (omega arith),
        last_less_first_lem n (omega arith) (omega arith),
        falling count (count i) i top (λ z. ap count z),
        le-ltb (count i) (before count i) (omega arith),
      )
