-- The pass over marks and counts that finds whether they are sound (Account and its calls): what it knows after k boundaries, and when it fails. Assumes nothing.
use Prim.Native.Nat.{ℕ, suc, ◌≤◌, ◌<◌}
use native.Mathlib.Omega.{arith}
use mathlib.Core.Path.{◌≡◌, refl, sym, ◌∙◌}
use mathlib.Core.List.{List}
use denote.Ref.{Bor}
use Rattle.std.specs.Prelude.{Option, Some}
use Rattle.std.specs.declared.slice.Iter.{Iter}
use Rattle.std.specs.declared.iter.Zip.{Zip}
use Rattle.std.specs.Iterator.{Yields}
use Rattle.std.specs.Iterator.Adapters.{zip_first, zip_second}
use Rattle.std.specs.Slice.Iter.{iter_rest}
use Rattle.std.proofs.iter.Yields.{fronts}
use Rattle.std.proofs.lemmas.Iterator.{zips}
use Rattle.std.proofs.lemmas.Slice.Zip.{zip_turn}
use mathlib.Core.Bool.{true, false, and-false}
use borrow.Author.Tests.{le-leb, lt-leb, eq-eqb, ne_eqb}
use lib.Dec.{leb}
use lib.ListN.{length, get_or}
use Rattle.common.specs.Below.{everywhere}
use Rattle.account.specs.Stands.{never_falling}
use Rattle.account.specs.Account.{Account, days, shown, marks_reading, good_marks, zero_counts}
use Rattle.account.specs.Slices.{Fit, good_boundaries}
use Rattle.common.proofs.Below.{every_zero, every_more, every_fails}
use Rattle.account.proofs.Order.{zero_at, carried, rising, passing, falling, falls}

pub record Passed (a : Account) (k last : ℕ) : Type 0 where
  pub marks : everywhere (λ j. leb (get_or a.marks j 0) 3) k ≡ true
  pub zeros : everywhere (zero_at (shown a).readings) k ≡ true
  pub order : never_falling (shown a).readings k ≡ true
  pub carries : last ≡ carried (shown a).readings k

pub passed_none : (a : Account) → Passed a 0 0
unfolding never_falling
passed_none a = record { marks = every_zero _; zeros = every_zero _; order = refl; carries = refl }

-- the mark and the count at boundary k
pub record Here (a : Account) (k mark count : ℕ) : Type 0 where
  pub within : k < suc (days a)
  pub mark_is : mark ≡ get_or a.marks k 0
  pub count_is : count ≡ get_or a.counts k 0

-- the turn at which a loop over the pairs gives this mark and this count, after those in xs
pub here : (a : Account) → Fit a → (xs : List (Bor ℕ × Bor ℕ)) (s t u : Zip (Iter ℕ) (Iter ℕ)) (r : Option (Bor ℕ × Bor ℕ)) →
    iter_rest (zip_first s) ≡ a.marks → iter_rest (zip_second s) ≡ a.counts → Yields (zips fronts fronts) s xs t →
    (p : Bor ℕ × Bor ℕ) → r ≡ Some p → zips fronts fronts t r u → Here a (length xs) p.0.now p.1.now
here a fit xs s t u r first second y p is goes =
    let (in_marks, _, mark, count) = zip_turn a.marks a.counts xs s t u r first second y p is goes in
    record { within = omega (arith, fit.marks); mark_is = mark 0; count_is = count 0 }

module _ {a : Account} {k mark count : ℕ} (h : Here a k mark count) where
  pub passed_reading : {last : ℕ} → Passed a k last → mark ≤ 3 → marks_reading mark ≡ true → last ≤ count → Passed a (suc k) count
  passed_reading p m e l =
      let at : marks_reading (get_or a.marks k 0) ≡ true = rw (← h.mark_is) e in
      record {
        marks = every_more _ k p.marks (le-leb _ _ (omega (arith, h.mark_is)));
        zeros = every_more _ k p.zeros (rw at);
        order = rising _ k p.order at (omega (arith, h.count_is, p.carries));
        carries = rw at h.count_is;
      }

  pub passed_other : {last : ℕ} → Passed a k last → mark ≤ 3 → marks_reading mark ≡ false → count ≡ 0 → Passed a (suc k) last
  passed_other p m e z =
      let at : marks_reading (get_or a.marks k 0) ≡ false = rw (← h.mark_is) e in
      record {
        marks = every_more _ k p.marks (le-leb _ _ (omega (arith, h.mark_is)));
        zeros = every_more _ k p.zeros (rw at (eq-eqb _ _ (sym h.count_is ∙ z)));
        order = passing _ k p.order at;
        carries = rw at p.carries;
      }

  pub bad_mark : 3 < mark → good_boundaries a ≡ false
  unfolding good_marks
  bad_mark l = simp (every_fails (λ j. leb (get_or a.marks j 0) 3) _ k h.within (lt-leb _ _ (omega (arith, h.mark_is))))

  pub bad_count : marks_reading mark ≡ false → (count ≡ 0 → ⊥) → good_boundaries a ≡ false
  unfolding zero_counts
  bad_count e some =
      let at : marks_reading (get_or a.marks k 0) ≡ false = rw (← h.mark_is) e in
      simp (every_fails (zero_at (shown a).readings) _ k h.within (rw at (ne_eqb _ _ (λ z. some (h.count_is ∙ z)))), and-false)

  pub bad_order : {last : ℕ} → Passed a k last → marks_reading mark ≡ true → count < last → good_boundaries a ≡ false
  bad_order p e l =
      let at : marks_reading (get_or a.marks k 0) ≡ true = rw (← h.mark_is) e in
      simp (falls (shown a).readings _ k h.within (falling _ k at (omega (arith, h.count_is, p.carries))), and-false)

pub passed_all : (a : Account) (last : ℕ) → Passed a (suc (days a)) last → good_boundaries a ≡ true
unfolding good_marks zero_counts
passed_all a last p = simp (p.marks, p.zeros, p.order)
