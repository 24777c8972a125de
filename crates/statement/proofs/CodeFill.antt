-- All reading intervals, one after the other (Account and its calls, "Statement"): the first reading, one interval more, the last reading.
-- Assumes nothing.
use mathlib.Core.Path.{◌≡◌, sym, subst, ◌∙◌}
use mathlib.Core.Bool.{true, false}
use Prim.Native.Nat.{ℕ, suc, ◌+◌, ◌≤◌, ◌<◌}
use native.Mathlib.Numerals.{add-one}
use native.Mathlib.Omega.{arith}
use lib.ListN.{get_or, length}
use native.Mathlib.Decide.{ℕ_discrete}
use borrow.Author.Rules.{rules}
use Rattle.std.specs.Prelude.{Option, Some, None, MatchOption, IsSome}
use Rattle.common.specs.Below.{last}
use Rattle.account.specs.Account.{Account, days, shown}
use Rattle.account.specs.Slices.{Checked, Fit}
use Rattle.common.proofs.Below.{IsFirst, IsLast, clash, found, first_is, last_is}
use Rattle.statement.specs.declared.Progress.{Progress}
use Rattle.statement.specs.Parts.{Outputs}
use Rattle.statement.specs.Progress.{NoReading, NextReading, Written, Fillable, Filled}
use Rattle.statement.proofs.CodeSound.{checked_fit}
use Rattle.statement.proofs.CodeWritten.{written_first, written_last}

-- the parts up to the reading at which the next part starts are written
pub record Reached (a : Account) (o : Outputs) (d : Progress) : Type 0 where
  pub checked : Checked a
  pub within : d.start ≤ days a
  pub here : (shown a).readings.at d.start ≡ true
  pub so_far : Written a.weights (shown a) (d.start + 1) o d

-- where there is a reading, the search from boundary 0 finds one
pub first_there : {a : Account} {o : Outputs} → Fillable a o → (r : Option ℕ) → MatchOption r (NoReading a.marks 0) (NextReading a.marks 0) → IsSome r
first_there h (Some p) is = search rules
first_there {a} h None missing =
    let some = found (shown a).readings.at (suc (days a)) h.has_reading in
    absurd (clash some.2 (missing.none some.0 (omega arith) (omega (arith, some.1, checked_fit a h.checked))))

pub reached_first : {a : Account} {o : Outputs} → Fillable a o → (p : ℕ) → NextReading a.marks 0 p →
    Reached a o (record { start = p; count = get_or a.counts p 0; parts = 0 })
reached_first {a} {o} h p is =
    let within : p ≤ days a = omega (arith, is.within, checked_fit a h.checked) in
    let first_one : IsFirst (shown a).readings.at (suc (days a)) p = record { below = omega arith; holds = is.there; none_before = λ j less. is.none_before j (omega arith) less } in
    record {
      checked = h.checked;
      within = within;
      here = is.there;
      so_far = written_first a.weights (shown a) p o (first_is (shown a).readings.at first_one) is.there h.clear;
    }

module _ {a : Account} {o : Outputs} {d : Progress} (h : Reached a o d) where
  pub reached_fit : Fit a
  reached_fit = checked_fit a h.checked

  module _ {q : ℕ} (is : NextReading a.marks (d.start + 1) q) where
    module _ {o' : Outputs} {d' : Progress} (done : Written a.weights (shown a) (q + 1) o' d') where
      pub starts_there : d'.start ≡ q
      unfolding last
      starts_there = done.start ∙ rw (add-one q, is.there)

      pub reached_next : Reached a o' d'
      reached_next =
          record {
            checked = h.checked;
            within = omega (arith, starts_there, is.within, reached_fit);
            here = rw starts_there is.there;
            so_far = subst (λ (m : ℕ). Written a.weights (shown a) (m + 1) o' d') (sym starts_there) done;
          }

  pub reached_last : NoReading a.marks (d.start + 1) → Filled a o d.parts
  reached_last missing =
      let last_one : IsLast (shown a).readings.at (suc (days a)) d.start = record { below = omega (arith, h.within); holds = h.here; none_after = λ j low high. missing.none j (omega arith) (omega (arith, reached_fit)) } in
      let all = written_last a.weights (shown a) d.start o d h.so_far (last_is (shown a).readings.at last_one) h.within in
      record { holds = all.0; in_number = all.1 }

-- the same with no reading between there and boundary q
pub record Below (a : Account) (q : ℕ) (o : Outputs) (d : Progress) : Type 0 where
  pub reached : Reached a o d
  pub below : d.start < q
  pub none : (j : ℕ) → d.start < j → j < q → (shown a).readings.at j ≡ false

pub below_first : {a : Account} {o : Outputs} → Fillable a o → (p : ℕ) → NextReading a.marks 0 p →
    Below a (p + 1) o (record { start = p; count = get_or a.counts p 0; parts = 0 })
below_first h p is = record { reached = reached_first h p is; below = omega arith; none = λ j low high. absurd (omega (arith, low, high)) }

module _ {a : Account} {q : ℕ} {o : Outputs} {d : Progress} (h : Below a q o d) where
  pub next_here : q < length a.marks → (shown a).readings.at q ≡ true → NextReading a.marks (d.start + 1) q
  next_here within there = record { after = omega (arith, h.below); none_before = λ j low high. h.none j (omega (arith, low)) high; within = within; there = there }

  pub below_next : {o' : Outputs} {d' : Progress} → q < length a.marks → (shown a).readings.at q ≡ true → Written a.weights (shown a) (q + 1) o' d' → Below a (q + 1) o' d'
  below_next within there done =
      let is = next_here within there in
      let at = starts_there h.reached is done in
      record { reached = reached_next h.reached is done; below = omega (arith, at); none = λ j low high. absurd (omega (arith, at, low, high)) }

  pub below_bare : (shown a).readings.at q ≡ false → Below a (q + 1) o d
  below_bare bare = record { reached = h.reached; below = omega (arith, h.below); none = go }
    where
      go : (j : ℕ) → d.start < j → j < q + 1 → (shown a).readings.at j ≡ false
      go j low high = last_or (ℕ_discrete j q)
        where
          last_or : Dec (j ≡ q) → (shown a).readings.at j ≡ false
          last_or (yes e) = rw e bare
          last_or (no n) = h.none j low (omega (arith, high, n))

  pub below_last : length a.marks ≤ q → Filled a o d.parts
  below_last past = reached_last h.reached (record { none = λ j low high. h.none j (omega (arith, low)) (omega (arith, high, past)) })
