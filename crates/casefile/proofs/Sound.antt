-- A file that the reader takes names an account that every account call finds fitting and sound (Account and its calls, Case file).
-- Assumes nothing.
use Prim.Native.Nat.{ℕ, zero, suc, ◌+◌, ◌-◌, ◌≤◌, ◌<◌}
use mathlib.Core.Path.{◌≡◌, refl, sym, ◌∙◌, ap, subst, subst⁻¹}
use mathlib.Core.Bool.{Bool, true, false, cond}
use mathlib.Core.List.{List}
use native.Mathlib.Omega.{arith}
use native.Mathlib.Nat.{le_refl}
use borrow.Author.Tests.{ltb-false, le-ltb, le-leb, eq-eqb, eqb-true}
use lib.Dec.{ltb, eqb}
use lib.ListN.{length, length-replicate}
use Rattle.profile.specs.Limits.{span_most}
use Rattle.weights.specs.Weights.{weights_of}
use Rattle.weights.proofs.Span.{weights_length}
use Rattle.common.specs.Below.{somewhere}
use Rattle.account.specs.Stands.{Stands, nothing}
use Rattle.account.specs.Account.{Account, days, shown, unfit, good_weights, energy_most}
use Rattle.common.specs.Rows.{row}
use Rattle.account.specs.Refusals.{reading_rows, reading_number, cut_rows, cut_number}
use Rattle.account.specs.Calls.{cleared}
use Rattle.common.proofs.Below.{clash, refuted, none_at}
use Rattle.account.proofs.Sound.{sound_parts}
use Rattle.account.specs.Slices.{Checked}
use Rattle.account.proofs.Rows.{rows_through}
use Rattle.account.proofs.Keeps.{Holds, open_keeps, reading_keeps, cut_keeps}
use Rattle.account.proofs.Shows.{zeros}
use Rattle.casefile.specs.Case.{item_at, boundary_at, reading_count_at, readings_put, cuts_put, profile_byte, weekday_byte, means_length, means_of, days_of, calendar_of, readings_offset, readings_length, reading_offset, reading_boundary, reading_count, cuts_offset, cuts_length, cut_offset, cut_boundary, empty_case, with_readings, with_cuts, account_of}
use Rattle.casefile.specs.Faults.{no_fault, first_fault, fails_to_rise, cut_fault_at, reading_fault_at, reading_fault, cut_fault, span_fault}
use Rattle.casefile.specs.Reader.{fault_number, CaseSound, CaseTaken}
use Rattle.casefile.proofs.Faults.{number_of, number_before, none_both, none_before, first_few}
use Rattle.casefile.proofs.Kept.{Kept, kept_on, readings_kept, cuts_kept, uncut}
use Rattle.casefile.proofs.Items.{above, before, sane, SaneReading, sane_reading}
use Rattle.casefile.proofs.Ordered.{risen, Orderly, more, reading_rows_lem}
use Rattle.casefile.proofs.Weighing.{means_in, means_length_lem, weights_good}
use Rattle.casefile.proofs.Chained.{span_of, clean_of}

-- counts do not fall
holds_up : (s : List ℕ) (at n i : ℕ) → SaneReading s at n i → before (reading_count_at s at) i ≤ reading_count_at s at i
holds_up s at n zero g = le_refl (reading_count_at s at 0)
holds_up s at n (suc i) g =
    ltb-false (reading_count_at s at (suc i)) (reading_count_at s at i) (none_at (λ j. ltb (reading_count_at s at (suc i)) (reading_count_at s at j)) (suc i) g.ordered i (omega arith))

-- with the first i readings of a section put into an account of n days in which nothing stood
pub record Read (a : Account) (s : List ℕ) (at i : ℕ) : Type 0 where
  checked : Checked (readings_put a s at i)
  orderly : Orderly (boundary_at 10 s at) (reading_count_at s at) i (shown (readings_put a s at i)).readings

module _ {a : Account} {s : List ℕ} {at n : ℕ} (long : days a ≡ n) where
  -- .. the number of reading i, where it is all there and rises, is that of the rows that the table asks
  reading_number_lem : (i : ℕ) → Read a s at i → item_at 10 at i + 10 ≤ length s → fails_to_rise (boundary_at 10 s at) i ≡ false
      → fault_number (reading_fault_at s at n i) ≡ reading_rows (days (readings_put a s at i)) (shown (readings_put a s at i)) (boundary_at 10 s at i) (reading_count_at s at i)
  reading_number_lem i r whole rising =
      let b = readings_put a s at i in
      rw (le-ltb (length s) (item_at 10 at i + 10) whole, rising, ap length (readings_kept a s at i).weights_are ∙ long)
      (number_before (ltb n (boundary_at 10 s at i)) 6 _ _ ∙
      ap (row (ltb n (boundary_at 10 s at i)) 6)
      (number_before (somewhere (λ j. ltb (reading_count_at s at i) (reading_count_at s at j)) i) 8 _ _ ∙
      ap (row (somewhere (λ j. ltb (reading_count_at s at i) (reading_count_at s at j)) i) 8) (number_of (ltb energy_most (reading_count_at s at i - reading_count_at s at 0)) 9 _)) ∙
      sym (reading_rows_lem (shown b) r.orderly rising n))

  pub readings_sound : Holds a.weights nothing a → (i : ℕ) → first_fault (reading_fault_at s at n) i ≡ no_fault → Read a s at i
  unfolding readings_put first_fault
  readings_sound h zero f =
      let none : (j : ℕ) → (shown a).readings.at j ≡ false = λ j. ap (λ (st : Stands). st.readings.at j) h.shows in
      record {
        checked = h.checked;
        orderly =
            record {
              below = λ j t. absurd (clash t (none j));
              from = λ j t. absurd (clash t (none j));
              most = λ j t. absurd (clash t (none j));
              each = λ m l. absurd (omega arith);
            };
      }
  readings_sound h (suc i) f =
      let m = none_both (first_fault (reading_fault_at s at n) i) (reading_fault_at s at n i) f in
      let r = readings_sound h i m.0 in
      let g = sane_reading s at n i m.1 in
      let b = readings_put a s at i in
      let k = reading_keeps b r.checked (boundary_at 10 s at i) (reading_count_at s at i) (sym (reading_number_lem i r g.boundary.long g.boundary.rising) ∙ ap fault_number m.1) in
      record { checked = k.checked; orderly = subst⁻¹ (λ (st : Stands). Orderly (boundary_at 10 s at) (reading_count_at s at) (suc i) st.readings) k.shows (more (shown b) r.orderly g.boundary.rising (holds_up s at n i g)) }

  -- .. and that of the call
  pub reading_agrees : (i : ℕ) → Read a s at i → item_at 10 at i + 10 ≤ length s → fails_to_rise (boundary_at 10 s at) i ≡ false
      → fault_number (reading_fault_at s at n i) ≡ reading_number (readings_put a s at i) (boundary_at 10 s at i) (reading_count_at s at i)
  reading_agrees i r whole rising = reading_number_lem i r whole rising ∙ sym (rows_through (readings_put a s at i) _ r.checked)

-- with the first i cuts of a section put into an account without a cut
pub record Cut (a : Account) (s : List ℕ) (at i : ℕ) : Type 0 where
  checked : Checked (cuts_put a s at i)
  below : (j : ℕ) → (shown (cuts_put a s at i)).cut j ≡ true → j < above (boundary_at 2 s at) i

module _ {a : Account} {s : List ℕ} {at n : ℕ} (long : days a ≡ n) where
  -- .. the number of cut i, likewise
  cut_number_lem : (i : ℕ) → Cut a s at i → item_at 2 at i + 2 ≤ length s → fails_to_rise (boundary_at 2 s at) i ≡ false
      → fault_number (cut_fault_at s at n i) ≡ cut_rows (days (cuts_put a s at i)) (shown (cuts_put a s at i)) (boundary_at 2 s at i)
  cut_number_lem i p whole rising =
      let c = cuts_put a s at i in
      let b = boundary_at 2 s at i in
      let free = refuted ((shown c).cut b) (λ t. omega (arith, p.below b t, risen (boundary_at 2 s at) i rising)) in
      rw (le-ltb (length s) (item_at 2 at i + 2) whole, rising, ap length (cuts_kept a s at i).weights_are ∙ long, free) (number_of (ltb n b) 6 _)

  pub cuts_sound : Checked a → ((j : ℕ) → (shown a).cut j ≡ false) → (i : ℕ) → first_fault (cut_fault_at s at n) i ≡ no_fault → Cut a s at i
  unfolding cuts_put first_fault
  cuts_sound h none zero f = record { checked = h; below = λ j t. absurd (clash t (none j)) }
  cuts_sound h none (suc i) f =
      let m = none_both (first_fault (cut_fault_at s at n) i) (cut_fault_at s at n i) f in
      let p = cuts_sound h none i m.0 in
      let c = sane 2 s at n i m.1 in
      let k = cut_keeps (cuts_put a s at i) p.checked (boundary_at 2 s at i) (sym (cut_number_lem i p c.long c.rising) ∙ ap fault_number m.1) in
      record { checked = k.checked; below = λ j t. next j (risen (boundary_at 2 s at) i c.rising) (p.below j) (eqb j (boundary_at 2 s at i)) refl (ap (λ (st : Stands). st.cut j) (sym k.shows) ∙ t) }
    where
      next : (j : ℕ) → above (boundary_at 2 s at) i ≤ boundary_at 2 s at i → ((shown (cuts_put a s at i)).cut j ≡ true → j < above (boundary_at 2 s at) i) → (t : Bool) → eqb j (boundary_at 2 s at i) ≡ t
          → cond t true ((shown (cuts_put a s at i)).cut j) ≡ true → j < boundary_at 2 s at i + 1
      next j up old true e t = omega (arith, eqb-true j (boundary_at 2 s at i) e)
      next j up old false e t = omega (arith, old t)

  pub cut_agrees : (i : ℕ) → Cut a s at i → item_at 2 at i + 2 ≤ length s → fails_to_rise (boundary_at 2 s at) i ≡ false
      → fault_number (cut_fault_at s at n i) ≡ cut_number (cuts_put a s at i) (boundary_at 2 s at i)
  cut_agrees i p whole rising = cut_number_lem i p whole rising ∙ sym (rows_through (cuts_put a s at i) _ p.checked)

-- the account of the layout: over good weights, and for n days
span_weights : (s : List ℕ) → span_fault s ≡ no_fault → good_weights (weights_of (profile_byte s) (weekday_byte s) (means_of s) (calendar_of s)) ≡ true
span_weights s e =
    let c = span_of s 0 e in
    weights_good _ _ _ _ (record { profile_known = omega (arith, c.first.profile_known); weekday_known = omega (arith, c.first.weekday_known); means_in_range = means_in s 2 (means_length s) c.means })

empty_days : (s : List ℕ) → days (empty_case s) ≡ days_of s
empty_days s = weights_length (profile_byte s) (weekday_byte s) (means_of s) (calendar_of s) ∙ ap (λ (n : ℕ). n - 3) (means_length_lem s 2 (means_length s))

-- as long as the file's days ask, with all readings and with all cuts
pub record CaseLong (s : List ℕ) (a : Account) : Type 0 where
  pub days_are : days a ≡ days_of s
  pub marks_long : length a.marks ≡ days_of s + 1
  pub counts_long : length a.counts ≡ days_of s + 1

kept_long : (s : List ℕ) (a : Account) → Kept (empty_case s) a → CaseLong s a
kept_long s a k =
    record {
      days_are = ap length k.weights_are ∙ empty_days s;
      marks_long = k.marks_long ∙ length-replicate (days_of s + 1) 0;
      counts_long = k.counts_long ∙ length-replicate (days_of s + 1) 0;
    }

read_long : (s : List ℕ) → CaseLong s (with_readings s (readings_length s))
read_long s = kept_long s _ (readings_kept (empty_case s) s (readings_offset s) (readings_length s))

pub case_long : (s : List ℕ) → CaseLong s (account_of s)
case_long s =
    kept_long s (account_of s)
    (kept_on (readings_kept (empty_case s) s (readings_offset s) (readings_length s)) (cuts_kept (with_readings s (readings_length s)) s (cuts_offset s) (cuts_length s)))

-- before the first reading nothing stands
empty_holds : (s : List ℕ) → span_fault s ≡ no_fault → Holds (empty_case s).weights nothing (empty_case s)
empty_holds s e =
    let same : cleared (empty_case s) ≡ empty_case s = rw length-replicate refl in
    let g = (span_of s 0 e).span in
    let d = empty_days s in
    let long = length-replicate {A = ℕ} (days_of s + 1) 0 in
    let fits : unfit (empty_case s) ≡ false =
    simp (
      le-leb 1 (days (empty_case s)) (omega (arith, g.least)),
      le-leb (days (empty_case s)) span_most (omega (arith, g.most)),
      eq-eqb (length (empty_case s).marks) (days (empty_case s) + 1) (omega arith),
    ) in
    subst (Holds (empty_case s).weights nothing) same (open_keeps (empty_case s) (simp (fits, span_weights s e)))

case_read : (s : List ℕ) → span_fault s ≡ no_fault → (i : ℕ) → first_fault (reading_fault s) i ≡ no_fault → Read (empty_case s) s (readings_offset s) i
case_read s e i f = readings_sound (empty_days s) (empty_holds s e) i f

cuts_read : (s : List ℕ) → span_fault s ≡ no_fault → first_fault (reading_fault s) (readings_length s) ≡ no_fault → (i : ℕ) → first_fault (cut_fault s) i ≡ no_fault
    → Cut (with_readings s (readings_length s)) s (cuts_offset s) i
cuts_read s e r i f =
    cuts_sound (read_long s).days_are (case_read s e (readings_length s) r).checked
    (uncut (empty_case s) (λ j. rw (zeros (days_of s + 1) j) refl) s (readings_offset s) (readings_length s)) i f

-- an item that is all there and rises has the number of the call that takes it
pub case_reading : (s : List ℕ) (i : ℕ) → span_fault s ≡ no_fault → first_fault (reading_fault s) i ≡ no_fault → reading_offset s i + 10 ≤ length s → fails_to_rise (reading_boundary s) i ≡ false
    → fault_number (reading_fault s i) ≡ reading_number (with_readings s i) (reading_boundary s i) (reading_count s i)
case_reading s i e f = reading_agrees (empty_days s) i (case_read s e i f)

pub case_cut : (s : List ℕ) (i : ℕ) → span_fault s ≡ no_fault → first_fault (reading_fault s) (readings_length s) ≡ no_fault → first_fault (cut_fault s) i ≡ no_fault
    → cut_offset s i + 2 ≤ length s → fails_to_rise (cut_boundary s) i ≡ false → fault_number (cut_fault s i) ≡ cut_number (with_cuts s i) (cut_boundary s i)
case_cut s i e r f = cut_agrees (read_long s).days_are i (cuts_read s e r i f)

pub case_sound : CaseSound
case_sound s e =
    let c = clean_of s e in
    let k = cuts_read s c.span c.readings (cuts_length s) c.cuts in
    (k.checked.fits, k.checked.sound, (case_long s).days_are)

pub case_taken : CaseTaken
case_taken s e =
    let c = clean_of s e in
    let start = empty_holds s c.span in (
      rw (start.checked.fits, (sound_parts (empty_case s) start.checked.sound).weights) refl,
      λ i l.
          let f = none_before (reading_fault s) (readings_length s) i l c.readings in
          let g = (sane_reading s (readings_offset s) (days_of s) i f).boundary in
          sym (case_reading s i c.span (first_few (reading_fault s) (readings_length s) i l c.readings) g.long g.rising) ∙ ap fault_number f,
      λ i l.
          let f = none_before (cut_fault s) (cuts_length s) i l c.cuts in
          let g = sane 2 s (cuts_offset s) (days_of s) i f in
          sym (case_cut s i c.span c.readings (first_few (cut_fault s) (cuts_length s) i l c.cuts) g.long g.rising) ∙ ap fault_number f,
    )
