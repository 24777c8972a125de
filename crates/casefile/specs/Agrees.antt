-- The refusals of a case file are the table's own (If a call declines): "A call declines only under a row's condition". Where 13 does not
-- hold of an item, its number is that of the call that takes it.
use Rattle.std.specs.Prelude.{ℕ, ◌+◌, ◌≤◌, ◌≡◌, false, ◌↔◌, List, ltb, pos, length, replicate}
use Rattle.profile.specs.Limits.{bad_span}
use Rattle.common.specs.Rows.{row, if_done}
use Rattle.profile.specs.Answers.{weight_number}
use Rattle.weights.specs.Means.{first_out, some_out}
use Rattle.weights.specs.Weights.{Ruling, ruling}
use Rattle.account.specs.Refusals.{reading_number, cut_number}
use Rattle.casefile.specs.Case.{profile_byte, weekday_byte, mean_offset, first_means, means_of, days_of, calendar_of, readings_offset, reading_offset, reading_boundary, reading_count, cut_offset, cut_boundary, with_readings, with_cuts}
use Rattle.casefile.specs.Faults.{no_fault, fault, first_fault, fails_to_rise, head_fault, mean_fault, reading_fault, cut_fault, span_fault, before_cuts_fault}
use Rattle.casefile.specs.Reader.{fault_number}

-- the weights call over profile, weekday, means and 7 throughout
abbrev pub weighing : List ℕ → Ruling
weighing s = ruling (profile_byte s) (weekday_byte s) (means_of s) (calendar_of s) (replicate (days_of s) 0)

-- rows 1 and 2, as the day weight call has them for a mean in range
abbrev pub day_number : List ℕ → ℕ
day_number s = weight_number (profile_byte s) (weekday_byte s) (pos 0)

-- they come first in a file, then the number that the rest gives
abbrev pub after_day : List ℕ → ℕ → ℕ
after_day s rest = if_done (day_number s) rest (day_number s)

-- item by item, front to back (proofs/Agreed, `file_agrees`)
pub record FileAgrees : Type 0 where
  -- profile, weekday and the count of means: rows 1 and 2, an early end, row 3 (a byte that is not there reads as 0)
  pub head : (s : List ℕ) → fault_number (head_fault s) ≡ after_day s (row (ltb (length s) 4) 13 (row (bad_span (days_of s)) 3 0))
  -- the first i means, all there: row 4, at the first of them out of range
  pub means : (s : List ℕ) (i : ℕ) → mean_offset i ≤ length s →
      first_fault (mean_fault s) i ≡ fault (some_out (first_means s i)) 4 (mean_offset (first_out (first_means s i)))
  -- both, all there: the weights call, which asks row 3 before rows 1 and 2
  pub span : (s : List ℕ) → readings_offset s ≤ length s → fault_number (span_fault s) ≡ after_day s (weighing s).number
  -- a reading that is all there and rises, nothing before it having a fault: the reading call
  pub reading : (s : List ℕ) (i : ℕ) → span_fault s ≡ no_fault → first_fault (reading_fault s) i ≡ no_fault →
      reading_offset s i + 10 ≤ length s → fails_to_rise (reading_boundary s) i ≡ false →
      fault_number (reading_fault s i) ≡ reading_number (with_readings s i) (reading_boundary s i) (reading_count s i)
  -- a cut, likewise: the cut call
  pub cut : (s : List ℕ) (i : ℕ) → before_cuts_fault s ≡ no_fault → first_fault (cut_fault s) i ≡ no_fault →
      cut_offset s i + 2 ≤ length s → fails_to_rise (cut_boundary s) i ≡ false →
      fault_number (cut_fault s i) ≡ cut_number (with_cuts s i) (cut_boundary s i)

-- so such an item has no fault of its own exactly where the call takes it (proofs/Agreed, `item_taken`)
pub record ItemTaken : Type 0 where
  pub reading : (s : List ℕ) (i : ℕ) → span_fault s ≡ no_fault → first_fault (reading_fault s) i ≡ no_fault →
      reading_offset s i + 10 ≤ length s → fails_to_rise (reading_boundary s) i ≡ false →
      (reading_fault s i ≡ no_fault) ↔ (reading_number (with_readings s i) (reading_boundary s i) (reading_count s i) ≡ 0)
  pub cut : (s : List ℕ) (i : ℕ) → before_cuts_fault s ≡ no_fault → first_fault (cut_fault s) i ≡ no_fault →
      cut_offset s i + 2 ≤ length s → fails_to_rise (cut_boundary s) i ≡ false →
      (cut_fault s i ≡ no_fault) ↔ (cut_number (with_cuts s i) (cut_boundary s i) ≡ 0)
