-- What specs/Agrees says of a file's refusals (If a call declines), item by item, as one record. It stands apart from the proofs of
-- the items, since must-fail edits change a field here. Assumes nothing.
use Prim.Native.Nat.{ℕ, ◌+◌, ◌≤◌}
use mathlib.Core.Path.{◌≡◌}
use mathlib.Core.Bool.{false}
use mathlib.Core.List.{List}
use lib.Dec.{ltb}
use lib.ListN.{length}
use Rattle.profile.specs.Limits.{bad_span}
use Rattle.common.specs.Rows.{row}
use Rattle.weights.specs.Means.{first_out, some_out}
use Rattle.account.specs.Refusals.{reading_number, cut_number}
use Rattle.casefile.specs.Case.{mean_offset, first_means, days_of, readings_offset, reading_offset, reading_boundary, reading_count, cut_offset, cut_boundary, with_readings, with_cuts}
use Rattle.casefile.specs.Faults.{no_fault, fault, first_fault, fails_to_rise, head_fault, mean_fault, reading_fault, cut_fault, span_fault, before_cuts_fault}
use Rattle.casefile.specs.Reader.{fault_number}
use Rattle.casefile.specs.Agrees.{weighing, after_day, FileAgrees}

pub together : ((s : List ℕ) → fault_number (head_fault s) ≡ after_day s (row (ltb (length s) 4) 13 (row (bad_span (days_of s)) 3 0)))
    → ((s : List ℕ) (i : ℕ) → mean_offset i ≤ length s → first_fault (mean_fault s) i ≡ fault (some_out (first_means s i)) 4 (mean_offset (first_out (first_means s i))))
    → ((s : List ℕ) → readings_offset s ≤ length s → fault_number (span_fault s) ≡ after_day s (weighing s).number)
    → ((s : List ℕ) (i : ℕ) → span_fault s ≡ no_fault → first_fault (reading_fault s) i ≡ no_fault → reading_offset s i + 10 ≤ length s → fails_to_rise (reading_boundary s) i ≡ false
    → fault_number (reading_fault s i) ≡ reading_number (with_readings s i) (reading_boundary s i) (reading_count s i))
    → ((s : List ℕ) (i : ℕ) → before_cuts_fault s ≡ no_fault → first_fault (cut_fault s) i ≡ no_fault → cut_offset s i + 2 ≤ length s → fails_to_rise (cut_boundary s) i ≡ false
    → fault_number (cut_fault s i) ≡ cut_number (with_cuts s i) (cut_boundary s i))
    → FileAgrees
together head means span reading cut = record { head = head; means = means; span = span; reading = reading; cut = cut }
