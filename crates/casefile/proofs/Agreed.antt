-- The refusals of a case file are the table's own (If a call declines), and have its numbers. Assumes nothing.
use Prim.Native.Nat.{ℕ, ◌+◌, ◌≤◌, ◌<◌}
use mathlib.Core.Path.{◌≡◌, refl, sym, ◌∙◌, ap}
use mathlib.Core.Bool.{Bool, true, false, cond, not, or-false}
use mathlib.Core.List.{List}
use mathlib.Core.Logic.{◌↔◌}
use native.Mathlib.Omega.{arith}
use native.Mathlib.Decide.{dec_lt}
use borrow.Author.Tests.{lt-ltb, le-ltb, eq-eqb}
use lib.Dec.{ltb, leb, eqb, lit<}
use lib.ListN.{length, get_or, replicate, length-replicate, get_or-eq_default}
use Rattle.profile.specs.Limits.{in_range, profile_count, bad_span}
use Rattle.common.specs.Rows.{row}
use Rattle.common.specs.Below.{somewhere}
use Rattle.weights.specs.Means.{some_out}
use Rattle.weights.specs.Weights.{Ruling, unfit}
use Rattle.weights.proofs.Calendar.{own_named}
use Rattle.casefile.specs.Bytes.{number16}
use Rattle.casefile.specs.Case.{item_at, mean_at, boundary_at, reading_count_at, profile_byte, weekday_byte, means_length, mean_offset, means_of, days_of, calendar_of, readings_offset, cuts_offset, end_of}
use Rattle.casefile.specs.Faults.{Fault, no_fault, refused, ◌before◌, fault, fails_to_rise, first_bytes_fault, boundary_fault, reading_fault_at, section_fault, mean_fault, items_fault, head_fault, readings_fault, cuts_fault, span_fault, before_cuts_fault, sections_fault, fault_of}
use Rattle.casefile.specs.Reader.{fault_number}
use Rattle.casefile.specs.Agrees.{weighing, after_day, FileAgrees, ItemTaken}
use Rattle.casefile.proofs.Faults.{none_both, passes, number_of, number_before, Numbered, numbered, numbered_before, numbered_first, then}
use Rattle.casefile.proofs.Weighing.{means_length_lem, means_out}
use Rattle.casefile.proofs.Sound.{case_reading, case_cut}
use Rattle.casefile.proofs.Together.{together}

-- rows 1 and 2, then the rest
day_first : (profile weekday : Bool) (rest : Fault) → fault_number ((fault profile 1 0 before fault weekday 2 1) before rest) ≡
    cond (eqb (row profile 1 (row weekday 2 0)) 0) (fault_number rest) (row profile 1 (row weekday 2 0))
day_first true weekday rest = refl
day_first false true rest = refl
day_first false false rest = refl

day_early : (profile : Bool) (end : ℕ) (rest : Fault) → fault_number ((fault profile 1 0 before refused 13 end) before rest) ≡ cond (eqb (row profile 1 0) 0) 13 (row profile 1 0)
day_early true end rest = refl
day_early false end rest = refl

-- a byte that is not there reads as 0, which is a profile and a weekday
head_agrees : (s : List ℕ) → fault_number (head_fault s) ≡ after_day s (row (ltb (length s) 4) 13 (row (bad_span (days_of s)) 3 0))
unfolding in_range
head_agrees s = go (dec_lt (length s) 1) (dec_lt (length s) 2)
  where
    no_byte : (at : ℕ) → length s ≤ at → get_or s at 0 ≡ 0
    no_byte at l = get_or-eq_default s 0 {n = at} l

    go : Dec (length s < 1) → Dec (length s < 2) → fault_number (head_fault s) ≡ after_day s (row (ltb (length s) 4) 13 (row (bad_span (days_of s)) 3 0))
    go (yes l) d = rw (lt-ltb (length s) 1 l, lt-ltb (length s) 4 (omega arith), no_byte 0 (omega arith), no_byte 1 (omega arith)) refl
    go (no n) (yes l) =
        rw (le-ltb (length s) 1 (omega arith), lt-ltb (length s) 2 l, lt-ltb (length s) 4 (omega arith), no_byte 1 (omega arith))
        (day_early (leb profile_count (profile_byte s)) (length s) (refused 13 (length s)))
    go (no n) (no h) =
        rw (le-ltb (length s) 1 (omega arith), le-ltb (length s) 2 (omega arith))
        (day_first (leb profile_count (profile_byte s)) (ltb 6 (weekday_byte s)) _ ∙
        ap (λ (rest : ℕ). after_day s rest)
        (number_before (ltb (length s) 4) 13 (length s) _ ∙ ap (row (ltb (length s) 4) 13) (number_of (bad_span (days_of s)) 3 2)))

-- row 3 of the weights call
unfit_is : (s : List ℕ) → unfit (means_of s) (calendar_of s) (replicate (days_of s) 0) ≡ bad_span (days_of s)
unfit_is s =
    let n = means_length_lem s 2 (means_length s) in
    rw (n, length-replicate {A = ℕ} (days_of s) 0, length-replicate {A = ℕ} (days_of s) 7, eq-eqb (days_of s) (days_of s) refl) (or-false _ ∙ or-false _)

span_agrees : (s : List ℕ) → readings_offset s ≤ length s → fault_number (span_fault s) ≡ after_day s (weighing s).number
unfolding in_range
span_agrees s l =
    rw (le-ltb (length s) 1 (omega arith), le-ltb (length s) 2 (omega arith), le-ltb (length s) 4 (omega arith), means_out s 2 (means_length s) l, unfit_is s, own_named (days_of s))
    (go (leb profile_count (profile_byte s)) (ltb 6 (weekday_byte s)) (bad_span (days_of s)) (some_out (means_of s)) _ _ _ _ _)
  where
    go : (profile weekday span out : Bool) (at index : ℕ) (x y z : List ℕ) →
        fault_number (((fault profile 1 0 before fault weekday 2 1) before fault span 3 2) before fault out 4 at) ≡
        cond (eqb (row profile 1 (row weekday 2 0)) 0)
        (row {A = Ruling} span (record { number = 3; place = 0; memory = x })
        (row profile (record { number = 1; place = 0; memory = y })
        (row weekday (record { number = 2; place = 0; memory = y })
        (row out (record { number = 4; place = index; memory = y })
        (record { number = 0; place = 0; memory = z }))))).number
        (row profile 1 (row weekday 2 0))
    go true weekday span out at index x y z = refl
    go false true span out at index x y z = refl
    go false false true out at index x y z = refl
    go false false false true at index x y z = refl
    go false false false false at index x y z = refl

pub file_agrees : FileAgrees
file_agrees =
    together head_agrees (λ s. means_out s 2) span_agrees case_reading λ s i e f.
    let (span, readings) = none_both (span_fault s) (readings_fault s) e in
    case_cut s i span (passes (ltb (length s) (readings_offset s + 2)) 13 (length s) _ readings).1 f

boundary_numbered : (width : ℕ) (s : List ℕ) (at n i : ℕ) → Numbered (boundary_fault width s at n i)
boundary_numbered width s at n i =
    then (ltb (length s) (item_at width at i + width)) 13 _ _ (lit< tt)
    (then (fails_to_rise (boundary_at width s at) i) 13 _ _ (lit< tt)
    (numbered (ltb n (boundary_at width s at i)) 6 _ (lit< tt)))

reading_numbered : (s : List ℕ) (at n i : ℕ) → Numbered (reading_fault_at s at n i)
reading_numbered s at n i =
    numbered_before (boundary_fault 10 s at n i) _ (boundary_numbered 10 s at n i)
    (then (somewhere (λ j. ltb (reading_count_at s at i) (reading_count_at s at j)) i) 8 _ _ (lit< tt)
    (numbered _ 9 _ (lit< tt)))

section_numbered : (s : List ℕ) (at : ℕ) (item : ℕ → Fault) → ((i : ℕ) → Numbered (item i)) → Numbered (section_fault s at item)
section_numbered s at item all = then (ltb (length s) (at + 2)) 13 _ _ (lit< tt) (numbered_first item all (number16 s at))

-- every fault of a file has a number of the table
pub file_numbered : (s : List ℕ) → Numbered (fault_of s)
file_numbered s =
    numbered_before (sections_fault s) _ (numbered_before (before_cuts_fault s) _ (numbered_before (span_fault s) _ (numbered_before (head_fault s) _ head means) readings) cuts)
    (numbered (ltb (end_of s) (length s)) 13 _ (lit< tt))
  where
    head : Numbered (head_fault s)
    head =
        numbered_before (first_bytes_fault s 0) _
        (then (ltb (length s) 1) 13 _ _ (lit< tt)
        (then (leb profile_count (profile_byte s)) 1 _ _ (lit< tt)
        (then (ltb (length s) 2) 13 _ _ (lit< tt)
        (numbered (ltb 6 (weekday_byte s)) 2 _ (lit< tt)))))
        (then (ltb (length s) 4) 13 _ _ (lit< tt) (numbered (bad_span (days_of s)) 3 _ (lit< tt)))

    means : Numbered (items_fault s 2 (mean_fault s))
    means = numbered_first (mean_fault s) (λ i. then (ltb (length s) (mean_offset i + 2)) 13 _ _ (lit< tt) (numbered (not (in_range (mean_at s 2 i))) 4 _ (lit< tt))) (means_length s)

    readings : Numbered (readings_fault s)
    readings = section_numbered s (readings_offset s) _ (reading_numbered s (readings_offset s) (days_of s))

    cuts : Numbered (cuts_fault s)
    cuts = section_numbered s (cuts_offset s) _ (boundary_numbered 2 s (cuts_offset s) (days_of s))

taken : (f : Fault) (number : ℕ) → Numbered f → fault_number f ≡ number → (f ≡ no_fault) ↔ (number ≡ 0)
taken f number some is = (λ none. sym is ∙ ap fault_number none, λ zero. some (is ∙ zero))

as_agreed : FileAgrees → ItemTaken
as_agreed agrees =
    record {
      reading = λ s i e f long rises. taken _ _ (reading_numbered s (readings_offset s) (days_of s) i) (agrees.reading s i e f long rises);
      cut = λ s i e f long rises. taken _ _ (boundary_numbered 2 s (cuts_offset s) (days_of s) i) (agrees.cut s i e f long rises);
    }

pub item_taken : ItemTaken
item_taken = as_agreed file_agrees
