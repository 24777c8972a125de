-- The longest file (Case file): boundaries rise and are at most n, so that a section has at most n+1 of them. Assumes nothing.
use Prim.Native.Nat.{ℕ, zero, suc, ◌+◌, ◌≤◌, ◌<◌}
use mathlib.Core.Path.{◌≡◌}
use mathlib.Core.Bool.{false}
use mathlib.Core.List.{List}
use native.Mathlib.Omega.{arith}
use borrow.Author.Tests.{ltb-false}
use lib.Dec.{ltb}
use lib.ListN.{length}
use Rattle.casefile.specs.Case.{boundary_at, days_of, readings_length, readings_offset, cuts_length, cuts_offset, end_of}
use Rattle.casefile.specs.Faults.{no_fault, first_fault, fails_to_rise, cut_fault_at, reading_fault_at, fault_of}
use Rattle.casefile.specs.Length.{file_most, LongestFile}
use Rattle.casefile.proofs.Faults.{none_before, no_fault_lem}
use Rattle.casefile.proofs.Items.{Sane, sane, sane_reading}
use Rattle.casefile.proofs.Ordered.{risen}
use Rattle.casefile.proofs.Chained.{span_of, clean_of}
use Rattle.casefile.proofs.LongestTaken.{taken}

-- boundaries that rise are at least their numbers
at_least : (boundary : ℕ → ℕ) (i : ℕ) → ((j : ℕ) → j < suc i → fails_to_rise boundary j ≡ false) → i ≤ boundary i
at_least boundary zero up = omega arith
at_least boundary (suc i) up = omega (arith, at_least boundary i (λ j l. up j (omega arith)), risen boundary (suc i) (up (suc i) (omega arith)))

-- so at most n+1 items have no fault
few : (width : ℕ) (s : List ℕ) (at n m : ℕ) → ((j : ℕ) → j < m → Sane width s at n j) → m ≤ n + 1
few width s at n zero good = omega arith
few width s at n (suc m) good = omega (arith, at_least (boundary_at width s at) m (λ j l. (good j l).rising), (good m (omega arith)).inside)

pub few_readings : (s : List ℕ) (at n m : ℕ) → first_fault (reading_fault_at s at n) m ≡ no_fault → m ≤ n + 1
few_readings s at n m e = few 10 s at n m (λ j l. (sane_reading s at n j (none_before (reading_fault_at s at n) m j l e)).boundary)

pub few_cuts : (s : List ℕ) (at n m : ℕ) → first_fault (cut_fault_at s at n) m ≡ no_fault → m ≤ n + 1
few_cuts s at n m e = few 2 s at n m (λ j l. sane 2 s at n j (none_before (cut_fault_at s at n) m j l e))

-- no file is longer
at_most : (s : List ℕ) → fault_of s ≡ no_fault → length s ≤ file_most
at_most s e =
    let c = clean_of s e in
    omega (
      arith,
      (span_of s 0 c.span).span.most,
      few_readings s (readings_offset s) (days_of s) (readings_length s) c.readings,
      few_cuts s (cuts_offset s) (days_of s) (cuts_length s) c.cuts,
      ltb-false (end_of s) (length s) (no_fault_lem (ltb (end_of s) (length s)) 13 (end_of s) c.ended),
    )

pub longest : LongestFile
longest = record { most = at_most; reached = taken }
