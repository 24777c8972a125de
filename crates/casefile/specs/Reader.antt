-- The reader of case files (Case file, If a call declines): it "fills weights, marks and counts, slices of lengths 1,096, 1,097 and 1,097,
-- the rest zero. It returns n." "After a fault every slice it was lent is zero", "unless the lengths were unfit".
use Rattle.std.specs.Prelude.{ℕ, ◌+◌, ◌<◌, ◌≡◌, Bool, true, false, cond, not, ◌||◌, List, eqb, length}
use Rattle.common.specs.Rows.{if_done, zeros, filled}
use Rattle.profile.specs.Limits.{span_most}
use Rattle.account.specs.Account.{Account, account, unfit, sound}
use Rattle.account.specs.Account as accounts
use Rattle.account.specs.Refusals.{open_number, reading_number, cut_number}
use Rattle.casefile.specs.Case.{account_of, days_of, empty_case, with_readings, with_cuts, readings_length, reading_boundary, reading_count, cuts_length, cut_boundary}
use Rattle.casefile.specs.Faults.{Fault, no_fault, refused, fault_of}

-- the number and the place of a fault; 0 is done
abbrev pub fault_number : Fault → ℕ
fault_number no_fault = 0
fault_number (refused r at) = r

abbrev pub fault_place : Fault → ℕ
fault_place no_fault = 0
fault_place (refused r at) = at

-- a slice is not as long as the reader asks: 1,096 weights, 1,097 marks, 1,097 counts
abbrev pub unfit_slices : Account → Bool
unfit_slices a =
    not (eqb (length a.weights) span_most) ||
    not (eqb (length a.marks) (span_most + 1)) ||
    not (eqb (length a.counts) (span_most + 1))

-- "The file reader checks slice lengths first" (3 at 0), then the file
abbrev pub verdict : List ℕ → Account → Fault
verdict s lent = cond (unfit_slices lent) (refused 3 0) (fault_of s)

abbrev pub full : Account → Account
full a = account (filled span_most a.weights) (filled (span_most + 1) a.marks) (filled (span_most + 1) a.counts)

abbrev pub all_zero : Account → Account
all_zero a = account (zeros a.weights) (zeros a.marks) (zeros a.counts)

abbrev pub slices_after : List ℕ → Account → Account
slices_after s lent =
    cond (unfit_slices lent) lent
    (if_done (fault_number (fault_of s)) (full (account_of s))
    (all_zero lent))

pub record ReadMet (file : List ℕ) (lent : Account) (answered placed given : ℕ) (after : Account) (kept : List ℕ) : Type 0 where
  pub answers : answered ≡ fault_number (verdict file lent)
  pub places : placed ≡ fault_place (verdict file lent)
  pub gives : given ≡ if_done (fault_number (verdict file lent)) (days_of file) 0
  pub writes : after ≡ slices_after file lent
  pub stays : kept ≡ file

-- a file that the reader takes gives an account that every account call finds fitting and sound, and it has n days (proofs/Sound, `case_sound`)
abbrev pub CaseSound : Type 0
CaseSound = (s : List ℕ) → fault_of s ≡ no_fault → (unfit (account_of s) ≡ false) × (sound (account_of s) ≡ true) × (accounts.days (account_of s) ≡ days_of s)

-- .. and open, and each of its readings and cuts in turn, is a call that the account takes (`case_taken`)
abbrev pub CaseTaken : Type 0
CaseTaken =
    (s : List ℕ) → fault_of s ≡ no_fault →
    (open_number (empty_case s) ≡ 0) ×
    ((i : ℕ) → i < readings_length s → reading_number (with_readings s i) (reading_boundary s i) (reading_count s i) ≡ 0) ×
    ((i : ℕ) → i < cuts_length s → cut_number (with_cuts s i) (cut_boundary s i) ≡ 0)
