-- The writer of case files (K2): "write the case file into a lent slice and return its length. .. Bytes past the length are untouched. Unfit input is refused by 3, 1,
-- 2, 4 and 5 in that order, memory as in their rows. It refuses with 15 a slice shorter than the file, after all other checks, untouched."
use Rattle.std.specs.Prelude.{ℕ, ◌-◌, ◌≡◌, not, Result, Ok, Err, List, ◌++◌, leb, ltb, ℤ, length, drop, replicate}
use Rattle.common.specs.Rows.{row, zeros}
use Rattle.common.specs.Refusals.{at_zero}
use Rattle.common.specs.declared.refusal.Fault.{Fault}
use Rattle.common.specs.declared.refusal.Refusal.TheVariants.{NoProfile, NoWeekday, OutOfRange}
use Rattle.profile.specs.Limits.{profile_count}
use Rattle.weights.specs.Means.{first_out, some_out}
use Rattle.weights.specs.Weights.{weights_of}
use Rattle.account.specs.Account.{Account, account, unfit_lengths, sound}
use Rattle.casewriter.specs.File.{file_of}

-- the account that is written, "over the weights of those means with K1's bytes 7 throughout"
abbrev pub account_given : (profile weekday : ℕ) (means : List ℤ) (marks counts : List ℕ) → Account
account_given profile weekday means marks counts = account (weights_of profile weekday means (replicate (length means - 3) 7)) marks counts

-- what the table lays down for a call: the number, the index, the length that is returned, and what the lent slice then holds
pub record Ruling : Type 0 where
  pub number : ℕ
  pub place : ℕ
  pub size : ℕ
  pub memory : List ℕ

abbrev pub ruling : (profile weekday : ℕ) (means : List ℤ) (marks counts before : List ℕ) → Ruling
ruling profile weekday means marks counts before =
    let file = file_of profile weekday means marks counts in
    row (unfit_lengths (length means - 3) (length marks) (length counts)) (record { number = 3; place = 0; size = 0; memory = before })  -- n (the means less three) outside 1 to 1,096, or marks or counts not n+1 long
    (row (leb profile_count profile) (record { number = 1; place = 0; size = 0; memory = zeros before })  -- profile above 9
    (row (ltb 6 weekday) (record { number = 2; place = 0; size = 0; memory = zeros before })  -- weekday above 6
    (row (some_out means) (record { number = 4; place = first_out means; size = 0; memory = zeros before })  -- first mean out of range
    (row (not (sound (account_given profile weekday means marks counts))) (record { number = 5; place = 0; size = 0; memory = before })  -- account unsound
    (row (ltb (length before) (length file)) (record { number = 15; place = 0; size = 0; memory = before })  -- a slice shorter than the file
    (record { number = 0; place = 0; size = length file; memory = file ++ drop (length file) before }))))))

-- rows 1, 2 and 4 alone
abbrev pub series_rows : (profile weekday : ℕ) (means : List ℤ) → Result (Unit {0}) Fault
series_rows profile weekday means =
    row (leb profile_count profile) (Err (at_zero NoProfile))
    (row (ltb 6 weekday) (Err (at_zero NoWeekday))
    (row (some_out means) (Err (record { refusal = OutOfRange; place = first_out means }))
    (Ok tt)))

pub record WriteMet (profile weekday : ℕ) (means : List ℤ) (marks counts before : List ℕ) (answered placed given : ℕ) (after : List ℕ) (means_after : List ℤ) (marksAfter countsAfter : List ℕ) : Type 0 where
  pub answers : answered ≡ (ruling profile weekday means marks counts before).number
  pub places : placed ≡ (ruling profile weekday means marks counts before).place
  pub gives : given ≡ (ruling profile weekday means marks counts before).size
  pub writes : after ≡ (ruling profile weekday means marks counts before).memory
  pub means_stay : means_after ≡ means
  pub marks_stay : marksAfter ≡ marks
  pub counts_stay : countsAfter ≡ counts
