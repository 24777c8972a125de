-- Short names for the contracts of private functions and for proofs, here and above; some take single slices (Account and its calls).
use Rattle.std.specs.Prelude.{ℕ, suc, ◌+◌, ◌≤◌, ◌≡◌, Bool, true, false, ◌&&◌, List, ltb, length, get_or}
use Rattle.profile.specs.Limits.{span_least, span_most}
use Rattle.account.specs.Stands.{never_falling}
use Rattle.account.specs.Account.{Account, days, shown, unfit, marks_reading, good_marks, zero_counts}
use Rattle.account.specs.Account as accounts
use Rattle.common.specs.Rows.{row}
use Rattle.account.specs.Refusals.{account_rows}

-- whether these marks show a reading at k
abbrev pub reads_at : List ℕ → ℕ → Bool
reads_at marks k = marks_reading (get_or marks k 0)

-- the count at k, 0 past the end
abbrev pub count_at : List ℕ → ℕ → ℕ
count_at counts k = get_or counts k 0

-- the lengths of an account that fits
pub record Fit (a : Account) : Type 0 where
  pub least : span_least ≤ days a
  pub most : days a ≤ span_most
  pub marks : length a.marks ≡ days a + 1
  pub counts : length a.counts ≡ days a + 1

-- an account that rows 3 and 5 let pass
pub record Checked (a : Account) : Type 0 where
  pub fits : unfit a ≡ false
  pub sound : accounts.sound a ≡ true

-- the part of soundness that one pass over marks and counts shows
abbrev pub good_boundaries : Account → Bool
good_boundaries a = good_marks a && zero_counts a && never_falling (shown a).readings (suc (days a))

-- rows 3, 5 and 6, which every call on a boundary has, and then the rest
abbrev pub boundary_rows : Account → ℕ → ℕ → ℕ
boundary_rows a k rest = account_rows a (row (ltb (days a) k) 6 rest)
