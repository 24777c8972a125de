-- The account's calls (Account and its calls): for each, what it answers and what every slice holds after it.
use Rattle.std.specs.Prelude.{ℕ, ◌≡◌, Bool, true, false, List, set}
use Rattle.common.specs.Rows.{if_done, zeros}
use Rattle.account.specs.Account.{Account, account, shown, mark_of, good_weights}
use Rattle.account.specs.Refusals.{account_rows, open_number, reading_number, withdraw_number, cut_number, uncut_number}

-- "Open clears marks and counts."
abbrev pub cleared : Account → Account
cleared a = account a.weights (zeros a.marks) (zeros a.counts)

-- "Reading sets a count; withdraw removes the reading and zeroes its count; cut and uncut set and remove a cut.
-- A call on a boundary keeps its other mark."
abbrev pub reading_put : Account → ℕ → ℕ → Account
reading_put a k v = account a.weights (set a.marks k (mark_of true ((shown a).cut k))) (set a.counts k v)

abbrev pub reading_removed : Account → ℕ → Account
reading_removed a k = account a.weights (set a.marks k (mark_of false ((shown a).cut k))) (set a.counts k 0)

abbrev pub cut_put : Account → ℕ → Account
cut_put a k = account a.weights (set a.marks k (mark_of ((shown a).readings.at k) true)) a.counts

abbrev pub cut_removed : Account → ℕ → Account
cut_removed a k = account a.weights (set a.marks k (mark_of ((shown a).readings.at k) false)) a.counts

-- a call to which the table gives the number `said`: it answers that, and where it is 0 leaves the account as `done`;
-- "A refused call changes nothing in the account."
pub record CallMet (said : ℕ) (done before : Account) (answered : ℕ) (after : Account) : Type 0 where
  pub answers : answered ≡ said
  pub leaves : after ≡ if_done said done before

abbrev pub OpenMet : (before : Account) (answered : ℕ) (after : Account) → Type 0
OpenMet before = CallMet (open_number before) (cleared before) before

abbrev pub ReadingMet : (before : Account) (k v answered : ℕ) (after : Account) → Type 0
ReadingMet before k v = CallMet (reading_number before k v) (reading_put before k v) before

abbrev pub WithdrawMet : (before : Account) (k answered : ℕ) (after : Account) → Type 0
WithdrawMet before k = CallMet (withdraw_number before k) (reading_removed before k) before

abbrev pub CutMet : (before : Account) (k answered : ℕ) (after : Account) → Type 0
CutMet before k = CallMet (cut_number before k) (cut_put before k) before

abbrev pub UncutMet : (before : Account) (k answered : ℕ) (after : Account) → Type 0
UncutMet before k = CallMet (uncut_number before k) (cut_removed before k) before

-- rows 3 and 5 asked alone (0: neither), and the weights asked alone
pub record CheckMet (before : Account) (answered : ℕ) (after : Account) : Type 0 where
  pub answers : answered ≡ account_rows before 0
  pub stays : after ≡ before

pub record GoodWeightsMet (w : List ℕ) (good : Bool) (after : List ℕ) : Type 0 where
  pub gives : good ≡ good_weights w
  pub stays : after ≡ w
