-- A file that the reader takes (Case file): it has no fault, and the slices after it begin with the account that it names. Assumes nothing.
use Prim.Native.Nat.{ℕ, ◌+◌, ◌-◌}
use mathlib.Core.Path.{◌≡◌, refl, sym, ap, ◌∙◌}
use mathlib.Core.Bool.{false}
use mathlib.Core.List.{List}
use native.Mathlib.Omega.{arith}
use lib.ListN.{length, take, replicate}
use lib.Seq.{take_at}
use Rattle.profile.specs.Limits.{span_most}
use Rattle.common.specs.Rows.{filled}
use Rattle.common.proofs.Below.{refuted}
use Rattle.account.specs.Account.{Account, account}
use Rattle.casefile.specs.Case.{days_of, account_of}
use Rattle.casefile.specs.Faults.{no_fault, fault_of}
use Rattle.casefile.specs.Reader.{fault_number, unfit_slices, verdict, full, ReadMet}
use Rattle.casefile.proofs.Sound.{case_long}
use Rattle.casefile.proofs.Agreed.{file_numbered}

-- a list and the zeros after it: its start is the list
pub filled_starts : (m : ℕ) (xs : List ℕ) (n : ℕ) → length xs ≡ n → take n (filled m xs) ≡ xs
filled_starts m xs n long = take_at xs (replicate (m - length xs) 0) n long

-- a verdict without a fault
module _ (s : List ℕ) (lent : Account) (accepted : fault_number (verdict s lent) ≡ 0) where
  fit : unfit_slices lent ≡ false
  fit = refuted (unfit_slices lent) λ u.
      let three : fault_number (verdict s lent) ≡ 3 = rw u refl in
      omega (arith, sym three ∙ accepted)

  pub clean : fault_of s ≡ no_fault
  clean = file_numbered s (rw fit at accepted)

module _ {s : List ℕ} {lent : Account} {placed n : ℕ} {after : Account} {kept : List ℕ} (met : ReadMet s lent 0 placed n after kept) where
  pub accepted : fault_number (verdict s lent) ≡ 0
  accepted = sym met.answers

  pub after_is : after ≡ full (account_of s)
  after_is = met.writes ∙ rw (fit s lent accepted, clean s lent accepted) refl

  pub days_are : n ≡ days_of s
  days_are = met.gives ∙ rw accepted refl

  pub weights_long : length (account_of s).weights ≡ n
  weights_long = (case_long s).days_are ∙ sym days_are

  pub marks_long : length (account_of s).marks ≡ n + 1
  marks_long = (case_long s).marks_long ∙ ap (λ (k : ℕ). k + 1) (sym days_are)

  pub counts_long : length (account_of s).counts ≡ n + 1
  counts_long = (case_long s).counts_long ∙ ap (λ (k : ℕ). k + 1) (sym days_are)

  pub taken_is : account (take n after.weights) (take (n + 1) after.marks) (take (n + 1) after.counts) ≡ account_of s
  taken_is =
      ap (λ (a : Account). account (take n a.weights) (take (n + 1) a.marks) (take (n + 1) a.counts)) after_is ∙
      rw (filled_starts span_most (account_of s).weights n weights_long, filled_starts (span_most + 1) (account_of s).marks (n + 1) marks_long, filled_starts (span_most + 1) (account_of s).counts (n + 1) counts_long) refl
