-- A file that the reader takes or refuses (Case file): its text. Assumes nothing.
use Prim.Native.Nat.{ℕ, ◌+◌}
use mathlib.Core.Path.{◌≡◌, refl, sym, ap, ap₂, ◌∙◌}
use mathlib.Core.Bool.{true}
use mathlib.Core.List.{List}
use borrow.Author.Tests.{ne_eqb}
use lib.ListN.{take}
use Rattle.account.specs.Account.{Account, account, unfit}
use Rattle.common.proofs.Below.{clash}
use Rattle.layout.specs.Text.{refusal_text}
use Rattle.casefile.specs.Case.{days_of, account_of}
use Rattle.casefile.specs.Reader.{fault_number, fault_place, verdict, ReadMet}
use Rattle.casefile.proofs.Sound.{case_long, case_sound}
use Rattle.casefile.proofs.Taken.{clean, accepted, taken_is}
use Rattle.layout.specs.Accounts.{account_text}
use Rattle.report.specs.Report.{case_text}

-- a file without a fault has days
some_days : (s : List ℕ) (lent : Account) → fault_number (verdict s lent) ≡ 0 → days_of s ≡ 0 → ⊥
some_days s lent e z =
    let none_is = (case_long s).days_are ∙ z in
    let bad : unfit (account_of s) ≡ true = rw none_is refl in
    clash bad (case_sound s (clean s lent e)).0

module _ (s : List ℕ) (lent : Account) (number place : ℕ) (after : Account) (met : ReadMet s lent number place 0 after s) where
  pub refused_says : case_text s lent ≡ refusal_text number place
  refused_says =
      let declined : fault_number (verdict s lent) ≡ 0 → ⊥ = λ e. some_days s lent e (sym (met.gives ∙ rw e refl)) in
      let says : case_text s lent ≡ refusal_text (fault_number (verdict s lent)) (fault_place (verdict s lent)) = simp (ne_eqb (fault_number (verdict s lent)) 0 declined) in
      says ∙ sym (ap₂ refusal_text met.answers met.places)

module _ (s : List ℕ) (lent : Account) (n : ℕ) (after : Account) (met : ReadMet s lent 0 0 n after s) where
  pub taken_says : case_text s lent ≡ account_text (account (take n after.weights) (take (n + 1) after.marks) (take (n + 1) after.counts))
  taken_says =
      let says : case_text s lent ≡ account_text (account_of s) = rw (accepted met) refl in
      says ∙ ap account_text (sym (taken_is met))
