-- The text of an account, by what the statement call answers (Case file). Assumes nothing.
use Prim.Native.Nat.{ℕ, ◌<◌, ◌≤◌}
use mathlib.Core.List.{List}
use lib.ListN.{length, take}
use lib.Seq.{length-take-le}
use borrow.Author.Rules.{rules}
use Rattle.common.specs.declared.refusal.Refusal.{Refusal}
use Rattle.common.specs.Refusals.{number_of}
use mathlib.Core.Path.{◌≡◌, refl}
use mathlib.Core.Bool.{and-false}
use borrow.Author.Tests.{lt-leb}
use Rattle.profile.specs.Limits.{span_most}
use Rattle.account.specs.Account.{Account, days}
use Rattle.statement.specs.Parts.{Outputs, outputs}
use Rattle.statement.specs.Call.{StatementMet}
use Rattle.statement.proofs.CodeWritten.{Long}
use Rattle.statement.proofs.CodeAnswers.{long_fit}
use Rattle.statement.proofs.Told.{by_row}
use Rattle.layout.specs.Text.{refusal_text}
use Rattle.layout.specs.Accounts.{account_text, answered_text}
use Rattle.layout.proofs.Full.{in_full}

pub too_long : (a : Account) → span_most < days a → account_text a ≡ refusal_text 3 0
too_long a h = simp (lt-leb (days a) span_most h, and-false)

-- what the call answered and wrote is what is printed of the account, row by row
pub answered_says : (a : Account) (o : Outputs) → Long (days a) o → (number count : ℕ) (out : Outputs) → StatementMet a o number count a out →
    answered_text number count out ≡ account_text a
answered_says a o long number count out met =
    by_row a a o (long_fit (days a) o long) number count out met (answered_text number count out ≡ account_text a)
    (λ u is. rw (is, u) refl)
    (λ u s is. rw (is, u, s) refl)
    (λ ok few is. rw (is, ok.fits, ok.sound, few) refl)
    (λ ok few is count_is out-is. rw (is, ok.fits, ok.sound, few, count_is, out-is, in_full a ok few) refl)

-- outputs cut to n days have that length
pub cut_long : (n : ℕ) (f t w : List ℕ) → n ≤ length f → n ≤ length t → n ≤ length w → Long n (outputs (take n f) (take n t) (take n w))
cut_long n f t w from to wh = record { from = length-take-le n f from; to = length-take-le n t to; wh = length-take-le n w wh }

-- a refusal has its line
pub declined : (r : Refusal) (count : ℕ) (out : Outputs) → answered_text (number_of r) count out ≡ refusal_text (number_of r) 0
declined r count out = search rules
