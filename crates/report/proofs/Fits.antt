-- No text is longer than the program's buffer (Case file, the program's output). Assumes nothing.
use Prim.Native.Nat.{ℕ, ◌≤◌}
use mathlib.Core.Path.{◌≡◌, refl, ap}
use mathlib.Core.List.{List}
use native.Mathlib.Omega.{arith}
use lib.Dec.{eqb}
use lib.ListN.{length}
use Rattle.account.specs.Account.{Account}
use Rattle.layout.specs.Text.{refusal_text, LaidOut}
use Rattle.layout.specs.Accounts.{account_text, text_most}
use Rattle.layout.proofs.Fits.{either, account_most, refusal_most}
use Rattle.casefile.specs.Reader.{fault_number, fault_place, verdict, slices_after}
use Rattle.casefile.specs.Case.{account_of}
use Rattle.report.specs.Report.{case_text, CaseTextMet}

pub case_most : (s : List ℕ) (lent : Account) → length (case_text s lent) ≤ text_most
case_most s lent =
    let v = verdict s lent in
    either (eqb (fault_number v) 0) (account_text (account_of s)) (refusal_text (fault_number v) (fault_place v))
    (account_most (account_of s))
    (refusal_most (fault_number v) (fault_place v))

-- a text laid out that is the file's
pub text_met : (s : List ℕ) (lent : Account) (text out : List ℕ) (next : ℕ) (after : Account) (written : List ℕ) →
    LaidOut 0 text out next written → case_text s lent ≡ text → after ≡ slices_after s lent → CaseTextMet s lent out next after written s
text_met s lent text out next after written laid is writes =
    record { prints = rw is laid; fits = omega (arith, laid.ends, ap length is, case_most s lent); writes = writes; stays = refl }
