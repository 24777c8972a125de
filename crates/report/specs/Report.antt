-- What is printed of a case file (Case file): the program "reads a file from standard input and prints the statement";
-- "A refusal prints one line: `refused`, its number and the place (0 if it has none), single spaces between."
use Rattle.std.specs.Prelude.{ℕ, ◌≤◌, ◌≡◌, List, take}
use Rattle.common.specs.Rows.{if_done}
use Rattle.account.specs.Account.{Account}
use Rattle.layout.specs.Text.{refusal_text, LaidOut}
use Rattle.layout.specs.Accounts.{account_text, text_most}
use Rattle.casefile.specs.Case.{account_of}
use Rattle.casefile.specs.Faults.{Fault}
use Rattle.casefile.specs.Length.{bytes_read}
use Rattle.casefile.specs.Reader.{fault_number, fault_place, verdict, slices_after}

-- a refusal with its place, or what the account that the file names comes to
abbrev pub text_of : Fault → List ℕ → List ℕ
text_of fault s =
    if_done (fault_number fault)
    (account_text (account_of s))
    (refusal_text (fault_number fault) (fault_place fault))

-- what is printed of a file that is read into these slices: 3 where they are unfit
abbrev pub case_text : List ℕ → Account → List ℕ
case_text s lent = text_of (verdict s lent) s

-- "the program reads at most 16,384": the text of a file's first 16,384 bytes is that of the whole (proofs/Printed, `enough_text`)
abbrev pub EnoughText : Type 0
EnoughText = (s : List ℕ) (lent : Account) → case_text (take bytes_read s) lent ≡ case_text s lent

-- the text of a case file that is read into these slices, what they hold after it, and the file unchanged
pub record CaseTextMet (file : List ℕ) (lent : Account) (out : List ℕ) (next : ℕ) (after : Account) (printed kept : List ℕ) : Type 0 where
  pub prints : LaidOut 0 (case_text file lent) out next printed
  pub fits : next ≤ text_most
  pub writes : after ≡ slices_after file lent
  pub stays : kept ≡ file
