-- What is printed of an account (Case file): its statement, or the one line of a refusal, "its number and the place (0 if it has none)".
use Rattle.std.specs.Prelude.{ℕ, ◌≤◌, not, List, length}
use Rattle.common.specs.Rows.{row, if_done}
use Rattle.account.specs.Account.{Account, days, shown, unfit, sound}
use Rattle.statement.specs.Parts.{Outputs, parts_of, statement_of}
use Rattle.statement.specs.Call.{too_few_readings}
use Rattle.layout.specs.Text.{parts_text, statement_text, refusal_text}

-- the rows of a statement call whose outputs fit, with the text beside each: a refusal has no place
abbrev pub account_text : Account → List ℕ
account_text a =
    row (unfit a) (refusal_text 3 0)  -- n outside 1 to 1,096, or a lent length unfit
    (row (not (sound a)) (refusal_text 5 0)  -- account unsound
    (row (too_few_readings (days a) (shown a).readings) (refusal_text 11 0)  -- fewer than two readings
    (parts_text (statement_of a.weights (shown a)) (length (parts_of a.weights (shown a))))))

-- what a statement call answered and wrote, as text
abbrev pub answered_text : (number parts : ℕ) → Outputs → List ℕ
answered_text number parts o = if_done number (statement_text o parts) (refusal_text number 0)

-- room for the text of any account, 21 digits being allowed for a number (20 are enough): 28 for the line `parts`, 66 for each of 1,096 lines
-- and 26 for `sum`
abbrev pub text_most : ℕ
text_most = 72_390

-- no text of an account is longer (proofs/Fits, `account_most`)
abbrev pub TextFits : Type 0
TextFits = (a : Account) → length (account_text a) ≤ text_most
