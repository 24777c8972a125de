-- The call that makes a page (K4): "It returns the number of bytes, 41 times one more than the number of parts. .. The page is made from an account and its weights; 3
-- for the account's slices, 5 and 11 come first, and a page of another length is then 3, untouched."
use Rattle.std.specs.Prelude.{ℕ, ◌≡◌, not, List, eqb, length}
use Rattle.common.specs.Rows.{row, zeros}
use Rattle.account.specs.Account.{Account, days, shown, unfit, sound}
use Rattle.statement.specs.Parts.{parts_of, statement_of}
use Rattle.statement.specs.Call.{too_few_readings}
use Rattle.page.specs.Page.{page_text, page_length}

-- what the table lays down for a call: the number, the number of bytes that is returned, and what the page then holds
pub record Ruling : Type 0 where
  pub number : ℕ
  pub size : ℕ
  pub memory : List ℕ

-- the last row, over the number of parts; below it the page
abbrev pub length_row : (parts : ℕ) (text lent : List ℕ) → Ruling
length_row parts text lent =
    row (not (eqb (length lent) (page_length parts))) (record { number = 3; size = 0; memory = lent })  -- a page of another length
    (record { number = 0; size = page_length parts; memory = text })

abbrev pub ruling : Account → (lent : List ℕ) → Ruling
ruling a lent =
    let parts = length (parts_of a.weights (shown a)) in
    row (unfit a) (record { number = 3; size = 0; memory = lent })  -- n outside 1 to 1,096, or marks or counts not n+1 long
    (row (not (sound a)) (record { number = 5; size = 0; memory = lent })  -- account unsound
    (row (too_few_readings (days a) (shown a).readings) (record { number = 11; size = 0; memory = zeros lent })  -- fewer than two readings
    (length_row parts (page_text (statement_of a.weights (shown a)) parts) lent)))

pub record PageMet (before : Account) (lent : List ℕ) (answered given : ℕ) (after : Account) (page : List ℕ) : Type 0 where
  pub answers : answered ≡ (ruling before lent).number
  pub gives : given ≡ (ruling before lent).size
  pub stays : after ≡ before
  pub writes : page ≡ (ruling before lent).memory
