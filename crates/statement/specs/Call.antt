-- The statement call (Account and its calls, If a call declines): what it answers and what every slice holds after it.
use Rattle.std.specs.Prelude.{ℕ, suc, ◌≡◌, Bool, not, ◌||◌, eqb, ltb, List, length}
use Rattle.common.specs.Below.{how_many}
use Rattle.account.specs.Stands.{Readings, Stands}
use Rattle.account.specs.Account.{Account, days, shown, unfit, sound}
use Rattle.common.specs.Rows.{row, zeros}
use Rattle.statement.specs.Parts.{Outputs, outputs, parts_of, statement_of}

-- 3: an output is not n long
abbrev pub unfit_outputs : ℕ → Outputs → Bool
unfit_outputs n o = not (eqb (length o.from) n) || not (eqb (length o.to) n) || not (eqb (length o.wh) n)

-- 11: "fewer than two readings"
abbrev pub too_few_readings : ℕ → Readings → Bool
too_few_readings n r = ltb (how_many r.at (suc n)) 2

abbrev pub zeroed : Outputs → Outputs
zeroed o = outputs (zeros o.from) (zeros o.to) (zeros o.wh)

-- what the table lays down for a call: the number, the number of parts, and what the outputs then hold
pub record Ruling : Type 0 where
  pub number : ℕ
  pub parts : ℕ
  pub memory : Outputs

-- the row of the outputs; below it come those of the account
abbrev pub outputs_row : ℕ → Outputs → Ruling → Ruling
outputs_row n lent below =
    row (unfit_outputs n lent) (record { number = 3; parts = 0; memory = lent })  -- a lent length unfit
    below

-- the last row, over what stands; below it the statement
abbrev pub statement_rows : List ℕ → Stands → Outputs → Ruling
statement_rows w s lent =
    row (too_few_readings (length w) s.readings) (record { number = 11; parts = 0; memory = zeroed lent })  -- fewer than two readings
    (record { number = 0; parts = length (parts_of w s); memory = statement_of w s })

abbrev pub ruling : Account → Outputs → Ruling
ruling a lent =
    outputs_row (days a) lent
    (row (unfit a) (record { number = 3; parts = 0; memory = lent })  -- n outside 1 to 1,096, or a lent length unfit
    (row (not (sound a)) (record { number = 5; parts = 0; memory = lent })  -- account unsound
    (statement_rows a.weights (shown a) lent)))

pub record StatementMet (before : Account) (lent : Outputs) (answered given : ℕ) (after : Account) (out : Outputs) : Type 0 where
  pub answers : answered ≡ (ruling before lent).number
  pub gives : given ≡ (ruling before lent).parts
  pub stays : after ≡ before
  pub writes : out ≡ (ruling before lent).memory
