-- A run of the calls (Account and its calls): "each is lent the same weights, and the account's other slices as the call before left
-- them." Every step is the contract record of the function that is called, whatever it is given (specs/Tied.antt: its own contract).
use Rattle.std.specs.Prelude.{ℕ, List, [], ◌∷◌, map, length}
use Rattle.account.specs.Stands.{Stands}
use Rattle.account.specs.Account.{Account}
use Rattle.account.specs.Refusals.{reading_rows, withdraw_rows, cut_rows, uncut_rows}
use Rattle.account.specs.Calls.{ReadingMet, WithdrawMet, CutMet, UncutMet}
use Rattle.statement.specs.Parts.{Outputs}
use Rattle.statement.specs.Call.{Ruling, StatementMet, outputs_row, statement_rows}
use Rattle.history.specs.History.{Call}
use Rattle.history.specs.History as history

-- a call together with the number that it answered and what it left: the account after it, and of a statement the number of its parts and the
-- outputs before and after it
pub data Event : Type 0 where
  reading : (k v r : ℕ) (left : Account) → Event
  withdraw : (k r : ℕ) (left : Account) → Event
  cut : (k r : ℕ) (left : Account) → Event
  uncut : (k r : ℕ) (left : Account) → Event
  statement : (lent : Outputs) (r m : ℕ) (left : Account) (out : Outputs) → Event

-- the call alone, as the list has it
abbrev pub call : Event → Call
call (reading k v r a) = Call.reading k v
call (withdraw k r a) = Call.withdraw k
call (cut k r a) = Call.cut k
call (uncut k r a) = Call.uncut k
call (statement o r m a e) = Call.statement o

-- the account as the call left it
abbrev pub account_after : Event → Account
account_after (reading k v r a) = a
account_after (withdraw k r a) = a
account_after (cut k r a) = a
account_after (uncut k r a) = a
account_after (statement o r m a e) = a

-- the number that the call answered
abbrev pub answered : Event → ℕ
answered (reading k v r a) = r
answered (withdraw k r a) = r
answered (cut k r a) = r
answered (uncut k r a) = r
answered (statement o r m a e) = r

-- what the table, applied to what stands, lays down for a statement: 3 and 5 of the account cannot arise after open
abbrev pub statement_says : List ℕ → Stands → Outputs → Ruling
statement_says w s lent = outputs_row (length w) lent (statement_rows w s lent)

-- the number that it gives the call
abbrev pub table_says : List ℕ → Stands → Call → ℕ
table_says w s (Call.reading k v) = reading_rows (length w) s k v
table_says w s (Call.withdraw k) = withdraw_rows (length w) s k
table_says w s (Call.cut k) = cut_rows (length w) s k
table_says w s (Call.uncut k) = uncut_rows (length w) s k
table_says w s (Call.statement lent) = (statement_says w s lent).number

-- the call meets its contract on the account that it is lent
abbrev pub Step : Account → Event → Type 0
Step a (reading k v r b) = ReadingMet a k v r b
Step a (withdraw k r b) = WithdrawMet a k r b
Step a (cut k r b) = CutMet a k r b
Step a (uncut k r b) = UncutMet a k r b
Step a (statement o r m b e) = StatementMet a o r m b e

-- each call gets the account as the one before left it
abbrev pub Run : Account → List Event → Type 0
Run a [] = Unit {0}
Run a (e ∷ es) = Step a e × Run (account_after e) es

-- what stands after these events, from their calls and arguments alone
abbrev pub standing : List ℕ → List Event → Stands
standing w es = history.stands (length w) (map call es)
