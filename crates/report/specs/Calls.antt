-- A case file as a list of calls (Account and its calls, Case file): its readings and its cuts, each done, and a statement after them.
use Rattle.std.specs.Prelude.{ℕ, zero, suc, ◌≡◌, List, [], ◌∷◌, ◌++◌}
use Rattle.account.specs.Account.{Account}
use Rattle.statement.specs.Parts.{Outputs}
use Rattle.statement.specs.Call.{StatementMet}
use Rattle.history.specs.Run.{Event}
use Rattle.history.specs.Run as run
use Rattle.history.specs.Demand3.{Demand3}
use Rattle.casefile.specs.Case.{readings_length, reading_boundary, reading_count, cuts_length, cut_boundary, empty_case, with_readings, with_cuts, account_of}
use Rattle.casefile.specs.Faults.{no_fault, fault_of}

-- the first i readings, and after all of them the first i cuts, each with the account that it leaves
unfoldable pub reading_calls : List ℕ → ℕ → List Event
reading_calls s zero = []
reading_calls s (suc i) = reading_calls s i ++ (run.reading (reading_boundary s i) (reading_count s i) 0 (with_readings s (suc i)) ∷ [])

unfoldable pub cut_calls : List ℕ → ℕ → List Event
cut_calls s zero = reading_calls s (readings_length s)
cut_calls s (suc i) = cut_calls s i ++ (run.cut (cut_boundary s i) 0 (with_cuts s (suc i)) ∷ [])

-- the statement of a file that the reader takes is one of demand 3, over the file's own calls (proofs/Calls, `file_demand3`)
abbrev pub FileDemand3 : Type 0
FileDemand3 =
    (s : List ℕ) → fault_of s ≡ no_fault →
    (lent : Outputs) (r m : ℕ) (left : Account) (out : Outputs) → StatementMet (account_of s) lent r m left out →
    Demand3 (empty_case s).weights (cut_calls s (cuts_length s) ++ (run.statement lent r m left out ∷ []))
