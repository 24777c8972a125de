-- A case file as a list of calls (Account and its calls, Case file): they run one after the other, so that demand 3 holds of them. Assumes
-- nothing.
use Prim.Native.Nat.{ℕ, zero, suc, ◌≤◌}
use mathlib.Core.Path.{◌≡◌, refl, sym, subst}
use mathlib.Core.List.{List, [], ◌∷◌, ◌++◌, append_assoc}
use native.Mathlib.Omega.{arith}
use lib.ListN.{length-replicate}
use Rattle.account.specs.Account.{Account}
use Rattle.account.specs.Calls.{OpenMet}
use Rattle.history.specs.Run.{Event, Step, Run}
use Rattle.history.specs.Run as run
use Rattle.history.proofs.Theorem.{demand3}
use Rattle.casefile.specs.Case.{readings_put, cuts_put, readings_length, cuts_length, empty_case, with_readings, with_cuts}
use Rattle.casefile.specs.Faults.{no_fault, fault_of}
use Rattle.casefile.proofs.Sound.{case_taken}
use Rattle.report.specs.Calls.{reading_calls, cut_calls, FileDemand3}

-- these calls lead from a to b: what runs from b runs after them
abbrev Leads : Account → List Event → Account → Type 0
Leads a es b = (fs : List Event) → Run b fs → Run a (es ++ fs)

one_more : (a b : Account) (es : List Event) (e : Event) → Leads a es b → Step b e → Leads a (es ++ (e ∷ [])) (run.account_after e)
one_more a b es e leads step fs r = subst (Run a) (sym (append_assoc es (e ∷ []) fs)) (leads (e ∷ fs) (step, r))

module _ (s : List ℕ) (e : fault_of s ≡ no_fault) where
  readings_lead : (i : ℕ) → i ≤ readings_length s → Leads (empty_case s) (reading_calls s i) (with_readings s i)
  unfolding reading_calls readings_put
  readings_lead zero l = λ fs r. r
  readings_lead (suc i) l =
      let done = (case_taken s e).1 i (omega arith) in
      one_more (empty_case s) (with_readings s i) (reading_calls s i) _ (readings_lead i (omega arith)) (record { answers = sym done; leaves = rw done refl })

  cuts_lead : (i : ℕ) → i ≤ cuts_length s → Leads (empty_case s) (cut_calls s i) (with_cuts s i)
  unfolding cut_calls cuts_put
  cuts_lead zero l = readings_lead (readings_length s) (omega arith)
  cuts_lead (suc i) l =
      let done = (case_taken s e).2 i (omega arith) in
      one_more (empty_case s) (with_cuts s i) (cut_calls s i) _ (cuts_lead i (omega arith)) (record { answers = sym done; leaves = rw done refl })

  opened : OpenMet (empty_case s) 0 (empty_case s)
  opened =
      let done = (case_taken s e).0 in
      record { answers = sym done; leaves = rw (done, length-replicate) refl }

pub file_demand3 : FileDemand3
file_demand3 s e lent r m left out met =
    demand3.after_open (empty_case s) (empty_case s) (opened s e) _ (cuts_lead s e (cuts_length s) (omega arith) (run.statement lent r m left out ∷ []) (met, tt))
