-- The answers of a statement (If a call declines): each way to answer meets the call's record. Assumes nothing.
use mathlib.Core.Path.{◌≡◌, refl, ◌∙◌}
use mathlib.Core.Bool.{Bool, true, false}
use Prim.Native.Nat.{ℕ, ◌<◌}
use native.Mathlib.Omega.{arith}
use borrow.Author.Tests.{eq-eqb}
use Rattle.account.specs.Account.{Account, days, unfit, sound}
use Rattle.common.specs.declared.refusal.Refusal.{Refusal}
use Rattle.common.specs.Refusals.{number_of}
use Rattle.account.specs.Refusals.{account_rows}
use Rattle.statement.specs.Parts.{Outputs}
use Rattle.statement.specs.Call.{StatementMet, unfit_outputs}
use Rattle.statement.proofs.CodeWritten.{Long}

-- no row has the number 0
some_row : (e : Refusal) → 0 < number_of e
some_row e = grind arith

-- outputs that are each n long fit
pub long_fit : (n : ℕ) (o : Outputs) → Long n o → unfit_outputs n o ≡ false
long_fit n o l = rw (eq-eqb _ _ l.from, eq-eqb _ _ l.to, eq-eqb _ _ l.wh)

-- a row of the account, which is 3 or 5
pub met_account : (a : Account) (o : Outputs) (e : Refusal) → Long (days a) o → number_of e ≡ account_rows a 0 → StatementMet a o (number_of e) 0 a o
met_account a o e l is = by (unfit a) refl (sound a) refl
  where
    f : unfit_outputs (days a) o ≡ false
    f = long_fit (days a) o l

    by : (u : Bool) → unfit a ≡ u → (s : Bool) → sound a ≡ s → StatementMet a o (number_of e) 0 a o
    by true u s is-s = record { answers = is ∙ rw (f, u); gives = rw (f, u); stays = refl; writes = rw (f, u) }
    by false u false s = record { answers = is ∙ rw (f, u, s); gives = rw (f, u, s); stays = refl; writes = rw (f, u, s) }
    by false u true s = let none : number_of e ≡ 0 = is ∙ rw (u, s) in absurd (omega (arith, some_row e))
