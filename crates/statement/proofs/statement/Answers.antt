-- `statement::statement` meets its contract (Account and its calls): a row of the account is told as it is. Assumes nothing.
use Rattle.std.proofs.lemmas.Result.{err_from_is_err_and}
use Rattle.statement.proofs.CodeAnswers.{met_account}
use Rattle.statement.proofs.statement.Goals as goal

pub returns-in_err-check : goal.returns-in_err-check
returns-in_err-check c =
    let p = err_from_is_err_and c.from_residual.result c.from_residual.ensures.1 in
    rw (p.1, p.2) (met_account _ _ _ (record { from = c.if-from-n.false; to = c.if-to-n.false; wh = c.if-wh-n.false }) c.in_err-check.ensures.check_met.answers)
