-- `account::reading` meets its contract (Account and its calls): rows 3, 5 and 6 refuse it whatever the rows after them. Assumes nothing.
use Rattle.std.proofs.Common.{rules, ◌≡◌, Err}
use Rattle.account.specs.Account.{account}
use Rattle.account.proofs.Rows.{call_refused}
use Rattle.account.proofs.reading.Goals as goal

pub returns-in_err-mark : goal.returns-in_err-mark
returns-in_err-mark c =
    let is : c.from_residual.result ≡ Err c.in_err-mark.field-0.0 = search rules in
    rw is (call_refused (account c.args.weights.now c.args.marks.now c.args.counts.now) _ c.args.k _ _ c.in_err-mark.ensures.answers)
