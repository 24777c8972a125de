-- `layout::with_outputs` meets its contract (Case file): what the statement call answers and writes, as text. Assumes nothing.
use Rattle.std.proofs.Common.{sym, ◌∙◌, length, drop}
use Rattle.std.proofs.lemmas.List.{length-take-le, take_at}
use Rattle.account.specs.Account.{lent, days}
use Rattle.layout.proofs.Texts.{answered_says, cut_long, declined}
use Rattle.layout.proofs.with_outputs.Goals as goal

pub returns-in-Ok : goal.returns-in-Ok
returns-in-Ok c =
    let a = c.args in
    let pre = c.requires in
    let n = length a.account.weights.now in
    let new = c.statement-answer.new in
    let is = c.statement-answer.auto in
    let says = answered_says (lent a.account) _ (cut_long (days (lent a.account)) a.from.now a.to.now a.wh.now pre.0 pre.1 pre.2) _ _ _ c.in-Ok.ensures in
    let fs = take_at new.from (drop n a.from.now) n (is.from ∙ length-take-le n a.from.now pre.0) in
    let ts = take_at new.to (drop n a.to.now) n (is.to ∙ length-take-le n a.to.now pre.1) in
    let ws = take_at new.wh (drop n a.wh.now) n (is.wh ∙ length-take-le n a.wh.now pre.2) in
    rw (sym says) (rw (fs, ts, ws) at c.statement_text.ensures.prints)

pub returns-in-Err : goal.returns-in-Err
returns-in-Err c =
    let a = c.args in
    let pre = c.requires in
    let says = answered_says (lent a.account) _ (cut_long (days (lent a.account)) a.from.now a.to.now a.wh.now pre.0 pre.1 pre.2) _ _ _ c.in-Err.ensures in
    rw (sym says, declined) (rw c.number.ensures at c.refusal_text.ensures)
