-- Row 3 where there are no such weights to lend, else what `account::check` answers (K2). Assumes nothing.
use Rattle.std.proofs.Common.{List, ℕ, ◌-◌, replicate, take, ap, ◌∙◌, arith}
use Rattle.profile.specs.Limits.{span_most}
use Rattle.common.proofs.Lists.{take_replicate}
use Rattle.account.specs.Account.{account}
use Rattle.account.specs.Refusals.{account_rows}
use Rattle.casewriter.proofs.check_account.Goals as goal

pub returns : goal.returns
returns c =
    let a = c.args in
    c.check.ensures.check_met.answers ∙
    ap (λ (w : List ℕ). account_rows (account w a.marks.now a.counts.now) 0) (ap (λ (n : ℕ). take n (replicate span_most 1)) c.saturating_sub-n.ensures ∙ take_replicate 1 (a.means - 3) span_most (omega arith))
