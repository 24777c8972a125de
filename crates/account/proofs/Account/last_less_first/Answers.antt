-- `account::Account::last_less_first` meets its contract (Account and its calls): the calls' own contracts, put together. Assumes nothing.
use Rattle.std.proofs.Common.{add-one, ◌∙◌}
use Rattle.account.specs.Account.{lent, shown}
use Rattle.account.proofs.LastLessFirst.{last_less_first_is}
use Rattle.account.proofs.Account.last_less_first.Goals as goal

pub returns : goal.returns
returns c =
    last_less_first_is _ (shown (lent c.args.self)).readings (c.requires.marks ∙ add-one _)
    c.last_reading.ensures c.count_at-last.ensures c.first_reading.ensures c.count_at-first.ensures c.saturating_sub.ensures
