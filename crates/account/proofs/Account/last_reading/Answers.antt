-- `account::Account::last_reading` meets its contract (Account and its calls). Assumes nothing.
use Rattle.std.proofs.Common.{rules, length, ◌∙◌}
use Rattle.account.specs.Slices.{reads_at}
use Rattle.common.proofs.Chains.{LastPosition, last_position}
use Rattle.account.proofs.Account.last_reading.Goals as goal

pub returns : goal.returns
returns c =
    let h : LastPosition (reads_at c.args.self.marks.now) (length c.args.self.marks.now) c.rposition.result = search rules in
    c.unwrap_or.ensures ∙ last_position _ _ _ h
