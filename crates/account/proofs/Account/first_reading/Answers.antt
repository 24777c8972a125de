-- `account::Account::first_reading` meets its contract (Account and its calls). Assumes nothing.
use Rattle.std.proofs.Common.{rules, length, ◌∙◌}
use Rattle.account.specs.Slices.{reads_at}
use Rattle.common.proofs.Chains.{Position, first_position}
use Rattle.account.proofs.Account.first_reading.Goals as goal

pub returns : goal.returns
returns c =
    let h : Position (reads_at c.args.self.marks.now) (length c.args.self.marks.now) c.position.result = search rules in
    c.unwrap_or.ensures ∙ first_position _ _ _ h
