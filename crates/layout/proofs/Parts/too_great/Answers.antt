-- `layout::Parts::too_great` meets its contract (Case file). Assumes nothing.
use Rattle.std.proofs.Common.{rules, ltb, get_or}
use Rattle.account.specs.Account.{energy_most}
use Rattle.common.proofs.Chains.{some_index}
use Rattle.layout.proofs.Parts.too_great.Goals as goal

pub returns : goal.returns
returns c = some_index (λ i. ltb energy_most (get_or c.args.self.wh.now i 0)) _ _ (search rules)
