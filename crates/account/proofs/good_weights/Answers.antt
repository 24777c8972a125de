-- `account::good_weights` meets its contract (Account and its calls). Assumes nothing.
use Rattle.std.proofs.Common.{rules, refl}
use Rattle.account.specs.Account.{good_weights}
use Rattle.common.proofs.Chains.{every_index}
use Rattle.account.proofs.good_weights.Goals as goal

pub returns : goal.returns
unfolding good_weights
returns c = record { gives = every_index _ _ _ (search rules); stays = refl }
