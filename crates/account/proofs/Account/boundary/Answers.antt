-- `account::Account::boundary` meets its contract (If a call declines): a sound account's marks are 0 to 3. Assumes nothing.
use native.Mathlib.Omega.{arith}
use mathlib.Core.Path.{sym}
use Rattle.account.specs.Account.{lent}
use Rattle.account.proofs.Rows.{checked}
use Rattle.account.proofs.Sound.{mark_most, sound_parts}
use Rattle.account.proofs.Account.boundary.Goals as goal

pub returns-clause-small : goal.returns-clause-small
returns-clause-small c =
    let a = lent c.args.self in
    mark_most a (sound_parts a (checked a 0 (sym c.in_ok-check.ensures.check_met.answers)).sound) c.args.k (omega arith)
