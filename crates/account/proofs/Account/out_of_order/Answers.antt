-- `account::Account::out_of_order` meets its contract (If a call declines): at each boundary the code asks both halves of row 8. Assumes nothing.
use Rattle.std.proofs.Common.{rules, ℕ, length, ap, ◌∙◌, ◌||◌, add-one}
use Rattle.common.specs.Below.{somewhere}
use Rattle.account.specs.Account.{lent, shown}
use Rattle.account.specs.Refusals.{below_earlier, above_later}
use Rattle.common.proofs.Chains.{some_index}
use Rattle.account.proofs.Disagrees.{disagrees_somewhere}
use Rattle.account.proofs.Account.out_of_order.Goals as goal

pub returns : goal.returns
returns c =
    let k = c.args.k in
    let v = c.args.v in
    let r = (shown (lent c.args.self)).readings in
    let p = λ (j : ℕ). below_earlier r k v j || above_later r k v j in
    some_index p (length c.args.self.marks.now) c.any.result (search rules)
    ∙ ap (somewhere p) (c.requires.marks ∙ add-one _)
    ∙ disagrees_somewhere _ r k v
