-- `residual::Points::bad_list` meets its contract (K5): a list of a length within the limits is declined for its suppliers alone. Assumes nothing.
use Rattle.std.proofs.Common.{rules, sym, ◌∙◌, ◌<◌, ◌≤◌, length}
use Rattle.common.proofs.Chains.{some_index}
use Rattle.residual.specs.Call.{supplier_above}
use Rattle.residual.proofs.Table.{declined_for}
use Rattle.residual.proofs.Points.bad_list.Goals as goal

pub returns-else-not-contains : goal.returns-else-not-contains
returns-else-not-contains c =
    let s = c.args.self.suppliers.now in
    let some : 0 < length s = search rules in
    let few : length s ≤ 1_000 = search rules in
    some_index (supplier_above s) (length s) _ (search rules) ∙ sym (declined_for s some few)
