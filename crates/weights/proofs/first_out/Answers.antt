-- `weights::first_out` meets its contract (Temperature of a day): what `position` finds in a series is its first mean out of range.
use Rattle.std.proofs.Common.{rules, refl, length}
use Rattle.common.proofs.Chains.{Position, first_position}
use Rattle.weights.proofs.Series.{out, first_out_is}
use Rattle.weights.proofs.first_out.Goals as goal

pub returns : goal.returns
returns c =
    let s = c.args.means.now in
    let found : Position (out s) (length s) c.position.result = search rules in
    let first = first_position (out s) (length s) c.position.result found in
    let is = first_out_is s in
    record { gives = search rules; stays = refl }
