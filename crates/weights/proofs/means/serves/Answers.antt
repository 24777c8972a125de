-- `weights::means::serves` meets its contract (Temperature of a day): the test of all means at the start is that none is out of range.
use Rattle.std.proofs.Common.{rules, true, ◌≡◌, ℕ, ◌<◌, take, length, get_or, pos}
use Rattle.std.specs.Prelude.{◌↔◌, IsTrue}
use borrow.Author.Tests.{le-leb}
use Rattle.profile.specs.Limits.{in_range}
use Rattle.weights.proofs.Series.{none_out}
use Rattle.weights.proofs.means.serves.Goals as goal

pub returns-then-count-series : goal.returns-then-count-series
returns-then-count-series c =
    let s = take c.args.count c.args.series.now in
    let all : IsTrue c.all.result ↔ ((i : ℕ) → i < length s → in_range (get_or s i (pos 0)) ≡ true) = search rules in
    rw (le-leb _ _ c.if-count-series.true) (none_out s c.all.result all)
