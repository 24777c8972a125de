-- `weights::days::check` meets its contract (K1): what `position` finds is the first byte above 7.
use Rattle.std.proofs.Common.{rules, length, Some, None}
use Rattle.common.proofs.Below.{none_is, some_at}
use Rattle.common.proofs.Chains.{Position, first_position}
use Rattle.weights.specs.Calendar.{no_day}
use Rattle.weights.proofs.days.check.Goals as goal

pub returns-in-Some : goal.returns-in-Some
returns-in-Some c =
    let s = c.args.calendar.now in
    let found : Position (no_day s) (length s) (Some c.in-Some.place) = search rules in
    (some_at (no_day s) (length s) c.in-Some.place found.0 found.1, rw (← first_position (no_day s) (length s) (Some c.in-Some.place) found))

pub returns-in-None : goal.returns-in-None
returns-in-None c =
    let s = c.args.calendar.now in
    let none : Position (no_day s) (length s) None = search rules in
    none_is (no_day s) (length s) none
