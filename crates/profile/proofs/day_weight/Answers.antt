-- `profile::day_weight` meets its contract (Profiles): a weight that is given lies in the range of the whole table.
-- Assumes nothing.
use Rattle.std.proofs.Common.{rules, ◌∙◌, arith, sym}
use mir.Facts.{to_z-of_z}
use Rattle.profile.proofs.Bounds.{whole_table}
use Rattle.profile.proofs.day_weight.Goals as goal

pub returns : goal.returns
returns c =
    let range = sym (simp (to_z-of_z c.ranges.t) at c.in_range.ensures) ∙ c.if-not-in_range.false in
    let is = simp (to_z-of_z c.ranges.t) at c.weight_at.ensures in
    let known = whole_table c.args.profile c.args.weekday c.args.t c.if-profile-ge-COUNT.false (omega arith) range in
    record {
      answers = search rules;
      places = search rules;
      gives = search rules;
      least = λ z. rw is known.1;
      most = λ z. rw is known.2;
    }
