-- `profile::Profile::by_number` meets its contract (Profiles): above 9 there is no profile in the table, and a profile of it has a week of 70,000.
-- Assumes nothing.
use Rattle.std.proofs.Common.{rules, sym}
use lib.ListN.{get_or-eq_default}
use Rattle.profile.specs.Coefficients.{table, no_profile, profile_of}
use Rattle.profile.proofs.Tested.{profile_tested}
use Rattle.profile.proofs.Profile.by_number.Goals as goal

pub returns-then-number-ge-COUNT-clause-by_number_met : goal.returns-then-number-ge-COUNT-clause-by_number_met
unfolding profile_of
returns-then-number-ge-COUNT-clause-by_number_met c =
    record {
      answers = search rules;
      gives = sym (get_or-eq_default table no_profile c.if-number-ge-COUNT.true);
      week = search rules;
    }

pub returns-clause-by_number_met : goal.returns-clause-by_number_met
returns-clause-by_number_met c =
    record {
      answers = search rules;
      gives = c.profile_at.ensures;
      week = λ e. rw c.profile_at.ensures (profile_tested c.args.number c.if-number-ge-COUNT.false).week;
    }
