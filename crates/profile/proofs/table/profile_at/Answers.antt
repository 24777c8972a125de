-- `profile::table::profile_at` meets its contract (Profiles): the code's table is that of the definitions, by computation.
-- Assumes nothing.
use Rattle.std.proofs.lemmas.List.{get_or_default}
use Rattle.profile.specs.Coefficients.{table, no_profile, profile_of}
use Rattle.profile.proofs.table.profile_at.Goals as goal

pub returns : goal.returns
unfolding profile_of
returns c = rw c.from.ensures (get_or_default table c.args.profile _ no_profile c.requires)
