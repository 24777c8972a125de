-- What the private functions of crate residual ask of and promise each other (K5).
use Rattle.std.specs.Prelude.{ℕ, ◌≤◌, ◌<◌, ◌≡◌, false, List, length, replicate}
use Rattle.common.specs.Lists.{sum_of}
use Rattle.common.specs.declared.refusal.Refusal.{Refusal}
use Rattle.common.specs.declared.refusal.Refusal.TheVariants.{TooMuchLoad}
use Rattle.residual.specs.declared.Points as declared
use Rattle.residual.specs.Spread.{Points, points, Outputs}
use Rattle.residual.specs.Call.{bad_list, load_most, base_most}

-- the points that are lent to be read
abbrev pub lent : declared.Points → Points
lent p = points p.suppliers.now p.bases.now

-- lengths that row 3 does not decline, and outputs that are zero
pub record Cleared (p : Points) (o : Outputs) : Type 0 where
  pub suppliers_long : length p.suppliers ≡ length p.bases
  pub amounts_clear : o.amounts ≡ replicate (length p.bases) 0
  pub totals_clear : o.totals ≡ replicate 64 0

-- a base sum within the limit
pub record Limited (bases : List ℕ) (sum : ℕ) : Type 0 where
  pub sum_is : sum ≡ sum_of bases
  pub sum_within : sum ≤ base_most

-- the row of one that is above it
pub record Unlimited (bases : List ℕ) (row : Refusal) : Type 0 where
  pub row_is : row ≡ TooMuchLoad
  pub above : base_most < sum_of bases

-- numbers of which `rounded_share` can be formed
pub record Shareable (load part sum : ℕ) : Type 0 where
  pub positive : 0 < sum
  pub share : part ≤ sum
  pub sum_within : sum ≤ base_most
  pub load_within : load ≤ load_most

-- a load that can be spread over these points, whose bases have this sum above 0
pub record Spreadable (load sum : ℕ) (p : Points) : Type 0 where
  pub sum_is : sum ≡ sum_of p.bases
  pub positive : 0 < sum
  pub sum_within : sum ≤ base_most
  pub load_within : load ≤ load_most
  pub good_list : bad_list p.suppliers ≡ false
