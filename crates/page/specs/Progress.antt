-- What the private functions of crate page ask of and promise each other (K4).
use Rattle.std.specs.Prelude.{ℕ, suc, ◌≤◌, ◌<◌, ◌≡◌, List, length, get_or}
use Rattle.profile.specs.Limits.{span_most}
use Rattle.account.specs.Account.{energy_most}
use Rattle.statement.specs.Parts.{Outputs}
use Rattle.statement.specs.Shares.{total}
use Rattle.page.specs.Call.{length_row}

-- the numbers of a line are within the limits of an account
pub record Small (from to wh sum : ℕ) : Type 0 where
  pub from_small : from ≤ span_most
  pub to_small : to ≤ span_most
  pub wh_small : wh ≤ energy_most
  pub sum_small : sum ≤ energy_most

-- so are those of part i and the running sum
abbrev pub PartSmall : Outputs → (i : ℕ) → Type 0
PartSmall o i = Small (get_or o.from i 0) (get_or o.to i 0) (get_or o.wh i 0) (total o (suc i))

-- the first m parts of these outputs can be printed
pub record Printable (o : Outputs) (m : ℕ) : Type 0 where
  pub span : m ≤ span_most
  pub from_there : m ≤ length o.from
  pub to_there : m ≤ length o.to
  pub wh_there : m ≤ length o.wh
  pub small : (i : ℕ) → i < m → PartSmall o i

-- the last row, and the page
pub record LengthMet (parts : ℕ) (text lent : List ℕ) (answered given : ℕ) (page : List ℕ) : Type 0 where
  pub answers : answered ≡ (length_row parts text lent).number
  pub gives : given ≡ (length_row parts text lent).size
  pub writes : page ≡ (length_row parts text lent).memory
