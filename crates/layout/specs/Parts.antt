-- Short names for the contracts about the parts of a statement that are lent to be read (Case file, the program's output).
use Rattle.std.specs.Prelude.{ℕ, ◌≤◌, ◌≡◌, Bool, ltb, length, get_or}
use Rattle.profile.specs.Limits.{span_most}
use Rattle.common.specs.Below.{somewhere}
use Rattle.account.specs.Account.{energy_most}
use Rattle.statement.specs.Parts.{Outputs, outputs}
use Rattle.layout.specs.declared.Parts as declared

-- what the slices hold
abbrev pub held : declared.Parts → Outputs
held p = outputs p.from.now p.to.now p.wh.now

-- the number of parts
abbrev pub count : declared.Parts → ℕ
count p = length p.from.now

-- each slice has that length, and an account can have as many parts
pub record Fit (p : declared.Parts) : Type 0 where
  pub span : count p ≤ span_most
  pub to : length p.to.now ≡ count p
  pub wh : length p.wh.now ≡ count p

-- one of the first m parts has more Wh than an account can have
abbrev pub too_great : Outputs → ℕ → Bool
too_great o m = somewhere (λ i. ltb energy_most (get_or o.wh i 0)) m
