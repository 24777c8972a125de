-- How far a statement is written (Account and its calls, "Statement"): what the private functions promise each other.
use Rattle.std.specs.Prelude.{ℕ, suc, ◌+◌, ◌-◌, ◌*◌, ◌^◌, ◌≤◌, ◌<◌, ◌≡◌, true, false, List, [], length, get_or, set}
use Rattle.profile.specs.Limits.{span_most, weight_most}
use Rattle.common.specs.Below.{how_many, last}
use Rattle.account.specs.Stands.{Stands}
use Rattle.account.specs.Account.{Account, days, shown, marks_reading, energy_most}
use Rattle.account.specs.Slices.{Checked}
use Rattle.statement.specs.declared.Progress.{Progress}
use Rattle.statement.specs.Split.{has}
use Rattle.statement.specs.Parts.{Outputs, outputs, marked, parts_below, parts_of, written}
use Rattle.statement.specs.Shares.{Adjacent}

-- r is the first reading at or after boundary k
pub record NextReading (marks : List ℕ) (k r : ℕ) : Type 0 where
  pub after : k ≤ r
  pub none_before : (j : ℕ) → k ≤ j → j < r → marks_reading (get_or marks j 0) ≡ false
  pub within : r < length marks
  pub there : marks_reading (get_or marks r 0) ≡ true

-- there is none
pub record NoReading (marks : List ℕ) (k : ℕ) : Type 0 where
  pub none : (j : ℕ) → k ≤ j → j < length marks → marks_reading (get_or marks j 0) ≡ false

-- numbers of which low + nearest(e × zk / z) can be formed
pub record Splittable (low e zk z : ℕ) : Type 0 where
  pub positive : 0 < z
  pub share : zk ≤ z
  pub sum : z ≤ span_most * weight_most
  pub energy : e ≤ energy_most
  pub room : low + e < 2 ^ 64

-- the outputs hold the parts that end below boundary m, and zeros past them;
-- so many `parts` there are, and the next starts at the boundary `start`, which has `count`
pub record Written (w : List ℕ) (s : Stands) (m : ℕ) (o : Outputs) (d : Progress) : Type 0 where
  pub holds : o ≡ written (length w) (parts_below w s m)
  pub parts : d.parts ≡ length (parts_below w s m)
  pub start : d.start ≡ last (marked s) m
  pub count : d.count ≡ has w s.readings (last (marked s) m)

-- the parts up to the reading at which the next part starts are written, and q is the next reading
pub record Interval (a : Account) (q : ℕ) (o : Outputs) (d : Progress) : Type 0 where
  pub checked : Checked a
  pub within : q ≤ days a
  pub adjacent : Adjacent (shown a).readings.at d.start q
  pub so_far : Written a.weights (shown a) (d.start + 1) o d

-- a checked account with a reading, and outputs that are zero
pub record Fillable (a : Account) (o : Outputs) : Type 0 where
  pub checked : Checked a
  pub has_reading : 0 < how_many (shown a).readings.at (suc (days a))
  pub clear : o ≡ written (days a) []

-- the outputs hold every part, and m is their number
pub record Filled (a : Account) (o : Outputs) (m : ℕ) : Type 0 where
  pub holds : o ≡ written (days a) (parts_of a.weights (shown a))
  pub in_number : m ≡ length (parts_of a.weights (shown a))

-- a part can be added: there is room for it, its boundaries fit 16 bits, and its end has at least what its start has
pub record Addable (o : Outputs) (d : Progress) (end count : ℕ) : Type 0 where
  pub from : d.parts < length o.from
  pub to : d.parts < length o.to
  pub wh : d.parts < length o.wh
  pub starts : d.start < 65_536
  pub ends : end < 65_536
  pub rises : d.count ≤ count

-- the outputs and the progress after a part to `end`, which has `count`
abbrev pub with_part : Outputs → Progress → ℕ → ℕ → Outputs
with_part o d end count =
    outputs
    (set o.from d.parts d.start)
    (set o.to d.parts end)
    (set o.wh d.parts (count - d.count))

abbrev pub next_part : Progress → ℕ → ℕ → Progress
next_part d end count = record { start = end; count = count; parts = d.parts + 1 }
