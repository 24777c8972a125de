-- A part's share and a succession of parts (Account and its calls, "Statement"), each of all that specs/Shares and specs/Facts ask of it.
-- They stand apart from the proofs of what is asked, since must-fail edits change a field here. Assumes nothing.
use Prim.Native.Nat.{ℕ, suc, ◌-◌, ◌≤◌, ◌<◌}
use mathlib.Core.Path.{◌≡◌}
use mathlib.Core.List.{List}
use lib.ListN.{get_or}
use Rattle.common.specs.Below.{how_many}
use Rattle.account.specs.Stands.{Stands, Readings, first_reading, last_reading}
use Rattle.statement.specs.Parts.{Outputs, marked}
use Rattle.statement.specs.Shares.{Adjacent, NearShare, Shared}
use Rattle.statement.specs.Facts.{bounds_part, Successive}

pub share : {w : List ℕ} {r : Readings} {f t wh : ℕ} (p q : ℕ) → Adjacent r.at p q → p ≤ f → t ≤ q → NearShare w r p q f t wh → Shared w r f t wh
share p q adjacent starts ends near = record { p = p; q = q; adjacent = adjacent; starts = starts; ends = ends; near = near }

module _ {n : ℕ} {s : Stands} {o : Outputs} {m : ℕ} where
  pub succession : 0 < m → get_or o.from 0 0 ≡ first_reading n s.readings → get_or o.to (m - 1) 0 ≡ last_reading n s.readings
      → ((i : ℕ) → suc i < m → get_or o.from (suc i) 0 ≡ get_or o.to i 0) → ((i : ℕ) → i < m → Adjacent (marked s) (get_or o.from i 0) (get_or o.to i 0))
      → suc m ≡ how_many (bounds_part n s) (suc n) → Successive n s o m
  succession not_empty starts ends joined each in_number =
      record { not_empty = not_empty; starts = starts; ends = ends; joined = joined; each = each; in_number = in_number }
