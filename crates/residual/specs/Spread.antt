-- The residual load spread over the points of a network (K5): operators "share it over their points, as source document 000 does with its factor of residual
-- load over base sum. For a list of points, each with supplier number 0 to 63 and base amount, give every point its whole Wh by the statement's running
-- rule in list order, then each supplier's total, then the network's."
use Rattle.std.specs.Prelude.{ℕ, zero, suc, ◌+◌, ◌-◌, cond, List, eqb, length, get_or, take}
use Rattle.common.specs.Lists.{list_of, sum_of}
use Rattle.statement.specs.Split.{rounded_share}

-- "a list of points, each with supplier number 0 to 63 and base amount"; "Supplier numbers are bytes; base amounts .. have 64 bits", as the call's slices have
pub record Points : Type 0 where
  pub suppliers : List ℕ
  pub bases : List ℕ

abbrev pub points : List ℕ → List ℕ → Points
points s b = record { suppliers = s; bases = b }

-- what the points before point i have together: load × their bases / base sum, rounded as a statement rounds E × Zk / Z
unfoldable pub share_before : (load : ℕ) (bases : List ℕ) → ℕ → ℕ
share_before load bases i = rounded_share load (sum_of (take i bases)) (sum_of bases)

-- the Wh of point i: what it and those before it have, less what those before it have
abbrev pub amount_of : (load : ℕ) (bases : List ℕ) → ℕ → ℕ
amount_of load bases i = share_before load bases (suc i) - share_before load bases i

-- "every point its whole Wh .. in list order"
unfoldable pub amounts_of : (load : ℕ) (bases : List ℕ) → List ℕ
amounts_of load bases = list_of (amount_of load bases) (length bases)

-- the sum of the amounts of those of the first m points that have supplier s
unfoldable pub total_of : (suppliers amounts : List ℕ) (s : ℕ) → ℕ → ℕ
total_of suppliers amounts s zero = 0
total_of suppliers amounts s (suc m) = total_of suppliers amounts s m + cond (eqb (get_or suppliers m 0) s) (get_or amounts m 0) 0

-- "then each supplier's total": one for each number 0 to 63
unfoldable pub totals_of : (suppliers amounts : List ℕ) → List ℕ
totals_of suppliers amounts = list_of (λ s. total_of suppliers amounts s (length amounts)) 64

-- what a call writes: an amount for each point, and a total for each supplier
pub record Outputs : Type 0 where
  pub amounts : List ℕ
  pub totals : List ℕ

abbrev pub outputs : List ℕ → List ℕ → Outputs
outputs a t = record { amounts = a; totals = t }

abbrev pub spread_of : (load : ℕ) → Points → Outputs
spread_of load p = outputs (amounts_of load p.bases) (totals_of p.suppliers (amounts_of load p.bases))

-- "then the network's"
abbrev pub network_of : Outputs → ℕ
network_of o = sum_of o.totals
