-- What every spread has (K5), over the record of the call: "give every point its whole Wh by the statement's running rule in list order .. Points and suppliers
-- both add up to the load, and each point is less than 1 Wh from its exact share. A load of zero over a base of zero gives zeros, then the exact shares too."
use Rattle.std.specs.Prelude.{ℕ, ◌≤◌, ◌<◌, ◌≡◌, false, length, get_or, take}
use Rattle.common.specs.Lists.{sum_of}
use Rattle.statement.specs.Split.{rounded_share}
use Rattle.statement.specs.Shares.{NearTo}
use Rattle.residual.specs.Spread.{Points, Outputs}
use Rattle.residual.specs.Call.{SpreadMet, unfit, bad_list, zeroed}

-- "by the statement's running rule in list order": the first i points have together what a statement gives to their bases (proofs/AddUp, `in_list_order`)
abbrev pub InListOrder : Type 0
InListOrder =
    (load given : ℕ) (before after : Points) (lent out : Outputs) → SpreadMet load before lent 0 given after out →
    (i : ℕ) → i ≤ length before.bases → sum_of (take i out.amounts) ≡ rounded_share load (sum_of (take i before.bases)) (sum_of before.bases)

-- "Points .. add up to the load" (proofs/AddUp, `points_add_up`)
abbrev pub PointsAddUp : Type 0
PointsAddUp =
    (load given : ℕ) (before after : Points) (lent out : Outputs) → SpreadMet load before lent 0 given after out →
    sum_of out.amounts ≡ load

-- "suppliers .. add up to the load", and so does the network's total (proofs/AddUp, `suppliers_add_up`)
abbrev pub SuppliersAddUp : Type 0
SuppliersAddUp =
    (load given : ℕ) (before after : Points) (lent out : Outputs) → SpreadMet load before lent 0 given after out →
    (sum_of out.totals ≡ load) × (given ≡ load)

-- "each point is less than 1 Wh from its exact share" load × base / base sum (proofs/Near, `points_near`)
abbrev pub PointsNear : Type 0
PointsNear =
    (load given : ℕ) (before after : Points) (lent out : Outputs) → SpreadMet load before lent 0 given after out →
    0 < sum_of before.bases → (i : ℕ) → i < length before.bases →
    NearTo (get_or out.amounts i 0) (sum_of before.bases) load (get_or before.bases i 0)

-- "then the exact shares too": over a base of zero the exact shares are 0, and so are every amount and total written; the load is 0 (proofs/Near, `no_base`)
abbrev pub NoBase : Type 0
NoBase =
    (load given : ℕ) (before after : Points) (lent out : Outputs) → SpreadMet load before lent 0 given after out →
    sum_of before.bases ≡ 0 → (load ≡ 0) × (out ≡ zeroed lent)

-- "A load of zero over a base of zero gives zeros": where rows 3 and 16 do not decline it, it is done (proofs/Near, `zero_over_zero`)
abbrev pub ZeroOverZero : Type 0
ZeroOverZero =
    (answered given : ℕ) (before after : Points) (lent out : Outputs) → SpreadMet 0 before lent answered given after out →
    unfit before lent ≡ false → bad_list before.suppliers ≡ false → sum_of before.bases ≡ 0 →
    (answered ≡ 0) × (given ≡ 0) × (out ≡ zeroed lent)
