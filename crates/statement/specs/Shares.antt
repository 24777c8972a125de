-- Exact shares and sums of a statement (Account and its calls, "Statement"): "Adjacent readings p and q enclose the parts and the
-- marked boundaries from p to q, both ends included. A part's exact share is E × its weights / Z; the energy between p and a
-- boundary is the sum of Wh of the parts from p to it."
use Rattle.std.specs.Prelude.{ℕ, zero, suc, ◌+◌, ◌-◌, ◌*◌, ◌≤◌, ◌<◌, ◌≡◌, Bool, true, false, cond, ◌&&◌, List, leb, get_or}
use Rattle.account.specs.Stands.{Readings}
use Rattle.statement.specs.Split.{weight_sum}
use Rattle.statement.specs.Parts.{Outputs}

-- p and q are adjacent among the boundaries at which this is so (a reading stands, or any mark)
pub record Adjacent (at : ℕ → Bool) (p q : ℕ) : Type 0 where
  pub ordered : p < q
  pub at_p : at p ≡ true
  pub at_q : at q ≡ true
  pub none_between : (k : ℕ) → p < k → k < q → at k ≡ false

-- wh is less than 1 Wh from the exact share e × part / z
pub record NearTo (wh z e part : ℕ) : Type 0 where
  pub not_above : wh * z < e * part + z
  pub not_below : e * part < wh * z + z

-- the Wh of a part from f to t is that near to its exact share E × its weights / Z between the readings at p and q
abbrev pub NearShare : List ℕ → Readings → (p q f t wh : ℕ) → Type 0
NearShare w r p q f t wh = NearTo wh (weight_sum w p q) (r.count q - r.count p) (weight_sum w f t)

-- a part from f to t lies between two adjacent readings, and is that near to its share
pub record Shared (w : List ℕ) (r : Readings) (f t wh : ℕ) : Type 0 where
  pub p : ℕ
  pub q : ℕ
  pub adjacent : Adjacent r.at p q
  pub starts : p ≤ f
  pub ends : t ≤ q
  pub near : NearShare w r p q f t wh

-- the Wh written for the first m parts
unfoldable pub total : Outputs → ℕ → ℕ
total o zero = 0
total o (suc m) = total o m + get_or o.wh m 0

-- the Wh written for those of the first m parts that lie between p and b
unfoldable pub energy : Outputs → ℕ → ℕ → ℕ → ℕ
energy o p b zero = 0
energy o p b (suc m) = energy o p b m + cond (leb p (get_or o.from m 0) && leb (get_or o.to m 0) b) (get_or o.wh m 0) 0
