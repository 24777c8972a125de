-- The call that spreads the residual load (K5): "After 3 for unequal list lengths or totals not 64 long, it refuses, in this order and leaving the outputs zero,
-- with 16 a supplier above 63 or a list that is empty or above 1,000 points, with 17 a load above 2,000,000,000 or a base sum above 6,000,000,000, and
-- with 18 a base sum of zero with a load."
use Rattle.std.specs.Prelude.{ℕ, ◌≡◌, Bool, not, ◌&&◌, ◌||◌, List, eqb, ltb, length, get_or}
use Rattle.common.specs.Below.{somewhere}
use Rattle.common.specs.Lists.{sum_of}
use Rattle.common.specs.Rows.{row, zeros}
use Rattle.residual.specs.Spread.{Points, Outputs, outputs, spread_of, network_of}

-- 3: "unequal list lengths or totals not 64 long"; the lists are suppliers, bases and amounts
abbrev pub unfit : Points → Outputs → Bool
unfit p lent =
    not (eqb (length p.suppliers) (length p.bases)) || not (eqb (length lent.amounts) (length p.bases)) || not (eqb (length lent.totals) 64)

-- the supplier of point i is above 63
abbrev pub supplier_above : List ℕ → ℕ → Bool
supplier_above suppliers i = ltb 63 (get_or suppliers i 0)

-- 16: "a supplier above 63 or a list that is empty or above 1,000 points"
abbrev pub bad_list : List ℕ → Bool
bad_list suppliers = somewhere (supplier_above suppliers) (length suppliers) || eqb (length suppliers) 0 || ltb 1_000 (length suppliers)

abbrev pub load_most : ℕ
load_most = 2_000_000_000

abbrev pub base_most : ℕ
base_most = 6_000_000_000

-- 17: "a load above 2,000,000,000 or a base sum above 6,000,000,000"; it is the sum of the numbers, however many bits that takes
abbrev pub too_much : (load : ℕ) (bases : List ℕ) → Bool
too_much load bases = ltb load_most load || ltb base_most (sum_of bases)

-- 18: "a base sum of zero with a load"
abbrev pub load_without_base : (load : ℕ) (bases : List ℕ) → Bool
load_without_base load bases = eqb (sum_of bases) 0 && ltb 0 load

abbrev pub zeroed : Outputs → Outputs
zeroed lent = outputs (zeros lent.amounts) (zeros lent.totals)

-- what the table lays down for a call: the number, the network's total that is returned, and what the outputs then hold
pub record Ruling : Type 0 where
  pub number : ℕ
  pub total : ℕ
  pub memory : Outputs

abbrev pub ruling : (load : ℕ) → Points → (lent : Outputs) → Ruling
ruling load p lent =
    row (unfit p lent) (record { number = 3; total = 0; memory = lent })  -- unequal list lengths or totals not 64 long
    (row (bad_list p.suppliers) (record { number = 16; total = 0; memory = zeroed lent })  -- a supplier above 63, or a list that is empty or above 1,000 points
    (row (too_much load p.bases) (record { number = 17; total = 0; memory = zeroed lent })  -- a load above 2,000,000,000 or a base sum above 6,000,000,000
    (row (load_without_base load p.bases) (record { number = 18; total = 0; memory = zeroed lent })  -- a base sum of zero with a load
    (record { number = 0; total = network_of (spread_of load p); memory = spread_of load p }))))

pub record SpreadMet (load : ℕ) (before : Points) (lent : Outputs) (answered given : ℕ) (after : Points) (out : Outputs) : Type 0 where
  pub answers : answered ≡ (ruling load before lent).number
  pub gives : given ≡ (ruling load before lent).total
  pub stays : after ≡ before
  pub writes : out ≡ (ruling load before lent).memory
