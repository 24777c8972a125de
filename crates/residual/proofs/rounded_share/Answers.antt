-- `residual::rounded_share` meets its contract (K5): load × part and half of the sum fit 64 bits together, and their quotient by the sum is the nearest (K3). Assumes nothing.
use Prim.Native.Nat.{ℕ, ◌*◌, ◌≤◌}
use native.Mathlib.Nat.{mul-le-mul}
use native.Mathlib.Omega.{arith}
use Rattle.rounding.proofs.Laws.{half_added}
use Rattle.statement.specs.Split.{rounded_share}
use Rattle.residual.specs.Call.{load_most, base_most}
use Rattle.residual.specs.Progress.{Shareable}
use Rattle.residual.proofs.rounded_share.Goals as goal

product : {load part sum : ℕ} → Shareable load part sum → load * part ≤ load_most * base_most
product {load} {part} {sum} h = let within : part ≤ base_most = omega (arith, h.share, h.sum_within) in mul-le-mul h.load_within within

pub overflow_mul-result : goal.overflow_mul-result
overflow_mul-result c = omega (arith, product c.requires)

pub overflow_add-result : goal.overflow_add-result
overflow_add-result c = omega (arith, product c.requires, c.requires.sum_within)

pub returns : goal.returns
unfolding rounded_share
returns c = half_added _ _
