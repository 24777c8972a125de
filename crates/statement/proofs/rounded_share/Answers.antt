-- `statement::rounded_share` meets its contract (K3): e × zk and half of z fit 64 bits together, and their quotient by z is the nearest. Assumes nothing.
use Prim.Native.Nat.{ℕ, ◌*◌, ◌≤◌}
use native.Mathlib.Nat.{mul-le-mul}
use native.Mathlib.Omega.{arith}
use Rattle.rounding.proofs.Laws.{half_added}
use Rattle.profile.specs.Limits.{span_most, weight_most}
use Rattle.account.specs.Account.{energy_most}
use Rattle.statement.specs.Split.{rounded_share}
use Rattle.statement.specs.Progress.{Splittable}
use Rattle.statement.proofs.rounded_share.Goals as goal

product : {e zk z : ℕ} → Splittable 0 e zk z → e * zk ≤ energy_most * (span_most * weight_most)
product h = omega (arith, mul-le-mul h.energy h.share, mul-le-mul h.energy h.sum)

pub overflow_mul-result : goal.overflow_mul-result
overflow_mul-result c = omega (arith, product c.requires)

pub overflow_add-result : goal.overflow_add-result
overflow_add-result c = omega (arith, product c.requires, c.requires.sum)

pub returns : goal.returns
unfolding rounded_share
returns c = half_added _ _
