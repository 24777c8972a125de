-- One-step laws for a pass over the parts (Case file): the total, the lines. Assumes nothing.
use mathlib.Core.Path.{◌≡◌, refl, sym, ap, ◌∙◌}
use mathlib.Core.Bool.{false}
use mathlib.Core.List.{[], ◌++◌}
use Prim.Native.Nat.{ℕ, zero, suc, ◌+◌, ◌*◌, ◌≤◌}
use native.Mathlib.Numerals.{add-one}
use native.Mathlib.Omega.{arith}
use borrow.Author.Tests.{ltb-false}
use lib.Dec.{ltb}
use lib.ListN.{length, get_or, take}
use Rattle.std.specs.List.{sum}
use Rattle.std.proofs.lemmas.List.{take_all}
use Rattle.std.proofs.lemmas.List.Sums.{sum_by_more}
use Rattle.common.specs.Below.{somewhere}
use Rattle.common.proofs.Below.{neither}
use Rattle.account.specs.Account.{energy_most}
use Rattle.statement.specs.Parts.{Outputs}
use Rattle.statement.specs.Shares.{total}
use Rattle.layout.specs.Text.{part_lines, line_of}

pub total_none : (o : Outputs) → total o 0 ≡ 0
unfolding total
total_none o = refl

pub total_more : (o : Outputs) (i : ℕ) → total o (i + 1) ≡ total o i + get_or o.wh i 0
unfolding total
total_more o i = rw add-one

-- the total is the sum of the list, and small where no part is too great
front_sum : (o : Outputs) (m : ℕ) → m ≤ length o.wh → sum (take m o.wh) ≡ total o m
unfolding total
front_sum o zero h = refl
front_sum o (suc m) h = rw (← add-one) (omega (arith, sum_by_more (λ x. x) o.wh m 0 (omega arith), front_sum o m (omega arith), total_more o m))

pub total_sum : (o : Outputs) (m : ℕ) → length o.wh ≡ m → sum o.wh ≡ total o m
total_sum o m long = sym (ap sum (take_all m o.wh (omega arith))) ∙ front_sum o m (omega arith)

pub total_small : (o : Outputs) (m : ℕ) → somewhere (λ i. ltb energy_most (get_or o.wh i 0)) m ≡ false → total o m ≤ m * energy_most
unfolding total somewhere
total_small o zero none = omega arith
total_small o (suc m) none =
    let (before, last) = neither (somewhere (λ i. ltb energy_most (get_or o.wh i 0)) m) (ltb energy_most (get_or o.wh m 0)) none in
    omega (arith, total_small o m before, ltb-false energy_most (get_or o.wh m 0) last)

pub lines_none : (o : Outputs) → part_lines o 0 ≡ []
unfolding part_lines
lines_none o = refl

pub lines_more : (o : Outputs) (i : ℕ) →
    part_lines o (i + 1) ≡ part_lines o i ++ line_of (get_or o.from i 0) (get_or o.to i 0) (get_or o.wh i 0)
unfolding part_lines
lines_more o i = rw add-one
