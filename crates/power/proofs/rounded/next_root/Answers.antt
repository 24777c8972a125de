-- `power::rounded::next_root` meets its contract (Profile value), case by case as its definition.
-- Assumes nothing.
use mathlib.Core.Path.{◌≡◌}
use Prim.Native.Nat.{ℕ, ◌*◌, ◌≤◌}
use native.Mathlib.Nat.{mul-le-mul}
use native.Mathlib.Omega.{arith}
use borrow.Author.Tests.{lt-ltb, le-ltb}
use Rattle.power.specs.declared.rounded.Rounding.TheVariants.{Down}
use Rattle.power.specs.Power.{one, sqrt_down, sqrt_up, square_root, next_root}
use Rattle.power.proofs.AtMostOne.{next_le}
use Rattle.power.proofs.rounded.next_root.Goals as goal

-- the root rounded down, as `root_down` gives it, is at most one
at_most_one : (r s : ℕ) → r ≤ one → s ≡ sqrt_down (r * one) → s ≤ one
unfolding next_root square_root
at_most_one r s h e = rw e (next_le Down r h)

pub overflow_mul-s : goal.overflow_mul-s
unfolding one
overflow_mul-s c =
    let h = at_most_one _ _ c.requires c.root_down-s.ensures in
    omega (arith, mul-le-mul h h)

pub overflow_mul-r : goal.overflow_mul-r
unfolding one
overflow_mul-r c = omega arith

pub overflow_add-result : goal.overflow_add-result
unfolding one
overflow_add-result c = omega (arith, at_most_one _ _ c.requires c.root_down-s.ensures)

pub returns-in-Down : goal.returns-in-Down
unfolding next_root square_root
returns-in-Down c = rw c.in-Down.is c.root_down-s.ensures

pub returns-then-s-r : goal.returns-then-s-r
unfolding next_root square_root sqrt_up one
returns-then-s-r c = rw (c.in-Up.is, ← c.root_down-s.ensures, lt-ltb _ _ c.if-s-r.true)

pub returns-else-s-r : goal.returns-else-s-r
unfolding next_root square_root sqrt_up one
returns-else-s-r c = rw (c.in-Up.is, ← c.root_down-s.ensures, le-ltb _ _ c.if-s-r.false)
