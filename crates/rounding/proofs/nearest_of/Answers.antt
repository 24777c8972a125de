-- `rounding::nearest_of` meets its contract (the paper's first paragraph): the quotient, or one more where the remainder is at least half of d. Assumes nothing.
use Rattle.std.proofs.Common.{◌≡◌, ℕ, ◌+◌, ◌-◌, ◌/◌, ◌%◌, ◌≤◌, ◌<◌, sym, arith}
use Rattle.std.proofs.Math.Nat.{div-add-mod', mod-lt}
use Rattle.rounding.specs.Nearest.{nearest}
use Rattle.rounding.proofs.Laws.{nearest_only, nearest_zero}
use Rattle.rounding.proofs.nearest_of.Goals as goal

down : (x d : ℕ) → 0 < d → x % d < d - x % d → x / d ≡ nearest x d
down x d pos small =
    nearest_only x d (x / d) pos
    (record { not_above = omega (arith, div-add-mod' x d); not_below = omega (arith, div-add-mod' x d) })

up : (x d : ℕ) → 0 < d → d - x % d ≤ x % d → x / d + 1 ≡ nearest x d
up x d pos large =
    let less : x % d < d = mod-lt x pos in
    nearest_only x d (x / d + 1) pos
    (record { not_above = omega (arith, div-add-mod' x d); not_below = omega (arith, div-add-mod' x d) })

pub returns-then-d-eq0 : goal.returns-then-d-eq0
returns-then-d-eq0 c = rw c.if-d-eq0.true (sym (nearest_zero _))

pub returns-then-rest-d : goal.returns-then-rest-d
returns-then-rest-d c = down c.args.x c.args.d (omega arith) c.if-rest-d.true

pub returns-else-rest-d : goal.returns-else-rest-d
returns-else-rest-d c = up c.args.x c.args.d (omega arith) c.if-rest-d.false
