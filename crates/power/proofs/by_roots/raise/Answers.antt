-- `power::by_roots::raise` meets its contract (Profile value), turn by turn as its definition.
-- Assumes nothing.
use Rattle.std.proofs.Common.{◌≡◌, ◌+◌, ◌-◌, sym, ◌∙◌, arith}
use Rattle.power.specs.Power.{one}
use Rattle.power.proofs.AtMostOne.{product_le}
use Rattle.power.proofs.Steps.{raise_done, raise_turn}
use Rattle.power.proofs.by_roots.raise.Goals as goal

pub loop-init : goal.loop-init
unfolding one
loop-init c =
    let whole : c.args.n - 0 ≡ c.args.n = omega arith in
    (rw whole, omega arith)

pub loop-preserved : goal.loop-preserved
loop-preserved c =
    let less : c.args.n - (c.loop.counter + 1) ≡ c.args.n - c.loop.counter - 1 = omega arith in
    rw (less, c.product-p.ensures)
    (sym (raise_turn _ (c.args.n - c.loop.counter) _ _ (omega arith)) ∙ c.loop.invariant.0, product_le _ _ _ c.loop.invariant.1 c.requires)

pub returns : goal.returns
returns c = sym (raise_done _ (c.args.n - c.loop.counter) _ _ (omega arith)) ∙ c.loop.invariant.0
