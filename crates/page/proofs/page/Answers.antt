-- `page::page` meets its contract (K4). Assumes nothing.
use Prim.Native.Nat.{ℕ}
use mathlib.Core.Path.{refl}
use mathlib.Core.List.{List}
use native.Mathlib.Omega.{arith}
use lib.ListN.{length, replicate}
use Rattle.profile.specs.Limits.{span_most}
use Rattle.account.specs.Account.{account}
use Rattle.page.proofs.Table.{ruled, too_long, cut_fits}
use Rattle.page.proofs.page.Goals as goal

pub returns-then-n-gt-SPAN_MOST : goal.returns-then-n-gt-SPAN_MOST
returns-then-n-gt-SPAN_MOST c =
    let a = c.args in
    let b = account a.weights.now a.marks.now a.counts.now in
    ruled b a.page.now _ (too_long b a.page.now c.if-n-gt-SPAN_MOST.true) refl

pub with_outputs-requires : goal.with_outputs-requires
with_outputs-requires c =
    let none : List ℕ = replicate span_most 0 in
    cut_fits (length c.args.weights.now) none none none (omega arith) (omega arith) (omega arith)
