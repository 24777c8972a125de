-- `page::lines` meets its contract (K4). Assumes nothing.
use Prim.Native.Nat.{ℕ, ◌+◌}
use mathlib.Core.List.{List, ◌++◌}
use mathlib.Core.Path.{sym, ap, ◌∙◌}
use native.Mathlib.Omega.{arith}
use lib.ListN.{take, drop}
use Rattle.std.proofs.lemmas.List.{length-take-le}
use Rattle.layout.proofs.Sums.{total_none}
use Rattle.page.specs.Page.{aligned, page_length}
use Rattle.layout.specs.Parts.{held}
use Rattle.page.proofs.Stored.{heading_first, page_none, sum_more, line_small, line_more}
use Rattle.page.proofs.lines.Goals as goal

pub slice_bounds-copy_from_slice-end-2 : goal.slice_bounds-copy_from_slice-end-2
slice_bounds-copy_from_slice-end-2 c = sym (length-take-le 41 c.args.page.now (omega arith))

pub copy_from_slice-requires : goal.copy_from_slice-requires
copy_from_slice-requires c = length-take-le 41 c.args.page.now (omega arith)

pub loop-i-init : goal.loop-i-init
unfolding aligned
loop-i-init c = record {
  sum = sym (total_none (held c.args.parts));
  front = heading_first _ (drop 41 c.args.page.now) (ap (λ (x : List ℕ). x ++ drop 41 c.args.page.now) c.copy_from_slice.ensures.after) ∙ sym (page_none (held c.args.parts));
}

pub overflow_add-sum : goal.overflow_add-sum
overflow_add-sum c =
    let l = c.loop-i in
    let small = line_small (held c.args.parts) l.i l.sum l.invariant.sum (c.requires.printable.small l.i c.loop-i-test.true) in
    record { fits = omega (arith, small.sum_small) }

pub line-requires : goal.line-requires
line-requires c =
    let l = c.loop-i in
    let small = line_small (held c.args.parts) l.i l.sum l.invariant.sum (c.requires.printable.small l.i c.loop-i-test.true) in
    (omega arith, small)

pub loop-i-preserved : goal.loop-i-preserved
loop-i-preserved c =
    let l = c.loop-i in
    let o = held c.args.parts in
    let small = c.requires.printable.small l.i c.loop-i-test.true in
    record {
      sum = sum_more o l.i l.sum l.invariant.sum small;
      front = ap (take (page_length (l.i + 1))) c.line.ensures ∙ line_more o l.i l.sum l.invariant.sum small l.page (omega arith) l.invariant.front;
    }
