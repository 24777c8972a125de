-- The slices of a statement cut to its parts (K4): their page is the same, and can be printed. Assumes nothing.
use Prim.Native.Nat.{ℕ, zero, suc, ◌≤◌}
use mathlib.Core.Path.{◌≡◌, refl}
use mathlib.Core.Bool.{false}
use mathlib.Core.List.{List}
use lib.ListN.{length, take}
use native.Mathlib.Omega.{arith}
use lib.Seq.{length-take-le}
use Rattle.std.proofs.lemmas.List.{get_or-take}
use Rattle.account.specs.Account.{Account, days}
use Rattle.statement.specs.Parts.{Outputs}
use Rattle.statement.specs.Call.{StatementMet, unfit_outputs}
use Rattle.layout.proofs.Cut.{cut, total_cut}
use Rattle.page.specs.Page.{page_text}
use Rattle.page.specs.Call.{ruling, length_row}
use Rattle.page.specs.Progress.{Printable}
use Rattle.page.proofs.Table.{told_done}

module _ (m : ℕ) (o : Outputs) where
  page_below : (k : ℕ) → k ≤ m → page_text (cut m o) k ≡ page_text o k
  unfolding page_text
  page_below zero h = refl
  page_below (suc k) h =
      rw (page_below k (omega arith), get_or-take m o.from k 0 (omega arith), get_or-take m o.to k 0 (omega arith), get_or-take m o.wh k 0 (omega arith), total_cut m o (suc k) h)
      refl

  module _ (n : ℕ) (all : n ≡ m) where
    page_cut : page_text (cut m o) n ≡ page_text o m
    page_cut = rw all (page_below m (omega arith))

    printable_cut : Printable o m → Printable (cut m o) n
    printable_cut p =
        record {
          span = omega (arith, p.span);
          from_there = omega (arith, length-take-le m o.from p.from_there);
          to_there = omega (arith, length-take-le m o.to p.to_there);
          wh_there = omega (arith, length-take-le m o.wh p.wh_there);
          small = λ i h.
              rw (get_or-take m o.from i 0 (omega arith), get_or-take m o.to i 0 (omega arith), get_or-take m o.wh i 0 (omega arith), total_cut m o (suc i) (omega arith))
              (p.small i (omega arith));
        }

-- what the statement call gave, of its outputs cut to the parts: the last row, and parts that can be printed
pub told_cut : (a : Account) (o : Outputs) → unfit_outputs (days a) o ≡ false → (count : ℕ) (out : Outputs) → StatementMet a o 0 count a out → (lent : List ℕ) →
    (ruling a lent ≡ length_row (length (take count out.from)) (page_text (cut count out) (length (take count out.from))) lent) ×
    Printable (cut count out) (length (take count out.from))
told_cut a o long count out met lent =
    let (row, fits) = told_done a o long count out met lent in
    let all = length-take-le count out.from fits.from_there in
    (rw (page_cut count out _ all, all) row, printable_cut count out _ all fits)
