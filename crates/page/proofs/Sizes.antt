-- How long a page is (K4): a text in its columns, a line, and the heading with the lines of the parts. Assumes nothing.
use Prim.Native.Nat.{ℕ, zero, suc, ◌+◌, ◌≤◌, ◌<◌}
use mathlib.Core.Path.{◌≡◌, refl}
use mathlib.Core.List.{List}
use native.Mathlib.Omega.{arith}
use lib.ListN.{length, length-append, length-replicate}
use Rattle.profile.specs.Limits.{span_most}
use Rattle.account.specs.Account.{energy_most}
use Rattle.statement.specs.Parts.{Outputs}
use Rattle.layout.specs.Text.{decimal}
use Rattle.layout.proofs.Decimal.{few_digits}
use Rattle.page.specs.Page.{aligned, in_columns, heading, page_line, page_text, page_length}
use Rattle.page.specs.Progress.{Small, PartSmall}

pub aligned_long : (width : ℕ) (text : List ℕ) → length text ≤ width → length (aligned width text) ≡ width
unfolding aligned
aligned_long width text fits = simp (length-append, length-replicate) (omega arith)

-- four texts that are not wider than their columns
pub record Fits (from to wh sum : List ℕ) : Type 0 where
  pub from_fits : length from ≤ 6
  pub to_fits : length to ≤ 6
  pub wh_fits : length wh ≤ 14
  pub sum_fits : length sum ≤ 14

pub columns_long : (from to wh sum : List ℕ) → Fits from to wh sum → length (in_columns from to wh sum) ≡ 41
columns_long from to wh sum fits =
    simp length-append
    (omega (
      arith,
      aligned_long 6 from fits.from_fits,
      aligned_long 6 to fits.to_fits,
      aligned_long 14 wh fits.wh_fits,
      aligned_long 14 sum fits.sum_fits,
    ))

pub heading_long : length heading ≡ 41
unfolding aligned
heading_long = refl

-- at least two columns stay free before the number of a boundary, and before an energy
pub boundary_narrow : (n : ℕ) → n ≤ span_most → 2 + length (decimal n) ≤ 6
boundary_narrow n l = omega (arith, few_digits 4 n (omega arith) (omega arith) (omega arith))

pub energy_narrow : (n : ℕ) → n ≤ energy_most → 2 + length (decimal n) ≤ 14
energy_narrow n l = omega (arith, few_digits 10 n (omega arith) (omega arith) (omega arith))

pub small_fits : (from to wh sum : ℕ) → Small from to wh sum → Fits (decimal from) (decimal to) (decimal wh) (decimal sum)
small_fits from to wh sum small =
    record {
      from_fits = omega (arith, boundary_narrow from small.from_small);
      to_fits = omega (arith, boundary_narrow to small.to_small);
      wh_fits = omega (arith, energy_narrow wh small.wh_small);
      sum_fits = omega (arith, energy_narrow sum small.sum_small);
    }

pub line_long : (from to wh sum : ℕ) → Small from to wh sum → length (page_line from to wh sum) ≡ 41
line_long from to wh sum small = columns_long _ _ _ _ (small_fits from to wh sum small)

pub page_long : (o : Outputs) (m : ℕ) → ((i : ℕ) → i < m → PartSmall o i) → length (page_text o m) ≡ page_length m
unfolding page_text
page_long o zero small = heading_long
page_long o (suc m) small =
    rw (length-append (page_text o m)) (omega (arith, page_long o m (λ i h. small i (omega arith)), line_long _ _ _ _ (small m (omega arith))))
