-- Each field of a page reads back as its number of the statement, and the last running sum is the whole energy (K4). Assumes nothing.
use Prim.Native.Nat.{ℕ, zero, suc, ◌+◌, ◌*◌, ◌^◌, ◌≤◌, ◌<◌}
use mathlib.Core.Path.{◌≡◌, refl, ap, ◌∙◌}
use mathlib.Core.List.{List, ◌++◌, append_assoc}
use native.Mathlib.Omega.{arith}
use lib.ListN.{length, get_or, length-append}
use lib.Seq.{slice}
use borrow.Author.Tests.{ltb-false}
use Rattle.common.specs.Below.{how_many}
use Rattle.account.specs.Stands.{last_less_first}
use Rattle.account.specs.Account.{Account, days, shown}
use Rattle.statement.specs.Parts.{Outputs, parts_of, statement_of}
use Rattle.statement.specs.Shares.{total}
use Rattle.statement.proofs.Order.{valid_of_sound}
use Rattle.statement.proofs.Successive.{successive}
use Rattle.statement.proofs.Facts.{sums_up}
use Rattle.layout.specs.Text.{decimal, line_feed}
use Rattle.page.specs.Page.{aligned, page_line, page_text}
use Rattle.page.specs.Claims.{Shows, Line, PageReadsBack, PageSum}
use Rattle.page.specs.Progress.{Small}
use Rattle.page.proofs.Sizes.{aligned_long, boundary_narrow, energy_narrow, small_fits, page_long}
use Rattle.page.proofs.Table.{parts_small}
use Rattle.page.proofs.Fields.{field_shown}
use Rattle.page.proofs.Places.{slice_middle, line_lies}
use Rattle.page.proofs.Given.{Given, page_given}

-- the field that stands after so many bytes
shows : (page before after : List ℕ) (line column width n : ℕ) → page ≡ before ++ aligned width (decimal n) ++ after → length before ≡ 41 * line + column →
    2 + length (decimal n) ≤ width → n < 2 ^ 64 → Shows page line column width n
shows page before after line column width n is long fits bits =
    field_shown page line column width n
    (ap (slice (41 * line + column) (41 * line + column + width)) is ∙
    slice_middle before (aligned width (decimal n)) after (41 * line + column) width long (aligned_long width (decimal n) (omega arith)))
    fits bits

line_shown : (page before after : List ℕ) (line from to wh sum : ℕ) → page ≡ before ++ page_line from to wh sum ++ after → length before ≡ 41 * line →
    Small from to wh sum → Line page line from to wh sum
line_shown page before after line from to wh sum is long small =
    let fits = small_fits from to wh sum small in
    let f = aligned 6 (decimal from) in
    let t = aligned 6 (decimal to) in
    let w = aligned 14 (decimal wh) in
    let s = aligned 14 (decimal sum) in
    let f-long = aligned_long 6 (decimal from) fits.from_fits in
    let t-long = aligned_long 6 (decimal to) fits.to_fits in
    let w-long = aligned_long 14 (decimal wh) fits.wh_fits in
    record {
      from_shown =
          shows page before (t ++ w ++ s ++ line_feed ++ after) line 0 6 from (is ∙ simp append_assoc) (omega arith)
          (boundary_narrow from small.from_small) (omega arith);
      to_shown =
          shows page (before ++ f) (w ++ s ++ line_feed ++ after) line 6 6 to (is ∙ simp append_assoc) (simp length-append (omega arith))
          (boundary_narrow to small.to_small) (omega arith);
      wh_shown =
          shows page (before ++ f ++ t) (s ++ line_feed ++ after) line 12 14 wh (is ∙ simp append_assoc) (simp length-append (omega arith))
          (energy_narrow wh small.wh_small) (omega arith);
      sum_shown =
          shows page (before ++ f ++ t ++ w) (line_feed ++ after) line 26 14 sum (is ∙ simp append_assoc) (simp length-append (omega arith))
          (energy_narrow sum small.sum_small) (omega arith);
    }

module _ (a : Account) (given : ℕ) (page : List ℕ) (is : Given a given page) where
  abbrev parts : ℕ
  parts = length (parts_of a.weights (shown a))

  abbrev o : Outputs
  o = statement_of a.weights (shown a)

  lines_shown : (i : ℕ) → i < parts → Line page (suc i) (get_or o.from i 0) (get_or o.to i 0) (get_or o.wh i 0) (total o (suc i))
  lines_shown i h =
      let (after, lies) = line_lies o i parts h in
      let long = page_long o i (λ j l. parts_small a is.checked is.readings j (omega arith)) in
      line_shown page (page_text o i) after (suc i) _ _ _ _ (is.text ∙ lies) (omega arith) (parts_small a is.checked is.readings i h)

  sum_shown : (k : ℕ) → 0 < k → k ≤ parts → Shows page k 26 14 (total o k)
  sum_shown zero some h = absurd (omega arith)
  sum_shown (suc i) some h = (lines_shown i h).sum_shown

  last_shown : (0 < parts) × Shows page parts 26 14 (last_less_first (days a) (shown a).readings)
  last_shown =
      let two = ltb-false (how_many (shown a).readings.at (suc (days a))) 2 is.readings in
      let whole = sums_up a.weights (shown a) (valid_of_sound a is.checked.sound) two in
      let some = (successive a.weights (shown a) two).not_empty in
      (some, rw (← whole) (sum_shown parts some (omega arith)))

pub page_reads_back : PageReadsBack
page_reads_back a after kept lent page given met outs out answered m long call =
    let is = page_given a after lent page given met in
    rw (call.answers, call.gives, call.writes, long, is.checked.fits, is.checked.sound, is.readings) (refl, is.size, lines_shown a given page is)

pub page_sum : PageSum
page_sum a after lent page given met =
    let is = page_given a after lent page given met in
    let last = last_shown a given page is in
    (length (parts_of a.weights (shown a)), last.0, is.size, last.1)
