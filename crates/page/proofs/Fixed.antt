-- The heading, the lines and the length fix a page (K4). Assumes nothing.
use Prim.Native.Nat.{ℕ, zero, suc, ◌+◌, ◌-◌, ◌*◌, ◌/◌, ◌%◌, ◌^◌, ◌≤◌, ◌<◌}
use mathlib.Core.Path.{◌≡◌, sym, ap, ◌∙◌}
use mathlib.Core.List.{List, ◌++◌}
use native.Mathlib.Decide.{dec_lt}
use native.Mathlib.Omega.{arith}
use lib.ListN.{length, get_or, take}
use lib.Seq.{slice, length-slice, get_or-take, get_or-drop, ext_get_or}
use Rattle.account.specs.Account.{shown}
use Rattle.statement.specs.Parts.{Outputs, parts_of, statement_of}
use Rattle.layout.specs.Text.{decimal}
use Rattle.page.specs.Page.{aligned, page_length}
use Rattle.page.specs.Progress.{Small, PartSmall}
use Rattle.page.specs.Claims.{Lined, Shows, Line, Lines, OnePage}
use Rattle.page.proofs.Stored.{heading_first, page_none}
use Rattle.page.proofs.Table.{parts_small}
use Rattle.page.proofs.Fields.{one_field}
use Rattle.page.proofs.Places.{page_starts}
use Rattle.page.proofs.Given.{page_given}
use Rattle.page.proofs.Shape.{page_shape}
use Rattle.page.proofs.Shown.{page_reads_back}

slice_at : (l : List ℕ) (at width j : ℕ) → j < width → get_or (slice at (at + width) l) j 0 ≡ get_or l (at + j) 0
slice_at l at width j h = get_or-drop at (take (at + width) l) j 0 ∙ get_or-take (at + width) l (at + j) 0 (omega arith)

-- the bytes of a field that shows n are those of n
shown_at : (l : List ℕ) (line column width n : ℕ) → 41 * line + column + width ≤ length l → n < 2 ^ 64 → Shows l line column width n → (j : ℕ) → j < width →
    get_or l (41 * line + column + j) 0 ≡ get_or (aligned width (decimal n)) j 0
shown_at l line column width n room bits shows j h =
    let at = 41 * line + column in
    let long : length (slice at (at + width) l) ≡ width = length-slice at (at + width) l room ∙ omega arith in
    sym (slice_at l at width j h) ∙
    ap (λ (f : List ℕ). get_or f j 0) (one_field (slice at (at + width) l) n bits shows.reads) ∙
    ap (λ (k : ℕ). get_or (aligned k (decimal n)) j 0) long

module _ (l p : List ℕ) (same : length l ≡ length p) (l-lined : Lined l) (p-lined : Lined p) where
  -- two lines that show the same numbers have the same bytes
  line_same : (line from to wh sum : ℕ) → 41 * line + 41 ≤ length l → Small from to wh sum → Line l line from to wh sum → Line p line from to wh sum →
      (j : ℕ) → j < 41 → get_or l (41 * line + j) 0 ≡ get_or p (41 * line + j) 0
  line_same line from to wh sum room small left right j h = by (dec_lt j 6) (dec_lt j 12) (dec_lt j 26) (dec_lt j 40)
    where
      field : (column width n : ℕ) → column + width ≤ 41 → n < 2 ^ 64 → Shows l line column width n → Shows p line column width n → column ≤ j → j < column + width →
          get_or l (41 * line + j) 0 ≡ get_or p (41 * line + j) 0
      field column width n inside bits one two low high =
          let place : 41 * line + column + (j - column) ≡ 41 * line + j = omega arith in
          ap (λ (k : ℕ). get_or l k 0) (sym place) ∙
          shown_at l line column width n (omega arith) bits one (j - column) (omega arith) ∙
          sym (shown_at p line column width n (omega arith) bits two (j - column) (omega arith)) ∙
          ap (λ (k : ℕ). get_or p k 0) place

      by : Dec (j < 6) → Dec (j < 12) → Dec (j < 26) → Dec (j < 40) → get_or l (41 * line + j) 0 ≡ get_or p (41 * line + j) 0
      by (yes in-from) to-test wh-test sum-test = field 0 6 from (omega arith) (omega arith) left.from_shown right.from_shown (omega arith) (omega arith)
      by (no g) (yes in-to) wh-test sum-test = field 6 6 to (omega arith) (omega arith) left.to_shown right.to_shown (omega arith) (omega arith)
      by (no g) (no g2) (yes in-wh) sum-test = field 12 14 wh (omega arith) (omega arith) left.wh_shown right.wh_shown (omega arith) (omega arith)
      by (no g) (no g2) (no g3) (yes in_sum) = field 26 14 sum (omega arith) (omega arith) left.sum_shown right.sum_shown (omega arith) (omega arith)
      by (no g) (no g2) (no g3) (no g4) =
          let end : (41 * line + j) % 41 ≡ 40 = omega arith in
          (l-lined.feeds (41 * line + j) (omega arith)).1 end ∙ sym ((p-lined.feeds (41 * line + j) (omega arith)).1 end)

  lines_fix : (o : Outputs) (m : ℕ) → length l ≡ page_length m → take 41 l ≡ take 41 p → ((i : ℕ) → i < m → PartSmall o i) → Lines l o m → Lines p o m → l ≡ p
  lines_fix o m long front small left right = ext_get_or 0 l p same (λ k h. by k h (k / 41) (omega arith))
    where
      by : (k : ℕ) → k < length l → (line : ℕ) → line ≡ k / 41 → get_or l k 0 ≡ get_or p k 0
      by k h zero is = sym (get_or-take 41 l k 0 (omega arith)) ∙ ap (λ (t : List ℕ). get_or t k 0) front ∙ get_or-take 41 p k 0 (omega arith)
      by k h (suc i) is =
          let place : 41 * suc i + k % 41 ≡ k = omega arith in
          ap (λ (n : ℕ). get_or l n 0) (sym place) ∙
          line_same (suc i) _ _ _ _ (omega arith) (small i (omega arith)) (left i (omega arith)) (right i (omega arith)) (k % 41) (omega arith) ∙
          ap (λ (n : ℕ). get_or p n 0) place

pub one_page : OnePage
one_page a after kept lent page given met outs out answered m long call other size head lined lines =
    let is = page_given a after lent page given met in
    let o = statement_of a.weights (shown a) in
    let parts = length (parts_of a.weights (shown a)) in
    let (page-size, page-lined) = page_shape a after lent page given met in
    let (done, m-size, page-lines) = page_reads_back a after kept lent page given met outs out answered m long call in
    let holds : out ≡ o = rw (long, is.checked.fits, is.checked.sound, is.readings) at call.writes in
    let small : (i : ℕ) → i < m → PartSmall out i = λ i h. rw holds (parts_small a is.checked is.readings i (omega (arith, is.size))) in
    let (rest, starts) = page_starts o 0 parts (omega arith) in
    let front = heading_first page rest (is.text ∙ starts ∙ ap (λ (h : List ℕ). h ++ rest) (page_none o)) in
    lines_fix other page (size ∙ sym page-size) lined page-lined out m (size ∙ m-size) (head ∙ sym front) small lines page-lines
