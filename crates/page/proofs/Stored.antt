-- A page stored piece by piece (K4): the columns of a line, and the lines after the heading. Assumes nothing.
use Prim.Native.Nat.{ℕ, suc, ◌+◌, ◌≤◌}
use mathlib.Core.Path.{◌≡◌, refl, sym, ◌∙◌, ap}
use mathlib.Core.List.{List, [], ◌∷◌, ◌++◌}
use native.Mathlib.Numerals.{add-one}
use native.Mathlib.Omega.{arith}
use lib.ListN.{length, get_or, set, take, drop, length-append}
use lib.Seq.{sets, sets-eq, length-take-le, take_at}
use Rattle.common.proofs.Lists.{sets_append}
use Rattle.statement.specs.Parts.{Outputs}
use Rattle.statement.specs.Shares.{total}
use Rattle.page.specs.Page.{aligned, in_columns, heading, page_line, part_line, page_text, page_length}
use Rattle.page.specs.Progress.{Small, PartSmall}
use Rattle.page.proofs.Sizes.{Fits, aligned_long, heading_long, line_long}

module _ (o : List ℕ) (at : ℕ) where
  -- a text after another of length k
  pub then_stored : {p q : List ℕ} (xs ys : List ℕ) (k : ℕ) → length xs ≡ k → p ≡ sets o at xs → q ≡ sets p (at + k) ys → q ≡ sets o at (xs ++ ys)
  then_stored xs ys k long first then =
      then ∙ ap (λ (l : List ℕ). sets l (at + k) ys) first ∙ ap (λ (n : ℕ). sets (sets o at xs) (at + n) ys) (sym long) ∙ sets_append o at xs ys

  -- four columns and a line feed
  pub columns_stored : {a b c d : List ℕ} (from to wh sum : List ℕ) → Fits from to wh sum →
      a ≡ sets o at (aligned 6 from) → b ≡ sets a (at + 6) (aligned 6 to) → c ≡ sets b (at + 12) (aligned 14 wh) → d ≡ sets c (at + 26) (aligned 14 sum) →
      set d (at + 40) 10 ≡ sets o at (in_columns from to wh sum)
  columns_stored from to wh sum fits first second third fourth =
      let two = aligned 6 from ++ aligned 6 to in
      let three = two ++ aligned 14 wh in
      let four = three ++ aligned 14 sum in
      let f = aligned_long 6 from fits.from_fits in
      let t = aligned_long 6 to fits.to_fits in
      let w = aligned_long 14 wh fits.wh_fits in
      let s = aligned_long 14 sum fits.sum_fits in
      let two-long = length-append (aligned 6 from) (aligned 6 to) in
      let three-long = length-append two (aligned 14 wh) in
      let four-long = length-append three (aligned 14 sum) in
      then_stored four (10 ∷ []) 40 (omega arith)
      (then_stored three (aligned 14 sum) 26 (omega arith)
      (then_stored two (aligned 14 wh) 12 (omega arith)
      (then_stored (aligned 6 from) (aligned 6 to) 6 f first second) third) fourth)
      refl

-- after the first k, a text more
pub front_stored : (page xs text : List ℕ) (k : ℕ) → k + length text ≤ length page → take k page ≡ xs → take (k + length text) (sets page k text) ≡ xs ++ text
front_stored page xs text k fits front =
    let long : length (take k page ++ text) ≡ k + length text = length-append (take k page) text ∙ ap (λ (n : ℕ). n + length text) (length-take-le k page (omega arith)) in
    ap (take (k + length text)) (sets-eq text page k fits) ∙ take_at (take k page ++ text) (drop (k + length text) page) (k + length text) long ∙ ap (λ (l : List ℕ). l ++ text) front

-- a page that begins with the heading
pub heading_first : (page rest : List ℕ) → page ≡ heading ++ rest → take 41 page ≡ heading
heading_first page rest is = ap (take 41) is ∙ take_at heading rest 41 heading_long

-- the heading, and one line more
pub page_none : (o : Outputs) → page_text o 0 ≡ heading
unfolding page_text
page_none o = refl

page_more : (o : Outputs) (i : ℕ) → page_text o (i + 1) ≡ page_text o i ++ part_line o i
unfolding page_text
page_more o i = rw add-one

module _ (o : Outputs) (i sum : ℕ) (is : sum ≡ total o i) (small : PartSmall o i) where
  -- the running sum as the code has it
  running : sum + get_or o.wh i 0 ≡ total o (suc i)
  unfolding total
  running = rw is

  pub sum_more : sum + get_or o.wh i 0 ≡ total o (i + 1)
  sum_more = rw add-one running

  pub line_small : Small (get_or o.from i 0) (get_or o.to i 0) (get_or o.wh i 0) (sum + get_or o.wh i 0)
  line_small = rw running small

  -- the page with one line more
  pub line_more : (page : List ℕ) → page_length (i + 1) ≤ length page → take (page_length i) page ≡ page_text o i →
      take (page_length (i + 1)) (sets page (page_length i) (page_line (get_or o.from i 0) (get_or o.to i 0) (get_or o.wh i 0) (sum + get_or o.wh i 0))) ≡ page_text o (i + 1)
  line_more page room front =
      let long = line_long _ _ _ _ small in
      let next : page_length (i + 1) ≡ page_length i + length (part_line o i) = omega arith in
      ap (λ (s : ℕ). take (page_length (i + 1)) (sets page (page_length i) (page_line (get_or o.from i 0) (get_or o.to i 0) (get_or o.wh i 0) s))) running ∙
      ap (λ (k : ℕ). take k (sets page (page_length i) (part_line o i))) next ∙
      front_stored page (page_text o i) (part_line o i) (page_length i) (omega arith) front ∙
      sym (page_more o i)
