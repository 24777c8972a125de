-- Every page given has lines of 40 characters and a line feed, and no line feed elsewhere (K4). Assumes nothing.
use Prim.Native.Nat.{ℕ, zero, suc, ◌+◌, ◌%◌, ◌<◌}
use mathlib.Core.Path.{◌≡◌, refl}
use mathlib.Core.Bool.{true, ◌&&◌}
use mathlib.Core.List.{List, ◌++◌}
use native.Mathlib.Omega.{arith}
use borrow.Author.Tests.{leb-true}
use lib.Dec.{leb}
use lib.ListN.{length, get_or, take, length-append}
use Rattle.common.specs.Below.{everywhere}
use Rattle.common.proofs.Below.{both, every_at}
use Rattle.account.specs.Account.{days, shown}
use Rattle.account.proofs.Sound.{fit}
use Rattle.statement.specs.Parts.{Outputs, parts_of, statement_of}
use Rattle.statement.proofs.Parts.{parts_fit}
use Rattle.layout.specs.Text.{line_feed}
use Rattle.page.specs.Page.{aligned, heading, page_line, page_text}
use Rattle.page.specs.Claims.{Character, Lined, PageShape, PageMost}
use Rattle.page.specs.Progress.{Small, PartSmall}
use Rattle.page.proofs.Sizes.{heading_long, line_long, page_long}
use Rattle.page.proofs.Table.{parts_small}
use Rattle.page.proofs.Fields.{Each, each_joined, Characters, field_characters}
use Rattle.page.proofs.Given.{page_given}

-- a line feed at the end of a line, and characters before it
abbrev Placed : (k x : ℕ) → Type 0
Placed k x = (k % 41 ≡ 40 → x ≡ 10) × (k % 41 < 40 → Character x)

lined : (page : List ℕ) → length page % 41 ≡ 0 → Each Placed page → Lined page
lined page whole placed =
    record {
      whole = whole;
      feeds = λ k h.
          let (end, before) = placed.at k h in
          (λ feed. let none : k % 41 < 40 → ⊥ = λ l. omega (arith, before l) in omega arith, end);
      characters = λ k h. (placed.at k h).1;
    }

line_placed : (columns : List ℕ) → length (columns ++ line_feed) ≡ 41 → Characters columns → Each Placed (columns ++ line_feed)
line_placed columns long all = each_joined before (record { at = feed })
  where
    forty : length columns ≡ 40
    forty = omega (arith, length-append columns line_feed)

    before : Each Placed columns
    before = record { at = λ k h. (λ end. absurd (omega (arith, forty)), λ l. all.at k h) }

    feed : (k : ℕ) → k < 1 → Placed (length columns + k) (get_or line_feed k 0)
    feed zero h = (λ end. refl, λ l. absurd (omega (arith, forty)))
    feed (suc k) h = absurd (omega arith)

-- a text that is written out: its bytes are asked one by one
tested : (text : List ℕ) → everywhere (λ k. leb 32 (get_or text k 0) && leb (get_or text k 0) 126) (length text) ≡ true → Characters text
tested text all =
    record { at = λ k h. let (low, high) = both _ _ (every_at _ (length text) all k h) in (leb-true _ _ low, leb-true _ _ high) }

heading_placed : Each Placed heading
unfolding aligned everywhere
heading_placed = line_placed (take 40 heading) heading_long (tested (take 40 heading) refl)

part_placed : (from to wh sum : ℕ) → Small from to wh sum → Each Placed (page_line from to wh sum)
part_placed from to wh sum small =
    let f = field_characters 6 from (omega arith) in
    let t = field_characters 6 to (omega arith) in
    let w = field_characters 14 wh (omega arith) in
    let s = field_characters 14 sum (omega arith) in
    line_placed _ (line_long from to wh sum small) (each_joined (each_joined (each_joined f t) w) s)

page_placed : (o : Outputs) (m : ℕ) → ((i : ℕ) → i < m → PartSmall o i) → Each Placed (page_text o m)
unfolding page_text
page_placed o zero small = heading_placed
page_placed o (suc m) small =
    let below : (i : ℕ) → i < m → PartSmall o i = λ i h. small i (omega arith) in
    let long = page_long o m below in
    let line = part_placed _ _ _ _ (small m (omega arith)) in
    each_joined (page_placed o m below) (record { at = λ k h. (λ end. (line.at k h).0 (omega arith), λ before. (line.at k h).1 (omega arith)) })

pub page_shape : PageShape
page_shape a after lent page given met =
    let is = page_given a after lent page given met in
    let o = statement_of a.weights (shown a) in
    let m = length (parts_of a.weights (shown a)) in
    let small = parts_small a is.checked is.readings in
    let long = page_long o m small in
    rw (is.text, is.size) (long, lined (page_text o m) (omega arith) (page_placed o m small))

pub page_most : PageMost
page_most a after lent page given met =
    let is = page_given a after lent page given met in
    omega (arith, is.size, parts_fit a.weights (shown a) (days a), (fit a is.checked.fits).most)
