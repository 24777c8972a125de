-- Where the lines of a page lie (K4), and which slice a text in the middle of a list is. Assumes nothing.
use Prim.Native.Nat.{ℕ, suc, ◌+◌, ◌≤◌, ◌<◌}
use mathlib.Core.Path.{◌≡◌, sym, ◌∙◌, ap}
use mathlib.Core.List.{List, [], ◌++◌, append_assoc, append-nil}
use native.Mathlib.Decide.{le_ind}
use native.Mathlib.Omega.{arith}
use lib.ListN.{length, drop, length-append}
use lib.Seq.{slice, take_at, drop_at}
use Rattle.statement.specs.Parts.{Outputs}
use Rattle.page.specs.Page.{part_line, page_text}

pub slice_middle : (before text after : List ℕ) (at width : ℕ) → length before ≡ at → length text ≡ width →
    slice at (at + width) (before ++ text ++ after) ≡ text
slice_middle before text after at width starts long =
    ap (drop at) (take_at (before ++ text) after (at + width) (omega (arith, length-append before text))) ∙ drop_at before text at starts

-- the page of i parts stands at the start of the page of m
pub page_starts : (o : Outputs) (i m : ℕ) → i ≤ m → (after : List ℕ) × (page_text o m ≡ page_text o i ++ after)
unfolding page_text
page_starts o i =
    le_ind (λ m. (after : List ℕ) × (page_text o m ≡ page_text o i ++ after)) ([], sym (append-nil (page_text o i)))
    (λ m h rest. (rest.0 ++ part_line o m, rw rest.1 (append_assoc (page_text o i) rest.0 (part_line o m))))

pub line_lies : (o : Outputs) (i m : ℕ) → i < m → (after : List ℕ) × (page_text o m ≡ page_text o i ++ part_line o i ++ after)
unfolding page_text
line_lies o i m h = page_starts o (suc i) m h
