-- Parts of a case file stored into a slice (K2): one after the other, and one before another. Assumes nothing.
use Prim.Native.Nat.{ℕ, suc, ◌+◌, ◌*◌, ◌≤◌, ◌<◌}
use mathlib.Core.Path.{◌≡◌, refl, sym, ap, ◌∙◌}
use mathlib.Core.Bool.{Bool, true, cond}
use mathlib.Core.List.{List, [], ◌∷◌, ◌++◌}
use native.Mathlib.Nat.{zero-add}
use native.Mathlib.Omega.{arith}
use lib.IntN.{ℤ}
use lib.ListN.{length, drop, set, length-append}
use lib.Seq.{sets, set_comm, sets-eq}
use Rattle.common.proofs.Lists.{sets_append}
use Rattle.account.specs.Slices.{reads_at}
use Rattle.casewriter.specs.declared.sections.Marked.{Marked}
use Rattle.casewriter.specs.Bytes.{little_bytes}
use Rattle.casewriter.specs.File.{items, mean_item, reading_item, cut_item, cuts_at, means_section, file_of}
use Rattle.casewriter.specs.Sections.{marked_in, ItemPut, both_stored}
use Rattle.casewriter.proofs.Listed.{many_all}
use Rattle.casewriter.proofs.Sizes.{bytes_long, items_more, means_long, start_long, readings_long}

-- what is stored before other stores can be stored first
set_swap : (l : List ℕ) (i j : ℕ) (xs : List ℕ) (y : ℕ) → j < i → set (sets l i xs) j y ≡ sets (set l j y) i xs
set_swap l i j [] y h = refl
set_swap l i j (x ∷ xs) y h =
    set_swap (set l i x) (suc i) j xs y (omega arith) ∙ ap (λ (o : List ℕ). sets o (suc i) xs) (set_comm l i j x y (λ e. omega arith))

pub sets_swap : (l : List ℕ) (i j : ℕ) (xs ys : List ℕ) → j + length ys ≤ i → sets (sets l i xs) j ys ≡ sets (sets l j ys) i xs
sets_swap l i j xs [] h = refl
sets_swap l i j xs (y ∷ ys) h =
    ap (λ (o : List ℕ). sets o (suc j) ys) (set_swap l i j xs y (omega arith)) ∙ sets_swap (set l j y) i (suc j) xs ys (omega arith)

-- a 16-bit number and what follows it
pub number_stored : (out : List ℕ) (at n : ℕ) (xs : List ℕ) → sets (sets out at (little_bytes 2 n)) (at + 2) xs ≡ sets out at (little_bytes 2 n ++ xs)
unfolding little_bytes
number_stored out at n xs = sets_append out at (little_bytes 2 n) xs

-- the items of one number more
pub items_stored : (p : ℕ → Bool) (item : ℕ → List ℕ) (out : List ℕ) (at m : ℕ) →
    sets (sets out at (items p item m)) (at + length (items p item m)) (cond (p m) (item m) []) ≡ sets out at (items p item (m + 1))
items_stored p item out at m = sets_append out at (items p item m) (cond (p m) (item m) []) ∙ ap (sets out at) (sym (items_more p item m))

-- one mean more, and all of them after their count
module _ (means : List ℤ) (out : List ℕ) (at : ℕ) where
  pub mean_stored : (i : ℕ) → sets (sets out at (items (λ j. true) (mean_item means) i)) (at + 2 * i) (mean_item means i) ≡ sets out at (items (λ j. true) (mean_item means) (i + 1))
  mean_stored i = rw (← means_long means i) (items_stored (λ j. true) (mean_item means) out at i)

  pub means_stored : sets (sets out at (little_bytes 2 (length means))) (at + 2) (items (λ j. true) (mean_item means) (length means)) ≡ sets out at (means_section means)
  means_stored =
      number_stored out at (length means) _ ∙
      ap (λ (n : ℕ). sets out at (little_bytes 2 n ++ items (λ j. true) (mean_item means) (length means))) (sym (many_all (λ j. true) (λ j. refl) (length means)))

-- one boundary more: its reading's item, then its cut's
pub both_more : (marks counts out : List ℕ) (readings cuts k : ℕ) {r c : ℕ} {before between after : List ℕ} {r' c' : ℕ} →
    let x = cond (reads_at marks k) (reading_item counts k) [] in
    before ≡ both_stored marks counts out readings cuts k →
    r ≡ readings + length (items (reads_at marks) (reading_item counts) k) →
    c ≡ cuts + length (items (cuts_at marks) cut_item k) →
    r + length x ≤ cuts →
    ItemPut r x before r' between →
    ItemPut c (cond (cuts_at marks k) (cut_item k) []) between c' after →
    after ≡ both_stored marks counts out readings cuts (k + 1)
both_more marks counts out readings cuts k {r} is er ec room reading cut =
    let rs = items (reads_at marks) (reading_item counts) k in
    let cs = items (cuts_at marks) cut_item k in
    let x = cond (reads_at marks k) (reading_item counts k) [] in
    let one = ap (λ (n : ℕ). sets (sets out readings rs) n x) er ∙ items_stored (reads_at marks) (reading_item counts) out readings k in
    let both = reading.stored ∙ ap (λ (o : List ℕ). sets o r x) is ∙ sets_swap (sets out readings rs) cuts r cs x room ∙ ap (λ (o : List ℕ). sets o cuts cs) one in
    cut.stored ∙ (λ j. sets (both j) (ec j) (cond (cuts_at marks k) (cut_item k) [])) ∙ items_stored (cuts_at marks) cut_item _ cuts k

-- behind what stands at the start of a slice, and at its start
joined : (out xs ys : List ℕ) (at : ℕ) → at ≡ length xs → sets (sets out 0 xs) at ys ≡ sets out 0 (xs ++ ys)
joined out xs ys at e = let behind : at ≡ 0 + length xs = omega arith in rw behind (sets_append out 0 xs ys)

pub from_start : (xs out : List ℕ) → length xs ≤ length out → sets out 0 xs ≡ xs ++ drop (length xs) out
from_start xs out room = sets-eq xs out 0 (omega arith) ∙ ap (λ (n : ℕ). xs ++ drop n out) (zero-add (length xs))

-- two sections behind what stands there, their counts first
sections_stored : (out start xs ys : List ℕ) (r c m n : ℕ) → r ≡ length start → c ≡ r + 2 + length xs →
    sets (sets (sets (sets (sets out 0 start) r (little_bytes 2 m)) c (little_bytes 2 n)) (r + 2) xs) (c + 2) ys ≡ sets out 0 (start ++ (little_bytes 2 m ++ xs) ++ (little_bytes 2 n ++ ys))
sections_stored out start xs ys r c m n er ec =
    let one = little_bytes 2 m ++ xs in
    let counted = sets (sets out 0 start) r (little_bytes 2 m) in
    let long : c ≡ length (start ++ one) = omega (arith, length-append start one, length-append (little_bytes 2 m) xs, bytes_long 2 m) in
    ap (λ (o : List ℕ). sets o (c + 2) ys)
    (sets_swap counted c (r + 2) (little_bytes 2 n) xs (omega arith) ∙ ap (λ (o : List ℕ). sets o c (little_bytes 2 n)) (number_stored (sets out 0 start) r m xs ∙ joined out start one r er))
    ∙ number_stored (sets out 0 (start ++ one)) c n ys
    ∙ joined out (start ++ one) (little_bytes 2 n ++ ys) c long

-- the whole file, in the order of its stores
pub file_stored : (profile weekday : ℕ) (means : List ℤ) (marks counts out : List ℕ) (m : Marked) → m ≡ marked_in marks → {one two three after : List ℕ} →
    let readings = 4 + 2 * length means in
    let cuts = readings + 2 + 10 * m.readings in
    one ≡ sets (sets out 0 (profile ∷ weekday ∷ [])) 2 (means_section means) →
    two ≡ sets one readings (little_bytes 2 m.readings) →
    three ≡ sets two cuts (little_bytes 2 m.cuts) →
    after ≡ both_stored marks counts three (readings + 2) (cuts + 2) (length marks) →
    after ≡ sets out 0 (file_of profile weekday means marks counts)
file_stored profile weekday means marks counts out m counted e1 e2 e3 e4 =
    let start = (profile ∷ weekday ∷ []) ++ means_section means in
    let readings = 4 + 2 * length means in
    let cuts = readings + 2 + 10 * m.readings in
    let xs = items (reads_at marks) (reading_item counts) (length marks) in
    let ys = items (cuts_at marks) cut_item (length marks) in
    let begun = e1 ∙ sets_append out 0 (profile ∷ weekday ∷ []) (means_section means) in
    let first = e2 ∙ ap (λ (o : List ℕ). sets o readings (little_bytes 2 m.readings)) begun in
    let second = e3 ∙ ap (λ (o : List ℕ). sets o cuts (little_bytes 2 m.cuts)) first in
    e4 ∙ ap (λ (o : List ℕ). both_stored marks counts o (readings + 2) (cuts + 2) (length marks)) second ∙
    sections_stored out start xs ys readings cuts m.readings m.cuts (omega (arith, start_long means profile weekday)) (omega (arith, ap (λ (n : Marked). n.readings) counted, readings_long marks counts)) ∙
    ap (λ (n : Marked). sets out 0 (start ++ (little_bytes 2 n.readings ++ xs) ++ (little_bytes 2 n.cuts ++ ys))) counted
