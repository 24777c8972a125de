-- How long the parts of a case file are (K2), and that those of an account fit where the writer puts them. Assumes nothing.
use Prim.Native.Nat.{ℕ, zero, suc, ◌+◌, ◌*◌, ◌/◌, ◌≤◌, ◌<◌}
use mathlib.Core.Path.{◌≡◌, refl, ap, ◌∙◌}
use mathlib.Core.Bool.{Bool, true, false, cond}
use mathlib.Core.List.{List, [], ◌∷◌, ◌++◌}
use native.Mathlib.Nat.{le_refl, mul-le-mul}
use native.Mathlib.Omega.{arith}
use native.Mathlib.Numerals.{add-one}
use lib.IntN.{ℤ}
use lib.ListN.{length, length-append}
use Rattle.common.specs.Below.{how_many}
use Rattle.weights.specs.Weights.{mean_at}
use Rattle.account.specs.Slices.{reads_at, count_at}
use Rattle.casewriter.specs.Bytes.{little_bytes, twos}
use Rattle.casewriter.specs.File.{items, section, mean_item, reading_bytes, reading_item, cut_item, cuts_at, means_section, readings_section, cuts_section, file_of}
use Rattle.casewriter.specs.Sections.{many_readings, marked_in, file_end, ItemsFit}
use Rattle.casewriter.proofs.Listed.{many_all, many_up}

pub bytes_long : (width n : ℕ) → length (little_bytes width n) ≡ width
unfolding little_bytes
bytes_long zero n = refl
bytes_long (suc width) n = ap suc (bytes_long width (n / 256))

pub reading_bytes_long : (k count : ℕ) → length (reading_bytes k count) ≡ 10
reading_bytes_long k count = omega (arith, length-append (little_bytes 2 k) (little_bytes 8 count), bytes_long 2 k, bytes_long 8 count)

pub reading_long : (counts : List ℕ) (k : ℕ) → length (reading_item counts k) ≡ 10
reading_long counts k = reading_bytes_long k (count_at counts k)

pub mean_long : (means : List ℤ) (i : ℕ) → length (mean_item means i) ≡ 2
mean_long means i = bytes_long 2 (twos (mean_at means i))

-- one number more
pub items_more : (p : ℕ → Bool) (item : ℕ → List ℕ) (m : ℕ) → items p item (m + 1) ≡ items p item m ++ cond (p m) (item m) []
unfolding items
items_more p item m = rw add-one

pub longer : (p : ℕ → Bool) (item : ℕ → List ℕ) (m : ℕ) → length (items p item (m + 1)) ≡ length (items p item m) + length (cond (p m) (item m) [])
longer p item m = ap length (items_more p item m) ∙ length-append (items p item m) (cond (p m) (item m) [])

-- items that are all as wide
module _ (width : ℕ) (p : ℕ → Bool) (item : ℕ → List ℕ) (wide : (k : ℕ) → length (item k) ≡ width) where
  pub items_long : (m : ℕ) → length (items p item m) ≡ width * how_many p m
  unfolding items how_many
  items_long zero = omega arith
  items_long (suc m) = go (p m) (items_long m)
    where
      go : (b : Bool) → length (items p item m) ≡ width * how_many p m → length (items p item m ++ cond b (item m) []) ≡ width * (how_many p m + cond b 1 0)
      go true before = omega (arith, length-append (items p item m) (item m), wide m)
      go false before = omega (arith, length-append (items p item m) [])

  pub section_long : (m : ℕ) → length (section p item m) ≡ 2 + width * how_many p m
  section_long m = omega (arith, length-append (little_bytes 2 (how_many p m)) (items p item m), bytes_long 2 (how_many p m), items_long m)

  -- the item of a number below n, where there is room for those of all of them
  item_fits : (at end n k : ℕ) → at + width * how_many p n ≤ end → k < n → at + length (items p item k) + length (cond (p k) (item k) []) ≤ end
  item_fits at end n k room below =
      omega (arith, longer p item k, items_long (k + 1), mul-le-mul (le_refl width) (many_up p (k + 1) n (omega arith)))

-- one boundary of marks whose items all fit
module _ {marks counts out : List ℕ} {readings cuts : ℕ} (f : ItemsFit marks counts out readings cuts) (k : ℕ) (below : k < length marks) where
  pub reading_fits : readings + length (items (reads_at marks) (reading_item counts) k) + length (cond (reads_at marks k) (reading_item counts k) []) ≤ cuts
  reading_fits = item_fits 10 (reads_at marks) (reading_item counts) (reading_long counts) readings cuts (length marks) k f.apart below

  pub cut_fits : cuts + length (items (cuts_at marks) cut_item k) + length (cond (cuts_at marks k) (cut_item k) []) ≤ length out
  cut_fits = item_fits 2 (cuts_at marks) cut_item (bytes_long 2) cuts (length out) (length marks) k f.inside below

-- every mean has an item
module _ (means : List ℤ) where
  pub means_long : (i : ℕ) → length (items (λ j. true) (mean_item means) i) ≡ 2 * i
  means_long i = omega (arith, items_long 2 (λ j. true) (mean_item means) (mean_long means) i, many_all (λ j. true) (λ j. refl) i)

  pub start_long : (profile weekday : ℕ) → length ((profile ∷ weekday ∷ []) ++ means_section means) ≡ 4 + 2 * length means
  start_long profile weekday =
      omega (
        arith,
        length-append (profile ∷ weekday ∷ []) (means_section means),
        section_long 2 (λ j. true) (mean_item means) (mean_long means) (length means),
        many_all (λ j. true) (λ j. refl) (length means),
      )

pub readings_long : (marks counts : List ℕ) → length (items (reads_at marks) (reading_item counts) (length marks)) ≡ 10 * many_readings marks
readings_long marks counts = items_long 10 (reads_at marks) (reading_item counts) (reading_long counts) (length marks)

-- the whole file
pub file_long : (profile weekday : ℕ) (means : List ℤ) (marks counts : List ℕ) → length (file_of profile weekday means marks counts) ≡ file_end (length means) (marked_in marks)
file_long profile weekday means marks counts =
    let start = (profile ∷ weekday ∷ []) ++ means_section means in
    omega (
      arith,
      length-append (start ++ readings_section marks counts) (cuts_section marks),
      length-append start (readings_section marks counts),
      start_long means profile weekday,
      section_long 10 (reads_at marks) (reading_item counts) (reading_long counts) (length marks),
      section_long 2 (cuts_at marks) cut_item (bytes_long 2) (length marks),
    )
