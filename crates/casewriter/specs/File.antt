-- The case file of an account (K2): "Given profile, weekday, means, marks and counts of one account, write the case file". Its layout is the reader's (Case file):
-- "Sections in a fixed order, each after its 16-bit count, little-endian. Two bytes come first: profile, weekday of day 0. Then means (signed 16 bits), readings
-- (boundary 16 bits, count 64 bits), cuts (boundary 16 bits). Boundaries rise strictly in each section."
use Rattle.std.specs.Prelude.{ℕ, zero, suc, Bool, true, cond, List, [], ◌∷◌, ◌++◌, ℤ, length, get_or}
use Rattle.common.specs.Below.{how_many}
use Rattle.weights.specs.Weights.{mean_at}
use Rattle.account.specs.Account.{marks_cut}
use Rattle.account.specs.Slices.{reads_at, count_at}
use Rattle.casewriter.specs.Bytes.{little_bytes, twos}

-- the items of the numbers below m at which p holds, in rising order
unfoldable pub items : (p : ℕ → Bool) (item : ℕ → List ℕ) (m : ℕ) → List ℕ
items p item zero = []
items p item (suc m) = items p item m ++ cond (p m) (item m) []

-- a section: its count, 16 bits, then its items
abbrev pub section : (p : ℕ → Bool) (item : ℕ → List ℕ) (m : ℕ) → List ℕ
section p item m = little_bytes 2 (how_many p m) ++ items p item m

-- a mean: signed 16 bits
abbrev pub mean_item : (means : List ℤ) (i : ℕ) → List ℕ
mean_item means i = little_bytes 2 (twos (mean_at means i))

-- a reading: boundary 16 bits, count 64 bits
abbrev pub reading_bytes : (k count : ℕ) → List ℕ
reading_bytes k count = little_bytes 2 k ++ little_bytes 8 count

abbrev pub reading_item : (counts : List ℕ) (k : ℕ) → List ℕ
reading_item counts k = reading_bytes k (count_at counts k)

-- a cut: boundary 16 bits
abbrev pub cut_item : (k : ℕ) → List ℕ
cut_item k = little_bytes 2 k

-- whether these marks show a cut at k
abbrev pub cuts_at : (marks : List ℕ) (k : ℕ) → Bool
cuts_at marks k = marks_cut (get_or marks k 0)

-- the three sections: every mean (the question is always answered with yes), every boundary with a reading, every boundary with a cut
abbrev pub means_section : (means : List ℤ) → List ℕ
means_section means = section (λ i. true) (mean_item means) (length means)

abbrev pub readings_section : (marks counts : List ℕ) → List ℕ
readings_section marks counts = section (reads_at marks) (reading_item counts) (length marks)

abbrev pub cuts_section : (marks : List ℕ) → List ℕ
cuts_section marks = section (cuts_at marks) cut_item (length marks)

-- the file
abbrev pub file_of : (profile weekday : ℕ) (means : List ℤ) (marks counts : List ℕ) → List ℕ
file_of profile weekday means marks counts =
    (profile ∷ weekday ∷ []) ++
    means_section means ++
    readings_section marks counts ++
    cuts_section marks
