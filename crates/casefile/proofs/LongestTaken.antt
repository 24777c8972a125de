-- A file of 15,370 bytes that is taken (Case file): 1,099 means of 0, a reading of count 0 and a cut at every boundary. Assumes nothing.
use Prim.Native.Nat.{ℕ, zero, suc, ◌+◌, ◌*◌, ◌-◌, ◌/◌, ◌%◌, ◌≤◌, ◌<◌}
use mathlib.Core.Path.{◌≡◌, refl, sym, ◌∙◌, ap}
use mathlib.Core.Bool.{Bool, true, false, cond}
use mathlib.Core.List.{List}
use native.Mathlib.Omega.{arith}
use borrow.Author.Tests.{lt-ltb, le-ltb, lt-leb}
use lib.Dec.{ltb}
use lib.ListN.{length, get_or}
use Rattle.profile.specs.Limits as limits
use Rattle.account.specs.Account.{energy_most}
use Rattle.common.specs.Lists.{list_of}
use Rattle.common.proofs.Lists.{list_of_length, list_of_at}
use Rattle.casefile.specs.Bytes.{little, number16, signed}
use Rattle.casefile.specs.Case.{means_length, mean_offset, days_of, readings_offset, readings_length, reading_offset, reading_boundary, reading_count, cuts_offset, cuts_length, cut_offset, cut_boundary, end_of}
use Rattle.casefile.specs.Faults.{no_fault, fails_to_rise, mean_fault, reading_fault, cut_fault, items_fault, head_fault, readings_fault, cuts_fault, left_over}
use Rattle.casefile.specs.Length.{file_most, Taken}
use Rattle.casefile.proofs.Faults.{none_of}
use Rattle.casefile.proofs.Items.{some_above}

-- byte r of a 16-bit number, and of the reading of count 0 at a boundary
abbrev half : ℕ → ℕ → ℕ
half x zero = x % 256
half x (suc r) = x / 256

abbrev reading_byte : ℕ → ℕ → ℕ
reading_byte k zero = k % 256
reading_byte k (suc zero) = k / 256
reading_byte k (suc (suc r)) = 0

unfoldable content : ℕ → ℕ
content i =
    cond (ltb i 2) 0
    (cond (ltb i 4) (half 1099 (i - 2))
    (cond (ltb i 2202) 0
    (cond (ltb i 2204) (half 1097 (i - 2202))
    (cond (ltb i 13174) (reading_byte ((i - 2204) / 10) ((i - 2204) % 10))
    (cond (ltb i 13176) (half 1097 (i - 13174))
    (half ((i - 13176) / 2) ((i - 13176) % 2)))))))

in_reading : (k r : ℕ) → k < 1097 → r < 10 → content (2204 + 10 * k + r) ≡ reading_byte k r
unfolding content
in_reading k r l h =
    let whole : (2204 + 10 * k + r - 2204) / 10 ≡ k = omega arith in
    let rest : (2204 + 10 * k + r - 2204) % 10 ≡ r = omega arith in
    rw (
      le-ltb (2204 + 10 * k + r) 2 (omega arith),
      le-ltb (2204 + 10 * k + r) 4 (omega arith),
      le-ltb (2204 + 10 * k + r) 2202 (omega arith),
      le-ltb (2204 + 10 * k + r) 2204 (omega arith),
      lt-ltb (2204 + 10 * k + r) 13174 (omega arith),
      whole,
      rest,
    ) refl

in_count : (k r : ℕ) → k < 1097 → (i : ℕ) → r < 8 → i ≡ 2204 + 10 * k + 2 + r → content i ≡ 0
in_count k r l i h e =
    let same : i ≡ 2204 + 10 * k + suc (suc r) = omega arith in
    ap content same ∙ in_reading k (suc (suc r)) l (omega arith)

in_cut : (k r : ℕ) → r < 2 → content (13176 + 2 * k + r) ≡ half k r
unfolding content
in_cut k r h =
    let whole : (13176 + 2 * k + r - 13176) / 2 ≡ k = omega arith in
    let rest : (13176 + 2 * k + r - 13176) % 2 ≡ r = omega arith in
    rw (
      le-ltb (13176 + 2 * k + r) 2 (omega arith),
      le-ltb (13176 + 2 * k + r) 4 (omega arith),
      le-ltb (13176 + 2 * k + r) 2202 (omega arith),
      le-ltb (13176 + 2 * k + r) 2204 (omega arith),
      le-ltb (13176 + 2 * k + r) 13174 (omega arith),
      le-ltb (13176 + 2 * k + r) 13176 (omega arith),
      whole,
      rest,
    ) refl

in_mean : (i : ℕ) → 4 ≤ i → i < 2202 → content i ≡ 0
unfolding content
in_mean i l h = rw (le-ltb i 2 (omega arith), le-ltb i 4 l, lt-ltb i 2202 h) refl

half_below : (x r : ℕ) → x < 65536 → half x r < 256
half_below x zero l = omega arith
half_below x (suc r) l = omega arith

reading_below : (k r : ℕ) → k < 65536 → reading_byte k r < 256
reading_below k zero l = omega arith
reading_below k (suc zero) l = omega arith
reading_below k (suc (suc r)) l = omega arith

either_below : (b : Bool) {x y : ℕ} → x < 256 → y < 256 → cond b x y < 256
either_below true l h = l
either_below false l h = h

below : (i : ℕ) → i < 15370 → content i < 256
unfolding content
below i l =
    either_below (ltb i 2) (omega arith)
    (either_below (ltb i 4) (half_below 1099 (i - 2) (omega arith))
    (either_below (ltb i 2202) (omega arith)
    (either_below (ltb i 2204) (half_below 1097 (i - 2202) (omega arith))
    (either_below (ltb i 13174) (reading_below ((i - 2204) / 10) ((i - 2204) % 10) (omega arith))
    (either_below (ltb i 13176) (half_below 1097 (i - 13174) (omega arith))
    (half_below ((i - 13176) / 2) ((i - 13176) % 2) (omega arith)))))))

file : List ℕ
file = list_of content file_most

long : length file ≡ 15370
unfolding file
long = list_of_length content file_most

has : (i : ℕ) → i < 15370 → get_or file i 0 ≡ content i
unfolding file
has i l = list_of_at 0 content file_most i l

-- a number from its two bytes, and one whose bytes are all 0
pair : (at x : ℕ) → at + 1 < 15370 → content at ≡ x % 256 → content (at + 1) ≡ x / 256 → number16 file at ≡ x
unfolding little
pair at x l low high = omega (arith, has at (omega arith) ∙ low, has (at + 1) l ∙ high)

clear : (width at : ℕ) → ((i : ℕ) → at ≤ i → i < at + width → get_or file i 0 ≡ 0) → little width file at ≡ 0
unfolding little
clear zero at z = refl
clear (suc width) at z = omega (arith, z at (omega arith) (omega arith), clear width (at + 1) (λ i l h. z i (omega arith) (omega arith)))

means_counted : means_length file ≡ 1099
unfolding content
means_counted = pair 2 1099 (omega arith) refl refl

readings_counted : readings_length file ≡ 1097
unfolding content
readings_counted = ap (λ (m : ℕ). number16 file (mean_offset m)) means_counted ∙ pair 2202 1097 (omega arith) refl refl

cuts_counted : cuts_length file ≡ 1097
unfolding content
cuts_counted =
    let at : cuts_offset file ≡ 13174 = omega (arith, means_counted, readings_counted) in
    ap (number16 file) at ∙ pair 13174 1097 (omega arith) refl refl

mean_is : (i : ℕ) → i < 1099 → number16 file (mean_offset i) ≡ 0
mean_is i l = clear 2 (mean_offset i) (λ j h k. has j (omega arith) ∙ in_mean j (omega arith) (omega arith))

reading_offset_lem : (k : ℕ) → reading_offset file k ≡ 2204 + 10 * k
reading_offset_lem k = omega (arith, means_counted)

boundary_is : (k : ℕ) → k < 1097 → reading_boundary file k ≡ k
boundary_is k l =
    rw (reading_offset_lem k)
    (let same : 2204 + 10 * k + 0 ≡ 2204 + 10 * k = omega arith in
    pair (2204 + 10 * k) k (omega arith) (ap content (sym same) ∙ in_reading k 0 l (omega arith)) (in_reading k 1 l (omega arith)))

count_is : (k : ℕ) → k < 1097 → reading_count file k ≡ 0
count_is k l =
    rw (reading_offset_lem k)
    (clear 8 (2204 + 10 * k + 2) (λ i h m. has i (omega arith) ∙ in_count k (i - (2204 + 10 * k + 2)) l i (omega arith) (omega arith)))

cut_offset_lem : (k : ℕ) → cut_offset file k ≡ 13176 + 2 * k
cut_offset_lem k = omega (arith, means_counted, readings_counted)

cut_is : (k : ℕ) → k < 1097 → cut_boundary file k ≡ k
cut_is k l =
    rw (cut_offset_lem k)
    (let same : 13176 + 2 * k + 0 ≡ 13176 + 2 * k = omega arith in
    pair (13176 + 2 * k) k (omega arith) (ap content (sym same) ∙ in_cut k 0 (omega arith)) (in_cut k 1 (omega arith)))

-- none of it is a fault
reaches : (to : ℕ) → to ≤ 15370 → ltb (length file) to ≡ false
reaches to l = le-ltb (length file) to (omega (arith, long))

rising : (boundary : ℕ → ℕ) (k : ℕ) → ((j : ℕ) → j ≤ k → boundary j ≡ j) → fails_to_rise boundary k ≡ false
rising boundary zero is = refl
rising boundary (suc k) is = lt-leb (boundary (suc k)) (boundary k) (omega (arith, is k (omega arith), is (suc k) (omega arith)))

mean_clean : (i : ℕ) → i < 1099 → mean_fault file i ≡ no_fault
unfolding signed limits.in_range
mean_clean i l = rw (reaches (mean_offset i + 2) (omega arith), mean_is i l) refl

reading_clean : (k : ℕ) → k < 1097 → reading_fault file k ≡ no_fault
reading_clean k l =
    rw (
      reaches (reading_offset file k + 10) (omega (arith, reading_offset_lem k)),
      rising (reading_boundary file) k (λ j h. boundary_is j (omega arith)),
      le-ltb (days_of file) (reading_boundary file k) (omega (arith, means_counted, boundary_is k l)),
      some_above (reading_count file) (reading_count file k) 0 k (λ j h. omega (arith, count_is j (omega arith))) (omega arith),
      le-ltb energy_most (reading_count file k - reading_count file 0) (omega (arith, count_is k l)),
    ) refl

cut_clean : (k : ℕ) → k < 1097 → cut_fault file k ≡ no_fault
cut_clean k l =
    rw (
      reaches (cut_offset file k + 2) (omega (arith, cut_offset_lem k)),
      rising (cut_boundary file) k (λ j h. cut_is j (omega arith)),
      le-ltb (days_of file) (cut_boundary file k) (omega (arith, means_counted, cut_is k l)),
    ) refl

head_clean : head_fault file ≡ no_fault
unfolding content
head_clean =
    rw (
      reaches 1 (omega arith),
      has 0 (omega arith),
      reaches 2 (omega arith),
      has 1 (omega arith),
      reaches 4 (omega arith),
      means_counted,
    ) refl

means_clean : items_fault file 2 (mean_fault file) ≡ no_fault
means_clean = none_of (mean_fault file) (means_length file) (λ i l. mean_clean i (omega (arith, means_counted)))

readings_clean : readings_fault file ≡ no_fault
readings_clean =
    rw (reaches (readings_offset file + 2) (omega (arith, means_counted)))
    (none_of (reading_fault file) (readings_length file) (λ k l. reading_clean k (omega (arith, readings_counted))))

cuts_clean : cuts_fault file ≡ no_fault
cuts_clean =
    rw (
      reaches (cuts_offset file + 2) (omega (arith, means_counted, readings_counted)),
      none_of (cut_fault file) (cuts_length file) (λ k l. cut_clean k (omega (arith, cuts_counted))),
    ) refl

none_left : left_over file (end_of file) ≡ no_fault
none_left = rw (le-ltb (end_of file) (length file) (omega (arith, means_counted, readings_counted, cuts_counted, long))) refl

pub taken : Taken file_most
taken = record { file = file; bytes = λ i l. rw (has i (omega (arith, long))) (below i (omega (arith, long))); long = long; whole = rw (head_clean, means_clean, readings_clean, cuts_clean) none_left }
