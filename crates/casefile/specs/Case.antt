-- What a case file names (Case file): "Sections in a fixed order, each after its 16-bit count, little-endian. Two bytes come first:
-- profile, weekday of day 0. Then means (signed 16 bits), readings (boundary 16 bits, count 64 bits), cuts (boundary 16 bits)."
use Rattle.std.specs.Prelude.{ℕ, zero, suc, ◌+◌, ◌*◌, ◌-◌, List, ℤ, replicate}
use Rattle.account.specs.Account.{Account, account}
use Rattle.account.specs.Calls.{reading_put, cut_put}
use Rattle.common.specs.Lists.{list_of}
use Rattle.weights.specs.Weights.{weights_of}
use Rattle.casefile.specs.Bytes.{byte, number16, number64, signed16}

-- a section that starts at the offset `at`: its count, then its items of `width` bytes, and where it ends
abbrev pub item_at : (width at i : ℕ) → ℕ
item_at width at i = at + 2 + width * i

abbrev pub end_at : (width : ℕ) (s : List ℕ) (at : ℕ) → ℕ
end_at width s at = item_at width at (number16 s at)

-- means, 2 bytes each: one, and the first i
abbrev pub mean_at : (s : List ℕ) (at i : ℕ) → ℤ
mean_at s at i = signed16 s (item_at 2 at i)

abbrev pub means_at : (s : List ℕ) (at i : ℕ) → List ℤ
means_at s at = list_of (mean_at s at)

-- the boundary that begins a reading, of 10 bytes, and is a cut, of 2; and a reading's count
abbrev pub boundary_at : (width : ℕ) (s : List ℕ) (at i : ℕ) → ℕ
boundary_at width s at i = number16 s (item_at width at i)

abbrev pub reading_count_at : (s : List ℕ) (at i : ℕ) → ℕ
reading_count_at s at i = number64 s (item_at 10 at i + 2)

-- the first i readings, and the first i cuts, of a section put into an account
unfoldable pub readings_put : (a : Account) (s : List ℕ) (at i : ℕ) → Account
readings_put a s at zero = a
readings_put a s at (suc i) = reading_put (readings_put a s at i) (boundary_at 10 s at i) (reading_count_at s at i)

unfoldable pub cuts_put : (a : Account) (s : List ℕ) (at i : ℕ) → Account
cuts_put a s at zero = a
cuts_put a s at (suc i) = cut_put (cuts_put a s at i) (boundary_at 2 s at i)

-- the layout: profile at 0, weekday at 1, means from 2, readings after the means, cuts after the readings
abbrev pub profile_byte : List ℕ → ℕ
profile_byte s = byte s 0

abbrev pub weekday_byte : List ℕ → ℕ
weekday_byte s = byte s 1

abbrev pub means_length : List ℕ → ℕ
means_length s = number16 s 2

abbrev pub mean_offset : ℕ → ℕ
mean_offset = item_at 2 2

abbrev pub first_means : List ℕ → ℕ → List ℤ
first_means s = means_at s 2

abbrev pub means_of : List ℕ → List ℤ
means_of s = first_means s (means_length s)

-- "n is the number of means less three."
abbrev pub days_of : List ℕ → ℕ
days_of s = means_length s - 3

-- K1: "All callers of the weights pass the list on, and case files of today's layout mean 7 throughout."
abbrev pub calendar_of : List ℕ → List ℕ
calendar_of s = replicate (days_of s) 7

abbrev pub readings_offset : List ℕ → ℕ
readings_offset s = end_at 2 s 2

abbrev pub readings_length : List ℕ → ℕ
readings_length s = number16 s (readings_offset s)

abbrev pub reading_offset : List ℕ → ℕ → ℕ
reading_offset s = item_at 10 (readings_offset s)

abbrev pub reading_boundary : List ℕ → ℕ → ℕ
reading_boundary s = boundary_at 10 s (readings_offset s)

abbrev pub reading_count : List ℕ → ℕ → ℕ
reading_count s = reading_count_at s (readings_offset s)

abbrev pub cuts_offset : List ℕ → ℕ
cuts_offset s = end_at 10 s (readings_offset s)

abbrev pub cuts_length : List ℕ → ℕ
cuts_length s = number16 s (cuts_offset s)

abbrev pub cut_offset : List ℕ → ℕ → ℕ
cut_offset s = item_at 2 (cuts_offset s)

abbrev pub cut_boundary : List ℕ → ℕ → ℕ
cut_boundary s = boundary_at 2 s (cuts_offset s)

-- the offset after the last cut
abbrev pub end_of : List ℕ → ℕ
end_of s = end_at 2 s (cuts_offset s)

-- the account over the means' weights: nothing marked, then the first i readings, then the first i cuts put in
abbrev pub empty_case : List ℕ → Account
empty_case s =
    account (weights_of (profile_byte s) (weekday_byte s) (means_of s) (calendar_of s)) (replicate (days_of s + 1) 0) (replicate (days_of s + 1) 0)

abbrev pub with_readings : List ℕ → ℕ → Account
with_readings s = readings_put (empty_case s) s (readings_offset s)

abbrev pub with_cuts : List ℕ → ℕ → Account
with_cuts s = cuts_put (with_readings s (readings_length s)) s (cuts_offset s)

-- the account that the file names
abbrev pub account_of : List ℕ → Account
account_of s = with_cuts s (cuts_length s)
