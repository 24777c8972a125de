-- The faults of a case file (If a call declines): the reader "goes front to back; its refusals 1 to 9 and 13 carry the offset of the field at
-- fault", "and 13 comes first within an item", "an early end before a boundary that fails to rise".
use Rattle.std.specs.Prelude.{ℕ, zero, suc, ◌+◌, ◌-◌, Bool, true, false, not, List, leb, ltb, length}
use Rattle.profile.specs.Limits.{profile_count, in_range, bad_span}
use Rattle.common.specs.Below.{somewhere}
use Rattle.account.specs.Account.{energy_most}
use Rattle.casefile.specs.Bytes.{byte, number16}
use Rattle.casefile.specs.Case.{item_at, mean_at, boundary_at, reading_count_at, days_of, readings_offset, cuts_offset, end_of}

-- no fault, or a refusal with its number and its place
pub data Fault : Type 0 where
  no_fault : Fault
  refused : (number place : ℕ) → Fault

-- the first of two faults, in this order
infixr 20 ◌before◌
abbrev pub ◌before◌ : Fault → Fault → Fault
no_fault before g = g
refused n k before g = refused n k

-- a fault of this number at this place where the condition holds
abbrev pub fault : Bool → ℕ → ℕ → Fault
fault true number place = refused number place
fault false number place = no_fault

-- the first fault of the items 0 to m-1
unfoldable pub first_fault : (ℕ → Fault) → ℕ → Fault
first_fault f zero = no_fault
first_fault f (suc m) = first_fault f m before f m

-- 13: "file ends early (place: its length)", an item running up to the offset `to`
abbrev pub early : List ℕ → ℕ → Fault
early s to = fault (ltb (length s) to) 13 (length s)

-- 13: "a boundary that fails to rise (place: that boundary)", the item's number being i
abbrev pub fails_to_rise : (ℕ → ℕ) → ℕ → Bool
fails_to_rise boundary zero = false
fails_to_rise boundary (suc i) = leb (boundary (suc i)) (boundary i)

-- profile and weekday, from the offset of the first
abbrev pub first_bytes_fault : (s : List ℕ) (at : ℕ) → Fault
first_bytes_fault s at =
    early s (at + 1) before
    fault (leb profile_count (byte s at)) 1 at before
    early s (at + 2) before
    fault (ltb 6 (byte s (at + 1))) 2 (at + 1)

-- the count of means, and mean i, of the section at an offset
abbrev pub means_count_fault : (s : List ℕ) (at : ℕ) → Fault
means_count_fault s at =
    early s (at + 2) before
    fault (bad_span (number16 s at - 3)) 3 at

abbrev pub mean_fault_at : (s : List ℕ) (at i : ℕ) → Fault
mean_fault_at s at i =
    early s (item_at 2 at i + 2) before
    fault (not (in_range (mean_at s at i))) 4 (item_at 2 at i)

-- the boundary of a reading or a cut, in a span of n days
abbrev pub boundary_fault : (width : ℕ) (s : List ℕ) (at n i : ℕ) → Fault
boundary_fault width s at n i =
    early s (item_at width at i + width) before
    fault (fails_to_rise (boundary_at width s at) i) 13 (item_at width at i) before
    fault (ltb n (boundary_at width s at i)) 6 (item_at width at i)

-- boundaries rise, so every other reading is earlier (8), the first is reading 0 and the last is this one (9)
abbrev pub reading_fault_at : (s : List ℕ) (at n i : ℕ) → Fault
reading_fault_at s at n i =
    boundary_fault 10 s at n i before
    fault (somewhere (λ j. ltb (reading_count_at s at i) (reading_count_at s at j)) i) 8 (item_at 10 at i + 2) before
    fault (ltb energy_most (reading_count_at s at i - reading_count_at s at 0)) 9 (item_at 10 at i + 2)

abbrev pub cut_fault_at : (s : List ℕ) (at n i : ℕ) → Fault
cut_fault_at = boundary_fault 2

-- the first fault of the items of a section, and of a section that has no rule for its count
abbrev pub items_fault : (s : List ℕ) (at : ℕ) → (ℕ → Fault) → Fault
items_fault s at item = first_fault item (number16 s at)

abbrev pub section_fault : (s : List ℕ) (at : ℕ) → (ℕ → Fault) → Fault
section_fault s at item = early s (at + 2) before items_fault s at item

-- the sections by where they start: profile and weekday with the count of means, and with the means ..
abbrev pub head_fault_at : (s : List ℕ) (at : ℕ) → Fault
head_fault_at s at = first_bytes_fault s at before means_count_fault s (at + 2)

abbrev pub span_fault_at : (s : List ℕ) (at : ℕ) → Fault
span_fault_at s at = head_fault_at s at before items_fault s (at + 2) (mean_fault_at s (at + 2))

-- .. the readings and the cuts of n days ..
abbrev pub readings_fault_at : (s : List ℕ) (at n : ℕ) → Fault
readings_fault_at s at n = section_fault s at (reading_fault_at s at n)

abbrev pub cuts_fault_at : (s : List ℕ) (at n : ℕ) → Fault
cuts_fault_at s at n = section_fault s at (cut_fault_at s at n)

-- .. and 13: "has bytes left (place: the first)", after the last section
abbrev pub left_over : (s : List ℕ) (at : ℕ) → Fault
left_over s at = fault (ltb at (length s)) 13 at

-- the same, where the layout has them
abbrev pub head_fault : List ℕ → Fault
head_fault s = head_fault_at s 0

abbrev pub mean_fault : List ℕ → ℕ → Fault
mean_fault s = mean_fault_at s 2

abbrev pub reading_fault : List ℕ → ℕ → Fault
reading_fault s = reading_fault_at s (readings_offset s) (days_of s)

abbrev pub readings_fault : List ℕ → Fault
readings_fault s = readings_fault_at s (readings_offset s) (days_of s)

abbrev pub cut_fault : List ℕ → ℕ → Fault
cut_fault s = cut_fault_at s (cuts_offset s) (days_of s)

abbrev pub cuts_fault : List ℕ → Fault
cuts_fault s = cuts_fault_at s (cuts_offset s) (days_of s)

-- the first fault up to the end of the means, of the readings, and of the cuts
abbrev pub span_fault : List ℕ → Fault
span_fault s = span_fault_at s 0

abbrev pub before_cuts_fault : List ℕ → Fault
before_cuts_fault s = span_fault s before readings_fault s

abbrev pub sections_fault : List ℕ → Fault
sections_fault s = before_cuts_fault s before cuts_fault s

-- the first fault of a file, front to back
abbrev pub fault_of : List ℕ → Fault
fault_of s = sections_fault s before left_over s (end_of s)
