-- The sections of a case file one by one (Case file, If a call declines): what the reader's private functions promise on its way
-- "front to back". Each is over the offset `at` where its section starts.
use Rattle.std.specs.Prelude.{ℕ, ◌+◌, ◌-◌, ◌≤◌, ◌<◌, ◌≡◌, false, not, List, ltb, ℤ, length, take, Result, MatchResult}
use Rattle.profile.specs.Limits.{profile_count, in_range, span_least, span_most}
use Rattle.common.specs.declared.refusal.Fault as placed
use Rattle.common.specs.Refusals.{number_of}
use Rattle.common.specs.Rows.{zeros}
use Rattle.account.specs.Account.{Account, account, energy_most}
use Rattle.weights.specs.Means.{some_out}
use Rattle.casefile.specs.declared.readings.Reading.{Reading}
use Rattle.casefile.specs.Bytes.{number16, number64, signed16}
use Rattle.casefile.specs.Case.{means_at, readings_put, cuts_put, days_of, account_of}
use Rattle.casefile.specs.Faults.{Fault, no_fault, refused, ◌before◌, fault, early, means_count_fault, mean_fault_at, items_fault, fault_of}
use Rattle.casefile.specs.Reader.{full}

-- the fault of the file that an answer tells
abbrev pub told : placed.Fault → Fault
told e = refused (number_of e.refusal) e.place

-- there is no fault f, and the reader has come to the offset `next` of the file
pub record Passed (f : Fault) (next at : ℕ) (P : Type 0) : Type 0 where
  pub clean : f ≡ no_fault
  pub stands : at ≡ next
  pub gives : P

-- the answer has passed, P holding of what it gives, or tells the fault f
abbrev pub Reached : {A : Type 0} (f : Fault) (next at : ℕ) → (A → Type 0) → Result A placed.Fault → Type 0
Reached f next at P result = MatchResult result (λ x. Passed f next at (P x)) (λ e. f ≡ told e)

-- a mean at an offset
abbrev pub value_fault : List ℕ → ℕ → Fault
value_fault s at = early s (at + 2) before fault (not (in_range (signed16 s at))) 4 at

-- the means of the section: their count, then each
abbrev pub means_fault_at : List ℕ → ℕ → Fault
means_fault_at s at = means_count_fault s at before items_fault s at (mean_fault_at s at)

-- the means of the section stand in the buffer, and give the number of days
pub record MeansStand (s : List ℕ) (at : ℕ) (means : List ℤ) (days : ℕ) : Type 0 where
  pub days_are : days ≡ number16 s at - 3
  pub read : take (number16 s at) means ≡ means_at s at (number16 s at)

-- a boundary at the start of an item of this width, where boundaries below `low` fail to rise
abbrev pub rising_fault : (width : ℕ) (s : List ℕ) (at low n : ℕ) → Fault
rising_fault width s at low n =
    early s (at + width) before
    fault (ltb (number16 s at) low) 13 at before
    fault (ltb n (number16 s at)) 6 at

-- it is the file's, and rises within the span
pub record BoundaryRead (s : List ℕ) (at low n boundary : ℕ) : Type 0 where
  pub boundary_is : boundary ≡ number16 s at
  pub rising : low ≤ boundary
  pub inside : boundary ≤ n

-- a lent slice of this length, all zero
pub record Clear (n : ℕ) (lent : List ℕ) : Type 0 where
  pub long : length lent ≡ n
  pub zero_throughout : lent ≡ zeros lent

-- profile, weekday and means give weights, and the lent slice has room for them
pub record Weighable (profile weekday : ℕ) (means : List ℤ) (lent : List ℕ) : Type 0 where
  pub profile_known : profile < profile_count
  pub weekday_known : weekday ≤ 6
  pub least : span_least ≤ length lent
  pub most : length lent ≤ span_most
  pub enough : length means ≡ length lent + 3
  pub means_in_range : some_out means ≡ false

-- a reading's count, where the count before it is `last` and the first one `first`
abbrev pub count_fault : List ℕ → ℕ → ℕ → ℕ → Fault
count_fault s at first last =
    fault (ltb (number64 s (at + 2)) last) 8 (at + 2) before
    fault (ltb energy_most (number64 s (at + 2) - first)) 9 (at + 2)

-- a reading at an offset, where boundaries below `low` fail to rise
abbrev pub item_fault : List ℕ → ℕ → ℕ → ℕ → ℕ → ℕ → Fault
item_fault s at low n first last = rising_fault 10 s at low n before count_fault s at first last

-- it is the file's
pub record ReadingRead (s : List ℕ) (at n last : ℕ) (r : Reading) : Type 0 where
  pub boundary_is : r.boundary ≡ number16 s at
  pub inside : r.boundary ≤ n
  pub count_is : r.count ≡ number64 s (at + 2)
  pub rising : last ≤ r.count

-- the readings of the section are put into marks and counts, whatever the weights
pub record ReadingsPut (s : List ℕ) (at : ℕ) (marks counts marks-after counts-after : List ℕ) : Type 0 where
  pub puts : (w : List ℕ) → account w marks-after counts-after ≡ readings_put (account w marks counts) s at (number16 s at)

-- the cuts of the section are put into the marks, whatever weights and counts
pub record CutsPut (s : List ℕ) (at : ℕ) (marks marks-after : List ℕ) : Type 0 where
  pub puts : (w c : List ℕ) → account w marks-after c ≡ cuts_put (account w marks c) s at (number16 s at)

-- slices of full length, all zero
pub record AllClear (lent : Account) : Type 0 where
  pub weights : Clear span_most lent.weights
  pub marks : Clear (span_most + 1) lent.marks
  pub counts : Clear (span_most + 1) lent.counts

-- there is no fault, and the slices hold the account that the file names
pub record Filled (s : List ℕ) (after : Account) (n : ℕ) : Type 0 where
  pub clean : fault_of s ≡ no_fault
  pub days_are : n ≡ days_of s
  pub fills : after ≡ full (account_of s)

-- .. or the answer tells the file's fault
abbrev pub FillMet : List ℕ → Account → Result ℕ placed.Fault → Type 0
FillMet s after result = MatchResult result (Filled s after) (λ e. fault_of s ≡ told e)
