-- The account (Account and its calls): its three slices as one value, what they show, and when they fit and are sound.
use Rattle.std.specs.Prelude.{ℕ, suc, ◌+◌, Bool, true, false, not, ◌&&◌, ◌||◌, List, leb, eqb, length, get_or}
use Rattle.profile.specs.Limits.{weight_least, weight_most, bad_span}
use Rattle.common.specs.Below.{everywhere}
use Rattle.account.specs.Stands.{Readings, Stands, never_falling, last_less_first}
use Rattle.account.specs.declared.Account as declared

-- weights (n), marks and counts (n+1): a boundary is the start of a gas day, n the end of the last one, a reading's count the meter's register in Wh, a cut a date at which
-- the energy between two readings is divided
pub record Account : Type 0 where
  pub weights : List ℕ
  pub marks : List ℕ
  pub counts : List ℕ

-- what three lent slices hold, at the start (`old`, or `now` where they are only read) or the end (`new`) of a call
abbrev pub account : List ℕ → List ℕ → List ℕ → Account
account w m c = record { weights = w; marks = m; counts = c }

-- what an account holds that is lent to be read
abbrev pub lent : declared.Account → Account
lent a = account a.weights.now a.marks.now a.counts.now

-- n
abbrev pub days : Account → ℕ
days a = length a.weights

-- marks: "0 none, 1 cut, 2 reading, 3 both"
abbrev pub marks_reading : ℕ → Bool
marks_reading m = eqb m 2 || eqb m 3

abbrev pub marks_cut : ℕ → Bool
marks_cut m = eqb m 1 || eqb m 3

-- the mark for whether a reading and whether a cut is there
abbrev pub mark_of : Bool → Bool → ℕ
mark_of false false = 0
mark_of false true = 1
mark_of true false = 2
mark_of true true = 3

-- what the marks and counts show
abbrev pub readings_in : List ℕ → List ℕ → Readings
readings_in marks counts = record { at = λ k. marks_reading (get_or marks k 0); count = λ k. get_or counts k 0 }

abbrev pub shown : Account → Stands
shown a = record { readings = readings_in a.marks a.counts; cut = λ k. marks_cut (get_or a.marks k 0) }

-- "n outside 1 to 1,096, or a lent length unfit": marks and counts are n+1 long
abbrev pub unfit_lengths : ℕ → ℕ → ℕ → Bool
unfit_lengths n marks counts = bad_span n || not (eqb marks (n + 1)) || not (eqb counts (n + 1))

abbrev pub unfit : Account → Bool
unfit a = unfit_lengths (days a) (length a.marks) (length a.counts)

-- "Sound: weights 1 to 6,999,999, ..."
abbrev pub good_weight : ℕ → Bool
good_weight x = leb weight_least x && leb x weight_most

unfoldable pub good_weights : List ℕ → Bool
good_weights w = everywhere (λ d. good_weight (get_or w d 0)) (length w)

-- "... marks 0 to 3, zero counts as said": at every boundary, 0 to n
unfoldable pub good_marks : Account → Bool
good_marks a = everywhere (λ k. leb (get_or a.marks k 0) 3) (suc (days a))

unfoldable pub zero_counts : Account → Bool
zero_counts a = everywhere (λ k. (shown a).readings.at k || eqb (get_or a.counts k 0) 0) (suc (days a))

-- "last less first at most 2,000,000,000"
abbrev pub energy_most : ℕ
energy_most = 2_000_000_000

abbrev pub sound : Account → Bool
sound a =
    good_weights a.weights &&
    good_marks a &&
    zero_counts a &&
    never_falling (shown a).readings (suc (days a)) &&
    leb (last_less_first (days a) (shown a).readings) energy_most
