-- The calendar of a span (K1): "The weekday is not the trade's rule; the operator's calendar says which day a date counts as. Weights now take a lent byte for
-- each day: 0 to 6 names the weekday it counts as, 7 keeps its own. The calendar itself is the operator's." The table: "14 the first byte above 7".
use Rattle.std.specs.Prelude.{Bool, cond, List, ℕ, ◌+◌, ◌%◌, ltb, length, get_or}
use Rattle.common.specs.Below.{somewhere, first}

-- the weekday that day k counts as; its own is day 0's plus k, modulo 7
abbrev pub counts_as : (weekday : ℕ) (calendar : List ℕ) (k : ℕ) → ℕ
counts_as weekday calendar k = cond (ltb (get_or calendar k 7) 7) (get_or calendar k 7) ((weekday + k) % 7)

-- the byte of day k is above 7
abbrev pub no_day : (calendar : List ℕ) (k : ℕ) → Bool
no_day calendar k = ltb 7 (get_or calendar k 7)

-- some byte is, and the index of the first
abbrev pub some_no_day : (calendar : List ℕ) → Bool
some_no_day calendar = somewhere (no_day calendar) (length calendar)

abbrev pub first_no_day : (calendar : List ℕ) → ℕ
first_no_day calendar = first (no_day calendar) (length calendar)
