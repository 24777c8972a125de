-- Limits (Temperature of a day, Profiles): "Daily means are whole hundredths of a degree C, -5,000 to 3,999"; "A span has n days, 1 to 1,096";
-- "The bounds on temperature, weight and span are named once"; "Every weight that the table can give is 1 to 6,999,999".
use Rattle.std.specs.Prelude.{Bool, not, ◌&&◌, ℕ, leb, ℤ, pos, neg_ℤ}
use Rattle.std.specs.Int.Signed.{le_z}

-- the negative number of this size
abbrev pub minus : ℕ → ℤ
minus n = neg_ℤ (pos n)

abbrev pub coldest : ℤ
coldest = minus 5_000

abbrev pub warmest : ℤ
warmest = pos 3_999

abbrev pub weight_least : ℕ
weight_least = 1

abbrev pub weight_most : ℕ
weight_most = 6_999_999

abbrev pub span_least : ℕ
span_least = 1

abbrev pub span_most : ℕ
span_most = 1_096

-- a number of days that a span can have
abbrev pub is_span : ℕ → Bool
is_span n = leb span_least n && leb n span_most

-- "n outside 1 to 1,096"
abbrev pub bad_span : ℕ → Bool
bad_span n = not (is_span n)

-- numbers 0 to 9
abbrev pub profile_count : ℕ
profile_count = 10

-- one mean, or one temperature, is in range
unfoldable pub in_range : ℤ → Bool
in_range t = le_z coldest t && le_z t warmest
