-- The table of refusals for the account's calls (If a call declines), row by row in the order in which they are checked.
-- 0 is done: "a call is accepted if no condition of the table holds for it".
use Rattle.std.specs.Prelude.{ℕ, suc, ◌≤◌, ◌<◌, ◌≡◌, Bool, true, false, not, ◌&&◌, ◌||◌, [], ◌∷◌, ltb}
use Rattle.common.specs.Rows.{row}
use Rattle.common.specs.Below.{somewhere}
use Rattle.account.specs.Stands.{Stands, Readings, with_reading, last_less_first}
use Rattle.account.specs.Account.{Account, account, days, shown, unfit, sound, good_weights, energy_most}

-- 8: "count below an earlier or above a later reading", the one at j
abbrev pub below_earlier : Readings → ℕ → ℕ → ℕ → Bool
below_earlier r k v j = ltb j k && (r.at j && ltb v (r.count j))

abbrev pub above_later : Readings → ℕ → ℕ → ℕ → Bool
above_later r k v j = ltb k j && (r.at j && ltb (r.count j) v)

unfoldable pub out_of_order : ℕ → Readings → ℕ → ℕ → Bool
out_of_order n r k v = somewhere (below_earlier r k v) (suc n) || somewhere (above_later r k v) (suc n)

-- "Readings may have equal counts": a count that is not below an earlier reading's and not above a later one's is never 8, be it equal to them or not
-- (proofs/Pairs, `equal_counts`)
abbrev pub EqualCounts : Type 0
EqualCounts =
    (n : ℕ) (r : Readings) (k v : ℕ) → ((j : ℕ) → r.at j ≡ true → j < k → r.count j ≤ v) → ((j : ℕ) → r.at j ≡ true → k < j → v ≤ r.count j) →
    out_of_order n r k v ≡ false

-- 9: last less first above 2,000,000,000, the call's own count taken in among those standing
abbrev pub too_much : ℕ → Readings → ℕ → ℕ → Bool
too_much n r k v = ltb energy_most (last_less_first n (with_reading r k v))

-- the rows for a call on boundary k of an account of n days, over what stands
abbrev pub reading_rows : ℕ → Stands → ℕ → ℕ → ℕ
reading_rows n s k v =
    row (ltb n k) 6  -- boundary above n
    (row (s.readings.at k) 7  -- that mark is already there, whatever its count
    (row (out_of_order n s.readings k v) 8  -- count below an earlier or above a later reading
    (row (too_much n s.readings k v) 9  -- last less first above 2,000,000,000
    0)))

abbrev pub withdraw_rows : ℕ → Stands → ℕ → ℕ
withdraw_rows n s k =
    row (ltb n k) 6  -- boundary above n
    (row (not (s.readings.at k)) 10  -- no such mark to remove
    0)

abbrev pub cut_rows : ℕ → Stands → ℕ → ℕ
cut_rows n s k =
    row (ltb n k) 6  -- boundary above n
    (row (s.cut k) 7  -- that mark is already there
    0)

abbrev pub uncut_rows : ℕ → Stands → ℕ → ℕ
uncut_rows n s k =
    row (ltb n k) 6  -- boundary above n
    (row (not (s.cut k)) 10  -- no such mark to remove
    0)

-- 3 and 5 come before the others; open asks 5 of the weights alone
abbrev pub account_rows : Account → ℕ → ℕ
account_rows a rest =
    row (unfit a) 3  -- n outside 1 to 1,096, or a lent length unfit
    (row (not (sound a)) 5  -- account unsound
    rest)

-- "Open ..., checking only lengths and weights."
abbrev pub open_number : Account → ℕ
open_number a =
    row (unfit a) 3  -- n outside 1 to 1,096, or a lent length unfit
    (row (not (good_weights a.weights)) 5  -- lent weights unsound
    0)

abbrev pub reading_number : Account → ℕ → ℕ → ℕ
reading_number a k v = account_rows a (reading_rows (days a) (shown a) k v)

-- "Readings may have equal counts", by an example: between two readings of 500 a third of 500 is accepted (proofs/Pairs, `equal_between`)
abbrev pub EqualBetween : Type 0
EqualBetween = reading_number (account (1 ∷ 1 ∷ []) (2 ∷ 0 ∷ 2 ∷ []) (500 ∷ 0 ∷ 500 ∷ [])) 1 500 ≡ 0

abbrev pub withdraw_number : Account → ℕ → ℕ
withdraw_number a k = account_rows a (withdraw_rows (days a) (shown a) k)

abbrev pub cut_number : Account → ℕ → ℕ
cut_number a k = account_rows a (cut_rows (days a) (shown a) k)

abbrev pub uncut_number : Account → ℕ → ℕ
uncut_number a k = account_rows a (uncut_rows (days a) (shown a) k)
