-- Starred cases (Buyer's note: "The starred cases form a joint table, shown by a single fact about the rules"): the paper's starred
-- lines in their order, a row for each, and in a row every answer of the line: what the rules give, and what the line says. The rules are
-- definitions that the calls' contracts cite. `Starred` is the fact (proofs/Starred, `starred`).
use Rattle.std.specs.Prelude.{◌≡◌, List, [], ◌∷◌, ℕ, zero, suc, ◌+◌, ◌-◌, ◌/◌, ◌%◌, ◌^◌, ◌<◌, ℤ, pos, length, replicate}
use Rattle.power.specs.Power.{one, power_low, power_high, p_low, p_high}
use Rattle.profile.specs.Limits.{minus}
use Rattle.common.specs.Lists.{list_of, sum_of}
use Rattle.weights.specs.Temperature.{temperature_number, temperature_place, temperature_value}
use Rattle.weights.specs.Weights.{day_temperature}
use Rattle.account.specs.Account.{Account, account, days}
use Rattle.account.specs.Refusals.{open_number, reading_number, cut_number}
use Rattle.common.specs.Rows.{if_done}
use Rattle.account.specs.Calls.{cleared, reading_put, cut_put}
use Rattle.statement.specs.Parts.{Outputs, outputs}
use Rattle.statement.specs.Call.{Ruling, ruling}
use Rattle.customer.specs.Customer.{customer_value, customer_number, daily_amount, amount_number}

-- each line of a table holds
abbrev pub Holds : List (Type 0) → Type 0
Holds [] = Unit {0}
Holds (line ∷ lines) = line × Holds lines

-- four means, today's first, are accepted and give t, and so does the series of them, oldest first, for its day
abbrev Gives : ℤ → ℤ → ℤ → ℤ → ℤ → Type 0
Gives a b c d t = (temperature_number a b c d ≡ 0) × (temperature_value a b c d ≡ t) × (day_temperature (d ∷ c ∷ b ∷ a ∷ []) 0 ≡ t)

-- they are refused with 4 and this index
abbrev Refused : ℤ → ℤ → ℤ → ℤ → ℕ → Type 0
Refused a b c d index = (temperature_number a b c d ≡ 4) × (temperature_place a b c d ≡ index) × (temperature_value a b c d ≡ pos 0)

-- ---- an account after each call
abbrev opening : Account → Account
opening a = if_done (open_number a) (cleared a) a

abbrev reading : Account → ℕ → ℕ → Account
reading a k v = if_done (reading_number a k v) (reading_put a k v) a

abbrev cut : Account → ℕ → Account
cut a k = if_done (cut_number a k) (cut_put a k) a

abbrev opened : List ℕ → Account
opened w = opening (account w (replicate (length w + 1) 0) (replicate (length w + 1) 0))

-- cuts at boundaries 1 to m
abbrev cuts : Account → ℕ → Account
cuts a zero = a
cuts a (suc m) = cut (cuts a m) (suc m)

-- a reading of 0 at the start, a cut at each boundary between, and a reading of this energy at the end
abbrev metered : ℕ → List ℕ → Account
metered energy w = reading (cuts (reading (opened w) 0 0) (length w - 1)) (length w) energy

-- ---- the statement of it, into outputs that held something else
abbrev lent : Account → Outputs
lent a = outputs (replicate (days a) 9) (replicate (days a) 9) (replicate (days a) 9)

abbrev stated : Account → Ruling
stated a = ruling a (lent a)

-- m boundaries, one after the other from k on
abbrev up_from : ℕ → ℕ → List ℕ
up_from k = list_of (λ i. k + i)

-- the statement of this account is given: a part for each day, from its start to its end, and with these Wh
abbrev Daily : Account → List ℕ → Type 0
Daily a wh =
    ((stated a).number ≡ 0) ×
    ((stated a).parts ≡ days a) ×
    ((stated a).memory ≡ outputs (up_from 0 (days a)) (up_from 1 (days a)) wh)

-- this energy over these weights is split into these Wh
abbrev Split : ℕ → List ℕ → List ℕ → Type 0
Split energy w wh = Daily (metered energy w) wh

-- so many days of one weight
abbrev equal : ℕ → List ℕ
equal n = replicate n 1_000_000

-- sixty weights with the sum Z
abbrev sixty : ℕ → List ℕ
sixty z = (z / 60 + z % 60) ∷ replicate 59 (z / 60)

-- ---- the paper's eight starred lines

-- "Today-first means 0, 0, 0, 7 give 0; 0, 0, 0, 8 give 1; -5,000 three times and -4,999 give -5,000."
abbrev allocation : Type 0
allocation =
    Gives (pos 0) (pos 0) (pos 0) (pos 7) (pos 0) ×
    Gives (pos 0) (pos 0) (pos 0) (pos 8) (pos 1) ×
    Gives (minus 5_000) (minus 5_000) (minus 5_000) (minus 4_999) (minus 5_000)

-- "Mean 3,999 passes, 4,000 is 4."
abbrev warmest : Type 0
warmest =
    Gives (pos 3_999) (pos 3_999) (pos 3_999) (pos 3_999) (pos 3_999) ×
    Refused (pos 4_000) (pos 0) (pos 0) (pos 0) 0 ×
    Refused (pos 0) (pos 4_000) (pos 0) (pos 0) 1 ×
    Refused (pos 0) (pos 0) (pos 4_000) (pos 0) 2 ×
    Refused (pos 0) (pos 0) (pos 0) (pos 4_000) 3

-- "r equal to one: the power is 2^30, low and high." So it is where N = M, whatever they are and whatever the exponent.
abbrev ratio_one : Type 0
ratio_one =
    ((c : ℕ) → power_low one c ≡ 2 ^ 30) ×
    ((c : ℕ) → power_high one c ≡ 2 ^ 30) ×
    ((N C : ℕ) → 0 < N → p_low N N C ≡ 2 ^ 30) ×
    ((N C : ℕ) → 0 < N → p_high N N C ≡ 2 ^ 30)

-- "25,424,000 Wh over weights 9,870 and 21,478: 8,004,813 and 17,419,187 (document 002's example)."
abbrev two_weights : Type 0
two_weights = Split 25_424_000 (9_870 ∷ 21_478 ∷ []) (8_004_813 ∷ 17_419_187 ∷ [])

-- "100 over three equal days: 33, 34, 33. 1 over two: 1, 0. 0 over two: 0, 0."
abbrev equal_days : Type 0
equal_days =
    Split 100 (equal 3) (33 ∷ 34 ∷ 33 ∷ []) ×
    Split 1 (equal 2) (1 ∷ 0 ∷ []) ×
    Split 0 (equal 2) (0 ∷ 0 ∷ [])

-- "958,000 Wh with Z = 379,356,309: 25,253 (document 000)." So it is for all weights with that sum, and there are such that pass.
abbrev customer : Type 0
customer =
    ((w : List ℕ) → sum_of w ≡ 379_356_309 → customer_value 958_000 w ≡ 25_253) ×
    (sum_of (sixty 379_356_309) ≡ 379_356_309) ×
    (customer_number 958_000 (sixty 379_356_309) ≡ 0)

-- "Value 25,253, weight 1,000,000: 2,525 Wh. Value 1,000,000, weight 5: 1 Wh."
abbrev amounts : Type 0
amounts =
    (amount_number 25_253 1_000_000 ≡ 0) ×
    (daily_amount 25_253 1_000_000 ≡ 2_525) ×
    (amount_number 1_000_000 5 ≡ 0) ×
    (daily_amount 1_000_000 5 ≡ 1)

-- "Counts 0 and 2,000,000,000 stand; 2,000,000,001 is 9."
abbrev most_energy : Type 0
most_energy =
    ((reading (reading (opened (equal 1)) 0 0) 1 2_000_000_000).marks ≡ 2 ∷ 2 ∷ []) ×
    ((reading (reading (opened (equal 1)) 0 0) 1 2_000_000_000).counts ≡ 0 ∷ 2_000_000_000 ∷ []) ×
    (reading_number (reading (opened (equal 1)) 0 0) 1 2_000_000_001 ≡ 9)

abbrev pub cases : List (Type 0)
cases = allocation ∷ warmest ∷ ratio_one ∷ two_weights ∷ equal_days ∷ customer ∷ amounts ∷ most_energy ∷ []

abbrev pub Starred : Type 0
Starred = Holds cases

-- the table has eight rows, and each of the paper's lines follows from the fact (proofs/Starred, `every_line`)
abbrev pub EveryLine : Type 0
EveryLine = (length cases ≡ 8) × (Starred → allocation × warmest × ratio_one × two_weights × equal_days × customer × amounts × most_energy)
