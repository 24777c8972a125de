-- The printed statement and refusal (Case file): "First the number of parts, then from, to, Wh of each, then their sum. A refusal prints
-- one line: `refused`, its number and the place (0 if it has none), single spaces between." Text is a list of ASCII codes.
use Rattle.std.specs.Prelude.{ℕ, zero, suc, ◌+◌, ◌-◌, ◌*◌, ◌/◌, ◌%◌, ◌^◌, ◌≤◌, ◌<◌, ◌≡◌, Bool, true, cond, ◌&&◌, ◌||◌, List, [], ◌∷◌, ◌++◌, leb, ltb, eqb, length, get_or}
use Rattle.std.proofs.lemmas.List.Edits.{sets}
use Rattle.common.specs.Below.{somewhere}
use Rattle.account.specs.Account.{energy_most}
use Rattle.profile.specs.Limits.{span_most}
use Rattle.statement.specs.Parts.{Outputs}
use Rattle.statement.specs.Shares.{total}

abbrev pub digit : ℕ → ℕ
digit d = 48 + d

-- the decimal digits of n, the last one and before it those of n / 10: at most `more` before it
unfoldable pub digits : ℕ → ℕ → List ℕ
digits zero n = digit (n % 10) ∷ []
digits (suc more) n = cond (ltb n 10) [] (digits more (n / 10)) ++ (digit (n % 10) ∷ [])

-- 20 digits are enough for 64 bits
unfoldable pub decimal : ℕ → List ℕ
decimal n = digits 19 n

-- k is the fewest digits, at least one, that hold n
abbrev pub Fewest : ℕ → ℕ → Type 0
Fewest n k = (1 ≤ k) × (n < 10 ^ k) × (1 < k → 10 ^ (k - 1) ≤ n)

-- a number of 64 bits is printed with the fewest digits, so no leading zero but in 0 itself; no other number of digits is the fewest
-- (proofs/Decimal, `fewest_digits`)
abbrev pub FewestDigits : Type 0
FewestDigits = (n : ℕ) → n < 2 ^ 64 → Fewest n (length (decimal n)) × ((k : ℕ) → Fewest n k → k ≡ length (decimal n))

abbrev pub is_digit : ℕ → Bool
is_digit x = leb 48 x && leb x 57

unfoldable pub all_digits : List ℕ → Bool
all_digits [] = true
all_digits (x ∷ xs) = is_digit x && all_digits xs

-- the value of digits that follow others of value v
unfoldable pub value_after : ℕ → List ℕ → ℕ
value_after v [] = v
value_after v (x ∷ xs) = value_after (v * 10 + (x - 48)) xs

-- (proofs/ReadBack, `read_back`)
pub record ReadBack : Type 0 where
  -- a number of 64 bits is printed with digits alone, and they read as that number
  pub reads : (n : ℕ) → n < 2 ^ 64 → (all_digits (decimal n) ≡ true) × (value_after 0 (decimal n) ≡ n)
  -- digits alone: each byte is one of the ten
  pub ten : (xs ys : List ℕ) (x : ℕ) → all_digits (xs ++ (x ∷ ys)) ≡ true → (d : ℕ) × (d < 10) × (x ≡ digit d)

abbrev pub space : List ℕ
space = 32 ∷ []

abbrev pub line_feed : List ℕ
line_feed = 10 ∷ []

-- `parts `, `sum `, `refused `
abbrev pub parts_word : List ℕ
parts_word = 112 ∷ 97 ∷ 114 ∷ 116 ∷ 115 ∷ 32 ∷ []

abbrev pub sum_word : List ℕ
sum_word = 115 ∷ 117 ∷ 109 ∷ 32 ∷ []

abbrev pub refused_word : List ℕ
refused_word = 114 ∷ 101 ∷ 102 ∷ 117 ∷ 115 ∷ 101 ∷ 100 ∷ 32 ∷ []

-- one line for a part: from, to, Wh
abbrev pub line_of : ℕ → ℕ → ℕ → List ℕ
line_of from to wh = decimal from ++ space ++ decimal to ++ space ++ decimal wh ++ line_feed

-- the lines of the parts before part m
unfoldable pub part_lines : Outputs → ℕ → List ℕ
part_lines o zero = []
part_lines o (suc m) = part_lines o m ++ line_of (get_or o.from m 0) (get_or o.to m 0) (get_or o.wh m 0)

-- no statement is like this: no part, more than 1,096 or than an output holds, or a part above 2,000,000,000 Wh
abbrev pub no_statement : Outputs → ℕ → Bool
no_statement o m =
    eqb m 0 ||
    ltb span_most m ||
    ltb (length o.from) m ||
    ltb (length o.to) m ||
    ltb (length o.wh) m ||
    somewhere (λ i. ltb energy_most (get_or o.wh i 0)) m

-- the number of parts, their lines, and their sum
abbrev pub parts_text : Outputs → ℕ → List ℕ
parts_text o m = parts_word ++ decimal m ++ line_feed ++ part_lines o m ++ sum_word ++ decimal (total o m) ++ line_feed

-- the text of a statement of m parts; none where there can be no such statement
abbrev pub statement_text : Outputs → ℕ → List ℕ
statement_text o m = cond (no_statement o m) [] (parts_text o m)

-- the one line of a refusal
abbrev pub refusal_text : ℕ → ℕ → List ℕ
refusal_text number place = refused_word ++ decimal number ++ space ++ decimal place ++ line_feed

-- a text laid out in a lent slice from an offset on: the offset after it is returned, as much of it as fits is stored, the rest is untouched
pub record LaidOut (at : ℕ) (text before : List ℕ) (next : ℕ) (after : List ℕ) : Type 0 where
  pub ends : next ≡ at + length text
  pub stored : after ≡ sets before at text

module _ {A : Type 0} where
  -- such a text at the start of a slice, what it is made of being lent and unchanged
  pub record TextMet (text before : List ℕ) (next : ℕ) (after : List ℕ) (lent kept : A) : Type 0 where
    pub prints : LaidOut 0 text before next after
    pub stays : kept ≡ lent
