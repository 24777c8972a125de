-- What every page given shows (K4), over the records of the calls.
use Rattle.std.specs.Prelude.{ℕ, suc, ◌+◌, ◌*◌, ◌%◌, ◌^◌, ◌≤◌, ◌<◌, ◌≡◌, true, false, ◌↔◌, List, ◌++◌, length, get_or, take, replicate}
use Rattle.std.proofs.Math.Seq.{slice}
use Rattle.account.specs.Account.{Account, days, shown}
use Rattle.account.specs.Stands.{last_less_first}
use Rattle.statement.specs.Parts.{Outputs}
use Rattle.statement.specs.Shares.{total}
use Rattle.statement.specs.Call.{StatementMet, unfit_outputs}
use Rattle.layout.specs.Text.{decimal, Fewest, all_digits, value_after}
use Rattle.page.specs.Page.{aligned, heading, page_length}
use Rattle.page.specs.Call.{PageMet}

-- a character of ASCII
abbrev pub Character : ℕ → Type 0
Character x = (32 ≤ x) × (x ≤ 126)

-- "lines of exactly 40 characters and a line feed"
pub record Lined (page : List ℕ) : Type 0 where
  -- no line is cut short
  pub whole : length page % 41 ≡ 0
  -- a line feed ends each line, and stands nowhere else
  pub feeds : (k : ℕ) → k < length page → (get_or page k 0 ≡ 10) ↔ (k % 41 ≡ 40)
  pub characters : (k : ℕ) → k < length page → k % 41 < 40 → Character (get_or page k 0)

-- Every page given has such lines, and as many bytes as the call returned (proofs/Shape, `page_shape`).
abbrev pub PageShape : Type 0
PageShape = (a after : Account) (lent page : List ℕ) (given : ℕ) → PageMet a lent 0 given after page → (length page ≡ given) × Lined page

-- No page has more than 44,977 bytes (proofs/Shape, `page_most`).
abbrev pub PageMost : Type 0
PageMost = (a after : Account) (lent page : List ℕ) (given : ℕ) → PageMet a lent 0 given after page → given ≤ 44_977

-- how a field is read: spaces, then a decimal number and nothing else; the number has no more digits than it needs
pub record Reads (field : List ℕ) (n : ℕ) : Type 0 where
  pub spaces : ℕ
  pub digits : List ℕ
  pub all : field ≡ replicate spaces 32 ++ digits
  pub alone : all_digits digits ≡ true
  pub value : value_after 0 digits ≡ n
  pub fewest : Fewest n (length digits)

-- No other bytes read so: a field that reads as a number of 64 bits is that number, right-aligned (proofs/Fields, `one_field`).
abbrev pub OneField : Type 0
OneField = (field : List ℕ) (n : ℕ) → n < 2 ^ 64 → Reads field n → field ≡ aligned (length field) (decimal n)

-- a field of a line, line 0 being the heading, reads as this number; two spaces at least stand before it, so no number is wider than its columns
pub record Shows (page : List ℕ) (line column width n : ℕ) : Type 0 where
  pub reads : Reads (slice (41 * line + column) (41 * line + column + width) page) n
  pub room : 2 ≤ reads.spaces

-- the four fields of a line
pub record Line (page : List ℕ) (line from to wh sum : ℕ) : Type 0 where
  pub from_shown : Shows page line 0 6 from
  pub to_shown : Shows page line 6 6 to
  pub wh_shown : Shows page line 12 14 wh
  pub sum_shown : Shows page line 26 14 sum

-- the fields of line i + 1 are the numbers of part i and the sum of the Wh so far, for the first m parts
abbrev pub Lines : (page : List ℕ) (out : Outputs) (m : ℕ) → Type 0
Lines page out m = (i : ℕ) → i < m → Line page (suc i) (get_or out.from i 0) (get_or out.to i 0) (get_or out.wh i 0) (total out (suc i))

-- "Each field reads back as the number of the statement": take any page given, and any statement call on the same account, its outputs n long. This call is
-- done, and the page shows what it wrote (proofs/Shown, `page_reads_back`).
abbrev pub PageReadsBack : Type 0
PageReadsBack =
    (a after kept : Account) (lent page : List ℕ) (given : ℕ) → PageMet a lent 0 given after page →
    (outs out : Outputs) (answered m : ℕ) → unfit_outputs (days a) outs ≡ false → StatementMet a outs answered m kept out →
    (answered ≡ 0) × (given ≡ page_length m) × Lines page out m

-- No other bytes have the heading, such lines and the same length (proofs/Fixed, `one_page`).
abbrev pub OnePage : Type 0
OnePage =
    (a after kept : Account) (lent page : List ℕ) (given : ℕ) → PageMet a lent 0 given after page →
    (outs out : Outputs) (answered m : ℕ) → unfit_outputs (days a) outs ≡ false → StatementMet a outs answered m kept out →
    (other : List ℕ) → length other ≡ given → take 41 other ≡ heading → Lined other → Lines other out m → other ≡ page

-- "and the last running sum is the whole energy": there is a line, and that of the last is the last reading less the first (proofs/Shown, `page_sum`).
abbrev pub PageSum : Type 0
PageSum =
    (a after : Account) (lent page : List ℕ) (given : ℕ) → PageMet a lent 0 given after page →
    (m : ℕ) × (0 < m) × (given ≡ page_length m) × Shows page m 26 14 (last_less_first (days a) (shown a).readings)
