-- The page of a statement (K4): "Customers get the statement on paper. Lay it out in lines of exactly 40 characters and a line feed: from in 6 columns, to in 6, Wh
-- in 14, a running sum in 14, all right-aligned with spaces. A heading line of the same width has `from`, `to`, `Wh` and `sum`, aligned likewise." Text is a list of
-- ASCII codes, 32 being the space.
use Rattle.std.specs.Prelude.{ℕ, zero, suc, ◌+◌, ◌-◌, ◌*◌, List, [], ◌∷◌, ◌++◌, length, get_or, replicate}
use Rattle.statement.specs.Parts.{Outputs}
use Rattle.statement.specs.Shares.{total}
use Rattle.layout.specs.Text.{decimal, line_feed}

-- a text in so many columns, right-aligned with spaces
unfoldable pub aligned : (width : ℕ) (text : List ℕ) → List ℕ
aligned width text = replicate (width - length text) 32 ++ text

-- a line: four texts in 6, 6, 14 and 14 columns, and a line feed
abbrev pub in_columns : (from to wh sum : List ℕ) → List ℕ
in_columns from to wh sum = aligned 6 from ++ aligned 6 to ++ aligned 14 wh ++ aligned 14 sum ++ line_feed

-- `from`, `to`, `Wh` and `sum`
abbrev pub heading : List ℕ
heading = in_columns (102 ∷ 114 ∷ 111 ∷ 109 ∷ []) (116 ∷ 111 ∷ []) (87 ∷ 104 ∷ []) (115 ∷ 117 ∷ 109 ∷ [])

-- a line of four numbers
abbrev pub page_line : (from to wh sum : ℕ) → List ℕ
page_line from to wh sum = in_columns (decimal from) (decimal to) (decimal wh) (decimal sum)

-- the line of part i; its running sum has the Wh of this part too
abbrev pub part_line : Outputs → (i : ℕ) → List ℕ
part_line o i = page_line (get_or o.from i 0) (get_or o.to i 0) (get_or o.wh i 0) (total o (suc i))

-- the heading and the lines of the first m parts
unfoldable pub page_text : Outputs → (m : ℕ) → List ℕ
page_text o zero = heading
page_text o (suc m) = page_text o m ++ part_line o m

-- "the number of bytes, 41 times one more than the number of parts"
abbrev pub page_length : (parts : ℕ) → ℕ
page_length parts = 41 * (parts + 1)
