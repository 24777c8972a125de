-- What stands after a list of calls (Account and its calls): "read from the list's history alone: the calls and their arguments in
-- order, never what marks and counts hold; after open nothing stands."
use Rattle.std.specs.Prelude.{ℕ, true, false, List, [], ◌∷◌}
use Rattle.common.specs.Rows.{if_done}
use Rattle.account.specs.Stands.{Stands, nothing, put, with_reading, without_reading}
use Rattle.account.specs.Refusals.{reading_rows, withdraw_rows, cut_rows, uncut_rows}
use Rattle.statement.specs.Parts.{Outputs}

-- a call with its arguments, and of a statement the outputs that it is lent
pub data Call : Type 0 where
  reading : (k v : ℕ) → Call
  withdraw : (k : ℕ) → Call
  cut : (k : ℕ) → Call
  uncut : (k : ℕ) → Call
  statement : (lent : Outputs) → Call

-- "A call is accepted if no condition of the table holds for it, what stands being taken for the account's marks and counts."
-- what stands after one more call, over n days: "an accepted reading makes its count stand at its boundary until an accepted withdraw
-- there; an accepted cut stands until an accepted uncut there"; nothing else changes what stands
abbrev pub after : ℕ → Stands → Call → Stands
after n s (reading k v) = if_done (reading_rows n s k v) (record { readings = with_reading s.readings k v; cut = s.cut }) s
after n s (withdraw k) = if_done (withdraw_rows n s k) (record { readings = without_reading s.readings k; cut = s.cut }) s
after n s (cut k) = if_done (cut_rows n s k) (record { readings = s.readings; cut = put s.cut k true }) s
after n s (uncut k) = if_done (uncut_rows n s k) (record { readings = s.readings; cut = put s.cut k false }) s
after n s (statement lent) = s

unfoldable pub stands_from : ℕ → Stands → List Call → Stands
stands_from n s [] = s
stands_from n s (c ∷ cs) = stands_from n (after n s c) cs

-- what stands after these calls, the first of them first
abbrev pub stands : ℕ → List Call → Stands
stands n cs = stands_from n nothing cs
