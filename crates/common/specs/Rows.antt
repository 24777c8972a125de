-- The form of the table (If a call declines): how the paper's table is written down, row under row, and what it says of memory.
use Rattle.std.specs.Prelude.{ℕ, ◌-◌, Bool, true, false, cond, List, ◌++◌, eqb, length, replicate}

-- what a row gives where its condition holds, else what the rows below it give
abbrev pub row {ℓ} : {A : Type ℓ} → Bool → A → A → A
row true here below = here
row false here below = below

-- what a call gives where the table's number for it is 0, and what it gives where a row declines it
abbrev pub if_done {ℓ} : {A : Type ℓ} → ℕ → A → A → A
if_done number done refused = cond (eqb number 0) done refused

-- one value in the place of each element of a slice
abbrev pub set_to : {A : Type 0} → A → List A → List A
set_to x out = replicate (length out) x

-- "outputs zero": zeros in the place of what a slice holds
abbrev pub zeros : List ℕ → List ℕ
zeros out = set_to 0 out

-- "the rest zero": xs at the start of a slice of length n
abbrev pub filled : ℕ → List ℕ → List ℕ
filled n xs = xs ++ replicate (n - length xs) 0
