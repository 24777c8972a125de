-- Daily means (Temperature of a day): "Daily means are whole hundredths of a degree C, -5,000 to 3,999." The table: "4, index: first mean out of range".
use Rattle.std.specs.Prelude.{◌≡◌, Bool, cond, List, [], ◌∷◌, ℕ, suc, ltb, ℤ, length}
use Rattle.profile.specs.Limits.{in_range}

-- the index of the first mean out of range, or the number of means where there is none
abbrev pub first_out : List ℤ → ℕ
first_out [] = 0
first_out (t ∷ ts) = cond (in_range t) (suc (first_out ts)) 0

-- some mean is out of range
abbrev pub some_out : List ℤ → Bool
some_out means = ltb (first_out means) (length means)

-- the index that row 4 gives, and the means as they were lent
pub record FirstOutMet (means : List ℤ) (first : ℕ) (after : List ℤ) : Type 0 where
  pub gives : first ≡ first_out means
  pub stays : after ≡ means
