-- Questions about the numbers below a given one (boundaries, days, parts), each asked by counting up from 0 (Account and its calls).
use Rattle.std.specs.Prelude.{ℕ, zero, suc, ◌+◌, Bool, true, false, cond, ◌&&◌, ◌||◌}

-- p holds at every number below m
unfoldable pub everywhere : (ℕ → Bool) → ℕ → Bool
everywhere p zero = true
everywhere p (suc m) = everywhere p m && p m

-- p holds at some number below m
unfoldable pub somewhere : (ℕ → Bool) → ℕ → Bool
somewhere p zero = false
somewhere p (suc m) = somewhere p m || p m

-- at how many numbers below m p holds
unfoldable pub how_many : (ℕ → Bool) → ℕ → ℕ
how_many p zero = 0
how_many p (suc m) = how_many p m + cond (p m) 1 0

-- the first number below m at which p holds; m where there is none
unfoldable pub first : (ℕ → Bool) → ℕ → ℕ
first p zero = zero
first p (suc m) = cond (somewhere p m) (first p m) (cond (p m) m (suc m))

-- the last number below m at which p holds; 0 where there is none
unfoldable pub last : (ℕ → Bool) → ℕ → ℕ
last p zero = zero
last p (suc m) = cond (p m) m (last p m)
