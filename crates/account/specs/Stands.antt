-- What stands (Account and its calls): the readings with their counts, and the cuts, as functions of the boundary.
-- Rows 6 to 11 of the account's calls and of the statement are written over this and n, the statement's rule over this and the weights. After
-- a list of calls, and in a sound account, the count is 0 where no reading stands.
use Rattle.std.specs.Prelude.{ℕ, zero, suc, ◌-◌, Bool, true, false, cond, ◌&&◌, leb, eqb}
use Rattle.common.specs.Below.{somewhere, first, last}

pub record Readings : Type 0 where
  pub at : ℕ → Bool
  pub count : ℕ → ℕ

pub record Stands : Type 0 where
  pub readings : Readings
  pub cut : ℕ → Bool

-- "After open nothing stands."
abbrev pub nothing : Stands
nothing = record { readings = record { at = λ k. false; count = λ k. 0 }; cut = λ k. false }

-- the value x at boundary k, and elsewhere what f has
abbrev pub put {ℓ} : {A : Type ℓ} → (ℕ → A) → ℕ → A → ℕ → A
put f k x j = cond (eqb j k) x (f j)

-- a reading's count v stands at k; and none stands there any more
abbrev pub with_reading : Readings → ℕ → ℕ → Readings
with_reading r k v = record { at = put r.at k true; count = put r.count k v }

abbrev pub without_reading : Readings → ℕ → Readings
without_reading r k = record { at = put r.at k false; count = put r.count k 0 }

-- First and last readings go by boundary, 0 to n.
abbrev pub first_reading : ℕ → Readings → ℕ
first_reading n r = first r.at (suc n)

abbrev pub last_reading : ℕ → Readings → ℕ
last_reading n r = last r.at (suc n)

-- "Last less first": what the last reading has less what the first has
unfoldable pub last_less_first : ℕ → Readings → ℕ
last_less_first n r = r.count (last_reading n r) - r.count (first_reading n r)

-- "Readings never falling", below boundary m: each has at least what the reading before it has, if there is one before it
unfoldable pub never_falling : Readings → ℕ → Bool
never_falling r zero = true
never_falling r (suc m) = never_falling r m && cond (r.at m && somewhere r.at m) (leb (r.count (last r.at m)) (r.count m)) true
