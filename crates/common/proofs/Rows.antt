-- The form of the table (If a call declines). Assumes nothing.
use Prim.Native.Nat.{ℕ, ◌<◌}
use native.Mathlib.Omega.{arith}
use mathlib.Core.Path.{◌≡◌, refl}
use mathlib.Core.Bool.{Bool, true, false}
use Rattle.common.specs.Rows.{row}

-- a row that says nothing: its condition does not hold, and the rows after it say nothing; f is the number in what a row gives
pub rows_none : {A : Type 0} (f : A → ℕ) (b : Bool) (here below : A) → (f here ≡ 0 → ⊥) → f (row b here below) ≡ 0 → (b ≡ false) × (f below ≡ 0)
rows_none f true here below some e = absurd (some e)
rows_none f false here below some e = (refl, e)

pub row_none : (b : Bool) (n rest : ℕ) → 0 < n → row b n rest ≡ 0 → (b ≡ false) × (rest ≡ 0)
row_none b n rest l e = rows_none (λ m. m) b n rest (λ z. omega arith) e

-- what each row gives, the table gives
pub rows_all {ℓ} : {A : Type 0} (P : A → Type ℓ) (b : Bool) {here below : A} → P here → P below → P (row b here below)
rows_all P true h g = h
rows_all P false h g = g
