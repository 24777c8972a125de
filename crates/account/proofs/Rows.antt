-- The rows of the table (If a call declines): what 3, 5 and 6 say, and what an account has that they let pass. Assumes nothing.
use Prim.Native.Nat.{ℕ}
use mathlib.Core.Path.{◌≡◌, refl, ap, ◌∙◌}
use mathlib.Core.Bool.{Bool, true, false, not}
use borrow.Author.Tests.{ne_eqb, not-false}
use native.Mathlib.Omega.{arith}
use lib.Dec.{ltb, lit<}
use Rattle.account.specs.Account as accounts
use Rattle.account.specs.Account.{Account, days, shown, unfit, sound, good_weights, energy_most}
use Rattle.common.specs.Rows.{row}
use Rattle.common.specs.declared.refusal.Refusal.{Refusal}
use Rattle.common.specs.Refusals.{number_of}
use Rattle.account.specs.Calls.{CallMet}
use Rattle.account.specs.Refusals.{account_rows}
use Rattle.account.specs.Slices.{Checked, boundary_rows}
use Rattle.common.proofs.Rows.{row_none}

pub unfit_rows : (a : Account) (rest : ℕ) → unfit a ≡ true → account_rows a rest ≡ 3
unfit_rows a rest e = ap (λ (b : Bool). row b 3 (row (not (sound a)) 5 rest)) e

pub sound_rows : (a : Account) (rest : ℕ) → unfit a ≡ false → sound a ≡ true → account_rows a rest ≡ rest
sound_rows a rest e s =
    ap (λ (b : Bool). row b 3 (row (not (sound a)) 5 rest)) e ∙ ap (λ (b : Bool). row (not b) 5 rest) s

pub checked : (a : Account) (rest : ℕ) → account_rows a rest ≡ 0 → Checked a
checked a rest e =
    let u = row_none (unfit a) 3 (row (not (accounts.sound a)) 5 rest) (lit< tt) e in
    let s = row_none (not (accounts.sound a)) 5 rest (lit< tt) u.1 in
    record { fits = u.0; sound = not-false _ s.0 }

pub rows_through : (a : Account) (rest : ℕ) → Checked a → account_rows a rest ≡ rest
rows_through a rest h = sound_rows a rest h.fits h.sound

-- a row of the table has a number, which is not 0
pub refusal_some : (r : Refusal) → number_of r ≡ 0 → ⊥
refusal_some r e = grind arith

-- what rows 3, 5 and 6 answer does not depend on the rows after them
boundary_refuses : (a : Account) (k n rest : ℕ) → n ≡ boundary_rows a k 0 → (n ≡ 0 → ⊥) → n ≡ boundary_rows a k rest
boundary_refuses a k n rest is some = is ∙ go (unfit a) (accounts.sound a) (ltb (days a) k) (λ e. some (is ∙ e))
  where
    go : (u s l : Bool) → (◌≡◌ {A = ℕ} (row u 3 (row (not s) 5 (row l 6 0))) 0 → ⊥) → row u 3 (row (not s) 5 (row l 6 0)) ≡ row u 3 (row (not s) 5 (row l 6 rest))
    go true s l some = refl
    go false false l some = refl
    go false true true some = refl
    go false true false some = absurd (some refl)

-- a call on a boundary that they refuse
pub call_refused : (a done : Account) (k rest : ℕ) (r : Refusal) → number_of r ≡ boundary_rows a k 0 → CallMet (boundary_rows a k rest) done a (number_of r) a
call_refused a done k rest r is =
    let same = boundary_refuses a k (number_of r) rest is (refusal_some r) in
    record { answers = same; leaves = rw (ne_eqb (boundary_rows a k rest) 0 (λ e. refusal_some r (same ∙ e))) }
