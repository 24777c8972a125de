-- What a checked account gives (Account and its calls, "Sound"): valid weights and readings, and the energy between two readings.
-- Assumes nothing.
use mathlib.Core.Path.{◌≡◌, refl}
use mathlib.Core.Bool.{true, ◌||◌}
use Prim.Native.Nat.{ℕ, zero, suc, ◌-◌, ◌≤◌, ◌<◌}
use native.Mathlib.Omega.{arith}
use Rattle.account.specs.Stands.{Readings, never_falling, last_less_first, first_reading, last_reading}
use Rattle.account.specs.Account.{Account, shown, marks_reading, marks_cut}
use Rattle.account.specs.Slices.{Checked, Fit}
use Rattle.common.proofs.Below.{first_found, last_found, first_least, last_most}
use Rattle.account.proofs.Pairs.{pairs}
use Rattle.account.proofs.Sound.{Sound, fit, sound_parts}
use Rattle.statement.proofs.Order.{valid_of_sound}
use Rattle.statement.specs.Facts.{Valid}

module _ (a : Account) (c : Checked a) where
  pub checked_fit : Fit a
  checked_fit = fit a c.fits

  pub checked_sound : Sound a
  checked_sound = sound_parts a c.sound

  pub checked_valid : Valid a.weights (shown a).readings
  checked_valid = valid_of_sound a c.sound

-- a mark from 1 to 3 is a reading or a cut
pub mark_counts : (m : ℕ) → m ≤ 3 → (m ≡ 0 → ⊥) → (marks_reading m || marks_cut m) ≡ true
mark_counts zero h some = absurd (some refl)
mark_counts (suc zero) h some = refl
mark_counts (suc (suc zero)) h some = refl
mark_counts (suc (suc (suc zero))) h some = refl
mark_counts (suc (suc (suc (suc m)))) h some = absurd (omega arith)

-- between two readings lies no more than between the first and the last
pub energy_between : (n : ℕ) (r : Readings) → never_falling r (suc n) ≡ true → (p q : ℕ) → p < q → q ≤ n → r.at p ≡ true → r.at q ≡ true →
    r.count q - r.count p ≤ last_less_first n r
unfolding last_less_first
energy_between n r falls p q h within at_p at_q =
    let rises = pairs r (suc n) falls (suc n) (omega arith) in
    let f = first_found r.at (suc n) p (omega arith) at_p in
    let l = last_found r.at (suc n) q (omega arith) at_q in
    let low = rises (first_reading n r) p (first_least r.at f at_p) (omega arith) f.holds at_p in
    let high = rises q (last_reading n r) (last_most r.at l (omega arith) at_q) l.below at_q l.holds in
    omega arith
