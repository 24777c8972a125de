-- Each mark as its two parts (Account and its calls). Assumes nothing.
use Prim.Native.Nat.{ℕ, zero, suc, ◌≤◌}
use native.Mathlib.Omega.{arith}
use mathlib.Core.Path.{◌≡◌, refl}
use Rattle.account.specs.Account.{marks_reading, marks_cut, mark_of}

-- each mark is made of whether it marks a reading and whether it marks a cut
pub mark_is : (m : ℕ) → m ≤ 3 → m ≡ mark_of (marks_reading m) (marks_cut m)
mark_is zero l = refl
mark_is (suc zero) l = refl
mark_is (suc (suc zero)) l = refl
mark_is (suc (suc (suc zero))) l = refl
mark_is (suc (suc (suc (suc m)))) l = absurd (omega arith)
