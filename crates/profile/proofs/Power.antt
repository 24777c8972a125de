-- The two powers of a profile value at a temperature in range (Profile value): N / M is a ratio at most one, so what crate `power` promises holds of it. Assumes nothing.
use mathlib.Core.Path.{◌≡◌}
use mathlib.Core.Bool.{Bool, true, false, cond, not}
use Prim.Native.Nat.{ℕ, ◌≤◌, ◌<◌}
use native.Mathlib.Omega.{arith}
use lib.Dec.{T, leb, leb→le, nleb→lt}
use lib.IntN.{ℤ, nat_abs}
use borrow.Author.Tests.{le-leb, lt-leb}
use mir.Syntax.{w16, w32}
use mir.Val.{SFits, of_z, to_z}
use mir.Facts.{to_z-of_z}
use Rattle.profile.specs.Limits.{in_range}
use Rattle.profile.specs.Value.{cold, b_of, u_of, ratio_n, ratio_m, low_power, high_power, EnclosedPower, AnyProfile}
use Rattle.profile.specs.declared.Profile.{Profile}
use Rattle.power.specs.Power.{lower_of, upper_of}
use Rattle.power.proofs.Laws as Laws
use Rattle.profile.proofs.Range.{steps_least}

cases : (P : ℕ → ℕ → Type 0) (x y : ℕ) → (x ≤ y → P x y) → (y < x → P y x) → P (cond (leb x y) x y) (cond (leb x y) y x)
cases P x y f g = go (leb x y) (λ t. f (leb→le x y t)) (λ t. g (nleb→lt x y t))
  where
    go : (b : Bool) → (T b → P x y) → (T (not b) → P y x) → P (cond b x y) (cond b y x)
    go true f g = f tt
    go false f g = g tt

module _ (p : Profile) (t : ℤ) (r : in_range t ≡ true) where
  divisor : 0 < ratio_m p t
  divisor =
      cases (λ (n m : ℕ). 0 < m) (b_of p) (u_of t) (λ h. omega (arith, steps_least t r)) (λ h. omega arith)

  proper : ratio_n p t ≤ ratio_m p t
  proper = cases (λ (n m : ℕ). n ≤ m) (b_of p) (u_of t) (λ h. h) (λ h. omega arith)

  pub low_le_high : low_power p t ≤ high_power p t
  low_le_high = Laws.low_le_high (ratio_n p t) (ratio_m p t) p.c divisor proper

  low_is : {n m : ℕ} → n ≡ ratio_n p t → m ≡ ratio_m p t → lower_of n m p.c ≡ low_power p t
  low_is e f = rw (e, f) (Laws.lower_of_lem (ratio_n p t) (ratio_m p t) p.c divisor proper)

  high_is : {n m : ℕ} → n ≡ ratio_n p t → m ≡ ratio_m p t → upper_of n m p.c ≡ high_power p t
  high_is e f = rw (e, f) (Laws.upper_of_lem (ratio_n p t) (ratio_m p t) p.c divisor proper)

  enclosed : EnclosedPower p t
  enclosed = Laws.enclosed (ratio_n p t) (ratio_m p t) p.c divisor proper

-- n / m is the ratio of the side that the code took, and its powers are the two powers
pub record Side (p : Profile) (t : ℤ) (side : Bool) (n m : ℕ) : Type 0 where
  pub side_is : cold p t ≡ side
  pub low : lower_of n m p.c ≡ low_power p t
  pub high : upper_of n m p.c ≡ high_power p t

-- b and u, as the code forms them from numbers that it was given
module _ (p : Profile) (t : ℤ) (r : in_range t ≡ true) (fb : SFits w32 p.b) (ft : SFits w16 t) {b u : ℕ} (e : b ≡ nat_abs (to_z w32 (of_z w32 p.b))) (f : u ≡ u_of (to_z w16 (of_z w16 t))) where
  b_is : b ≡ b_of p
  b_is = simp (to_z-of_z fb) at e

  u_is : u ≡ u_of t
  u_is = simp (to_z-of_z ft) at f

  pub on_cold : b ≤ u → Side p t true b u
  on_cold h =
      let test = le-leb (b_of p) (u_of t) (rw (← b_is, ← u_is) h) in
      record { side_is = test; low = low_is p t r (simp (test, b_is)) (simp (test, u_is)); high = high_is p t r (simp (test, b_is)) (simp (test, u_is)) }

  pub on_warm : u < b → Side p t false u b
  on_warm h =
      let test = lt-leb (b_of p) (u_of t) (rw (← b_is, ← u_is) h) in
      record { side_is = test; low = low_is p t r (simp (test, u_is)) (simp (test, b_is)); high = high_is p t r (simp (test, u_is)) (simp (test, b_is)) }

pub any_profile : AnyProfile
any_profile p t r = (divisor p t r, proper p t r, enclosed p t r)
