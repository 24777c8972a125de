-- A quotient rounded either way (Profile value): how it stands to the exact one, and that no whole number lies between.
-- Assumes nothing.
use mathlib.Core.Path.{◌≡◌}
use Prim.Native.Nat.{ℕ, ◌+◌, ◌-◌, ◌*◌, ◌/◌, ◌≤◌, ◌<◌}
use native.Mathlib.Nat.{le_antisymm, le_refl, le_of_suc-le-suc, suc-mul, div-mul-le_self, le-div_iff_mul-le, div-lt_iff_lt-mul, lt-div-mul-add, lt_of_mul-lt-mul_right}
use native.Mathlib.Omega.{arith}
use Rattle.std.specs.Int.{div_ceil}
use Rattle.std.proofs.lemmas.Grind.{div_ceil_times}
use Rattle.power.specs.declared.rounded.Rounding.{Rounding}
use Rattle.power.specs.declared.rounded.Rounding.TheVariants.{Down, Up}
use Rattle.power.specs.Power.{RoundedDown, RoundedUp, quotient, Quotients}
use Rattle.power.proofs.Way.{Rounded, below, above}

up_high : (a b : ℕ) → 0 < b → a ≤ (a + (b - 1)) / b * b
up_high a b h = omega (arith, lt-div-mul-add {a = a + (b - 1)} h)

pub quotient_rounded : (way : Rounding) (a b : ℕ) → 0 < b → Rounded way (quotient way a b * b) a
unfolding quotient
quotient_rounded Down a b h = below (div-mul-le_self a b)
quotient_rounded Up a b h = above (up_high a b h)

pub quotient_le : (way : Rounding) (a b q : ℕ) → 0 < b → a ≤ q * b → quotient way a b ≤ q
unfolding quotient
quotient_le Down a b q h g = le_of_suc-le-suc ((div-lt_iff_lt-mul h).1 (omega (arith, suc-mul q b)))
quotient_le Up a b q h g = le_of_suc-le-suc ((div-lt_iff_lt-mul h).1 (omega (arith, suc-mul q b)))

le_quotient : (way : Rounding) (a b q : ℕ) → 0 < b → q * b ≤ a → q ≤ quotient way a b
unfolding quotient
le_quotient Down a b q h g = (le-div_iff_mul-le h).1 g
le_quotient Up a b q h g = (le-div_iff_mul-le h).1 (omega arith)

pub quotient_exact : (way : Rounding) (b q : ℕ) → 0 < b → quotient way (q * b) b ≡ q
quotient_exact way b q h = le_antisymm (quotient_le way (q * b) b q h (le_refl _)) (le_quotient way (q * b) b q h (le_refl _))

-- only one number is the greatest or the least of its kind
pub down_only : {f : ℕ → ℕ} {x s t : ℕ} → RoundedDown f x s → RoundedDown f x t → s ≡ t
down_only {s = s} {t} a b = le_antisymm (b.greatest s a.low) (a.greatest t b.low)

pub up_only : {f : ℕ → ℕ} {x s t : ℕ} → RoundedUp f x s → RoundedUp f x t → s ≡ t
up_only {s = s} {t} a b = le_antisymm (a.least t b.high) (b.least s a.high)

pub quotients : Quotients
unfolding quotient
quotients a b h =
    let down : RoundedDown (λ q. q * b) a (a / b) = record { low = div-mul-le_self a b; greatest = λ t g. le_quotient Down a b t h g } in
    let up : RoundedUp (λ q. q * b) a ((a + (b - 1)) / b) = record { high = up_high a b h; least = λ t g. quotient_le Up a b t h g } in
    (down, up, λ q is. down_only is down, λ q is. up_only is up)

-- `div_ceil` of the library is the quotient rounded up
pub ceil_is : (a b : ℕ) → 0 < b → div_ceil a b ≡ quotient Up a b
unfolding quotient
ceil_is a b h =
    let bounds = div_ceil_times a b h in
    (quotients a b h).3 (div_ceil a b)
    (record {
      high = bounds.0;
      least = λ t g. le_of_suc-le-suc (lt_of_mul-lt-mul_right b (omega arith));
    })
