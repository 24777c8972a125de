-- The square root rounded either way (Profile value), by Newton's iteration from above: how it stands to the exact one, and that no whole number lies between.
-- Assumes nothing.
use mathlib.Core.Path.{◌≡◌, refl}
use mathlib.Core.Bool.{Bool, true, false, cond}
use Prim.Native.Nat.{ℕ, zero, suc, ◌+◌, ◌-◌, ◌*◌, ◌/◌, ◌≤◌, ◌<◌}
use native.Mathlib.Nat.{le_refl, le_trans, le_of_lt, le_antisymm, lt_of_lt_of_le, lt_of_le_of_lt, lt_of_not-le, not-le_of_lt, mul_comm, mul-add, add-mul, add_comm, add_assoc, add_left_comm, one-mul, mul-le-mul, mul-le-mul_right, div-lt_iff_lt-mul, lt-div-mul-add}
use native.Mathlib.Decide.{dec_le}
use native.Mathlib.Omega.{arith}
use lib.Dec.{ltb}
use borrow.Author.Tests.{ltb-true, ltb-false}
use Rattle.power.specs.declared.rounded.Rounding.{Rounding}
use Rattle.power.specs.declared.rounded.Rounding.TheVariants.{Down, Up}
use Rattle.power.specs.Power.{one, newton, RoundedDown, RoundedUp, sqrt_down, sqrt_up, square, Roots, square_root}
use Rattle.power.proofs.Way.{Rounded, below, above}
use Rattle.power.proofs.Quotient.{down_only, up_only}

-- with b = a + d, a² + b² is 2ab and d² more
squares : (a d : ℕ) → (a + d) * (a + d) + a * a ≡ a * (a + d) + a * (a + d) + d * d
squares a d = simp (mul-add, add-mul, mul_comm, add_assoc, add_comm, add_left_comm)

twice_ordered : (a b : ℕ) → a ≤ b → a * b + a * b ≤ b * b + a * a
twice_ordered a b h =
    let e : a + (b - a) ≡ b = omega arith in
    let g : a * (a + (b - a)) + a * (a + (b - a)) ≤ (a + (b - a)) * (a + (b - a)) + a * a = omega (arith, squares a (b - a)) in
    rw e at g

twice : (a b : ℕ) → a * b + a * b ≤ b * b + a * a
twice a b = either (dec_le a b)
  where
    either : Dec (a ≤ b) → a * b + a * b ≤ b * b + a * a
    either (yes h) = twice_ordered a b h
    either (no f) = omega (arith, lt_of_not-le f, twice_ordered b a (le_of_lt (lt_of_not-le f)), mul_comm a b)

-- the mean of any r above 0 and x / r is not below the root of x
pub mean_above : (x r : ℕ) → 0 < r → x < ((r + x / r) / 2 + 1) * ((r + x / r) / 2 + 1)
mean_above x r pos =
    let q : ℕ = x / r in
    let m : ℕ = (r + q) / 2 + 1 in
    let h : r + q + 1 ≤ m + m = omega arith in
    omega (arith, lt-div-mul-add {a = x} pos, simp (add-mul, one-mul) at (mul-le-mul_right r h), twice m r)

pub square_pos : (x s : ℕ) → x < s * s → 0 < s
square_pos x zero h = omega arith
square_pos x (suc s) h = omega arith

-- from an s whose square is above x the mean is below s
pub mean_below : (x s : ℕ) → x < s * s → (s + x / s) / 2 < s
mean_below x s h = omega (arith, (div-lt_iff_lt-mul {k = s} {x = x} {y = s} (square_pos x s h)).1 h)

square_lt : (a b : ℕ) → a * a < b * b → a < b
square_lt a b h = either (dec_le b a)
  where
    either : Dec (b ≤ a) → a < b
    either (yes g) = absurd (not-le_of_lt h (mul-le-mul g g))
    either (no f) = lt_of_not-le f

square_le : (a b : ℕ) → a * a ≤ b * b → a ≤ b
square_le a b h = omega (arith, square_lt a (b + 1) (omega (arith, add-mul b 1 (b + 1), mul-add b b 1)))

-- s is the root where its square is not above x and the next one is
pub root_by_next : (x s : ℕ) → s * s ≤ x → x < (s + 1) * (s + 1) → RoundedDown square x s
root_by_next x s h g = record { low = h; greatest = λ t k. omega (arith, square_lt t (s + 1) (lt_of_le_of_lt k g)) }

newton_root : (k x s : ℕ) → s ≤ k → x < (s + 1) * (s + 1) → RoundedDown square x (newton k x s)
unfolding newton
newton_root zero x s h g =
    let e : s ≡ 0 = omega arith in
    rw e (root_by_next x 0 (omega arith) (rw e at g))
newton_root (suc k) x s h g = turn (newton_root k x ((s + x / s) / 2)) (ltb x (s * s)) refl
  where
    s' : ℕ
    s' = (s + x / s) / 2

    turn : (s' ≤ k → x < (s' + 1) * (s' + 1) → RoundedDown square x (newton k x s')) → (b : Bool) → ltb x (s * s) ≡ b → RoundedDown square x (elim b [ true ↦ newton k x s' | false ↦ s ])
    turn rest true e =
        let l : x < s * s = ltb-true x (s * s) e in
        rest (omega (arith, mean_below x s l)) (mean_above x s (square_pos x s l))
    turn rest false e = root_by_next x s (ltb-false x (s * s) e) g

pub one_pos : 0 < one
unfolding one
one_pos = omega arith

pub root_down : (x : ℕ) → RoundedDown square x (sqrt_down x)
unfolding sqrt_down
root_down x = newton_root _ x _ (le_refl _) (mean_above x one one_pos)

pub root_down_only : (x s : ℕ) → RoundedDown square x s → s ≡ sqrt_down x
root_down_only x s r = down_only r (root_down x)

root_up : (x : ℕ) → RoundedUp square x (sqrt_up x)
unfolding sqrt_up
root_up x = turn (ltb (d * d) x) refl
  where
    d : ℕ
    d = sqrt_down x

    turn : (b : Bool) → ltb (d * d) x ≡ b → RoundedUp square x (cond b (d + 1) d)
    turn true e =
        record {
          high = le_of_lt (lt_of_not-le (λ g. absurd (omega (arith, (root_down x).greatest (d + 1) g))));
          least = λ (t : ℕ) (h : x ≤ t * t). omega (arith, square_lt d t (lt_of_lt_of_le (ltb-true (d * d) x e) h));
        }
    turn false e =
        record {
          high = ltb-false (d * d) x e;
          least = λ (t : ℕ) (h : x ≤ t * t). square_le d t (le_trans (root_down x).low h);
        }

pub roots : Roots
roots x = (root_down x, root_up x, root_down_only x, λ s is. up_only is (root_up x))

pub root_rounded : (way : Rounding) (x : ℕ) → Rounded way (square_root way x * square_root way x) x
unfolding square_root
root_rounded Down x = below (root_down x).low
root_rounded Up x = above (root_up x).high

pub root_le : (way : Rounding) (x s : ℕ) → x ≤ s * s → square_root way x ≤ s
unfolding square_root
root_le Down x s h = square_le (sqrt_down x) s (le_trans (root_down x).low h)
root_le Up x s h = (root_up x).least s h

le_root : (way : Rounding) (x s : ℕ) → s * s ≤ x → s ≤ square_root way x
unfolding square_root
le_root Down x s h = (root_down x).greatest s h
le_root Up x s h = square_le s (sqrt_up x) (le_trans h (root_up x).high)

pub root_exact : (way : Rounding) (s : ℕ) → square_root way (s * s) ≡ s
root_exact way s = le_antisymm (root_le way (s * s) s (le_refl _)) (le_root way (s * s) s (le_refl _))
