-- Integers by their two parts (the paper's first paragraph), so that `omega` can be handed facts of them: x is `above x` less `below x`, and one of
-- the two is 0. Sum, product and order in these parts. Assumes nothing.
use mathlib.Core.Path.{◌≡◌, refl, ap}
use mathlib.Core.Bool.{Bool, true, false, not, cond}
use Prim.Native.Nat.{ℕ, zero, suc, ◌+◌, ◌*◌, ◌-◌, ◌≤◌, ◌<◌}
use native.Mathlib.Omega.{arith}
use lib.Dec.{T, ltb, leb→le, le→leb, ltb→lt, nltb→le}
use lib.IntN.{ℤ, pos, negsuc, neg_ℤ, nat_abs, sub_ℕ, ◌+ℤ◌, ◌-ℤ◌, ◌*ℤ◌}
use lib.Signed.{◌≤ℤ◌}

abbrev pub above : ℤ → ℕ
above (pos n) = n
above (negsuc n) = 0

abbrev pub below : ℤ → ℕ
below (pos n) = 0
below (negsuc n) = suc n

-- z is p less q, and no larger than the two together
pub record Less (z : ℤ) (p q : ℕ) : Type 0 where
  pub less : above z + q ≡ below z + p
  pub small : nat_abs z ≤ p + q

pub choose : {A : Type 0} (P : A → Type 0) (b : Bool) (x y : A) → (T b → P x) → (T (not b) → P y) → P (cond b x y)
choose P true x y f g = f tt
choose P false x y f g = g tt

less_sub : (a b : ℕ) → Less (sub_ℕ a b) a b
less_sub a b =
    choose (λ (z : ℤ). Less z a b) (ltb a b) (negsuc (b - suc a)) (pos (a - b))
    (λ t. let h : a < b = ltb→lt a b t in omega arith)
    (λ t. let h : b ≤ a = nltb→le a b t in omega arith)

less_neg : (n : ℕ) → Less (neg_ℤ (pos n)) 0 n
less_neg zero = omega arith
less_neg (suc n) = omega arith

-- one less than the negative of n
pub less_one : (n : ℕ) → negsuc 0 -ℤ pos n ≡ negsuc n
less_one zero = refl
less_one (suc n) = ap negsuc (omega arith)

pub less_sum : (x y : ℤ) → Less (x +ℤ y) (above x + above y) (below x + below y)
less_sum (pos a) (pos b) = omega arith
less_sum (pos a) (negsuc b) = let l = less_sub a (suc b) in omega arith
less_sum (negsuc a) (pos b) = let l = less_sub b (suc a) in omega arith
less_sum (negsuc a) (negsuc b) = omega arith

pub less_product : (x y : ℤ) → Less (x *ℤ y) (above x * above y + below x * below y) (above x * below y + below x * above y)
less_product (pos a) (pos b) = omega arith
less_product (pos a) (negsuc b) = let l = less_neg (a * suc b) in omega arith
less_product (negsuc a) (pos b) = let l = less_neg (suc a * b) in omega arith
less_product (negsuc a) (negsuc b) = omega arith

pub same_less : (x y : ℤ) → above x + below y ≡ below x + above y → x ≡ y
same_less (pos a) (pos b) e = ap pos (omega (arith, e))
same_less (pos a) (negsuc b) e = absurd (omega (arith, e))
same_less (negsuc a) (pos b) e = absurd (omega (arith, e))
same_less (negsuc a) (negsuc b) e = ap negsuc (omega (arith, e))

-- ---- the order
pub parts : {x y : ℤ} → x ≤ℤ y → above x + below y ≤ above y + below x
parts {x = pos a} {y = pos b} h = omega (arith, leb→le a b h.le)
parts {x = pos a} {y = negsuc b} h = absurd h.le
parts {x = negsuc a} {y = pos b} h = omega arith
parts {x = negsuc a} {y = negsuc b} h = omega (arith, leb→le b a h.le)

pub by_parts : {x y : ℤ} → above x + below y ≤ above y + below x → x ≤ℤ y
by_parts {x = pos a} {y = pos b} h = record { le = le→leb a b (omega arith) }
by_parts {x = pos a} {y = negsuc b} h = absurd (omega arith)
by_parts {x = negsuc a} {y = pos b} h = record { le = tt }
by_parts {x = negsuc a} {y = negsuc b} h = record { le = le→leb b a (omega arith) }
