-- Floor and nearest of integers (the paper's first paragraph): each is the one number that its record allows, below zero too. Assumes nothing.
use mathlib.Core.Path.{◌≡◌, refl, ap}
use Prim.Native.Nat.{ℕ, suc, ◌+◌, ◌*◌, ◌-◌, ◌%◌, ◌<◌}
use native.Mathlib.Nat.{lt_of_mul-lt-mul_right, mod-lt, div-add-mod'}
use native.Mathlib.Omega.{arith}
use lib.Dec.{leb→le}
use lib.IntN.{ℤ, pos, negsuc, ◌+ℤ◌, ◌*ℤ◌}
use lib.Signed.{◌≤ℤ◌}
use Rattle.rounding.specs.Nearest.{nearest}
use Rattle.rounding.specs.Integers.{floor_ℤ, IsFloor, OneFloor, nearest_ℤ, OneNearestℤ, SameRounding}
use Rattle.rounding.proofs.Laws.{quotient_le}
use Rattle.rounding.proofs.Parts.{above, below, less_sum, less_product, same_less, parts, by_parts}

-- ---- the floor, in parts and from them
floor_parts : {x q : ℤ} {d : ℕ} (f : IsFloor x d q) → above x + below q * d ≡ below x + above q * d + f.rest
floor_parts {x} {q} {d} f =
    omega (arith, ap above f.adds_up, ap below f.adds_up, less_product q (pos d), less_sum (q *ℤ pos d) (pos f.rest))

from_parts : (x q : ℤ) (d r : ℕ) → r < d → above x + below q * d ≡ below x + above q * d + r → IsFloor x d q
from_parts x q d r l e =
    record {
      rest = r;
      small = l;
      adds_up = same_less x (q *ℤ pos d +ℤ pos r) (omega (arith, e, less_product q (pos d), less_sum (q *ℤ pos d) (pos r)));
    }

floor_is : (x : ℤ) (d : ℕ) → 0 < d → IsFloor x d (floor_ℤ x d)
floor_is (pos n) d l = from_parts (pos n) (floor_ℤ (pos n) d) d (n % d) (mod-lt n l) (omega (arith, div-add-mod' n d))
floor_is (negsuc n) d l =
    from_parts (negsuc n) (floor_ℤ (negsuc n) d) d (d - suc (n % d)) (omega arith) (omega (arith, div-add-mod' n d, mod-lt n l))

-- two numbers whose multiples of d are less than d apart, either way, are one
one_multiple : (p q : ℤ) (d : ℕ) → (above p + below q) * d < (below p + above q) * d + d → (below p + above q) * d < (above p + below q) * d + d → p ≡ q
one_multiple p q d h k =
    same_less p q (omega (arith, no_more (above p + below q) (below p + above q) h, no_more (below p + above q) (above p + below q) k))
  where
    no_more : (a b : ℕ) → a * d < b * d + d → a < b + 1
    no_more a b h = lt_of_mul-lt-mul_right d (omega (arith, h))

pub one_floor : OneFloor
one_floor x d l =
    let f = floor_is x d l in (
      f,
      λ q is.
          one_multiple q (floor_ℤ x d) d
          (omega (arith, floor_parts is, floor_parts f, f.small, is.small))
          (omega (arith, floor_parts is, floor_parts f, f.small, is.small)),
    )

-- a floor grows with its number
pub floor_le : {x y : ℤ} (d : ℕ) → 0 < d → x ≤ℤ y → floor_ℤ x d ≤ℤ floor_ℤ y d
floor_le {x = pos a} {y = pos b} d p h = by_parts (omega (arith, quotient_le a b d p (leb→le a b h.le)))
floor_le {x = pos a} {y = negsuc b} d p h = absurd h.le
floor_le {x = negsuc a} {y = pos b} d p h = by_parts (omega arith)
floor_le {x = negsuc a} {y = negsuc b} d p h = by_parts (omega (arith, quotient_le b a d p (leb→le b a h.le)))

-- ---- the nearest: a number more, and twice q times d, in parts
plus : (z : ℤ) (k : ℕ) → above (z +ℤ pos k) + below z ≡ below (z +ℤ pos k) + (above z + k)
plus z k = omega (arith, less_sum z (pos k))

twice : (q : ℤ) (d : ℕ) →
    above (pos 2 *ℤ (q *ℤ pos d)) + 2 * (below q * d) ≡ below (pos 2 *ℤ (q *ℤ pos d)) + 2 * (above q * d)
twice q d = omega (arith, less_product (pos 2) (q *ℤ pos d), less_product q (pos d))

pub one_nearest_ℤ : OneNearestℤ
one_nearest_ℤ x d l =
    let q : ℤ = nearest_ℤ x d in
    let f = floor_is (pos 2 *ℤ x +ℤ pos d) (2 * d) (omega arith) in
    let less = plus (pos 2 *ℤ x) d in
    let more = plus (pos 2 *ℤ x) 1 in (
      record {
        not_above = by_parts (omega (arith, twice q d, floor_parts f));
        not_below = by_parts (omega (arith, twice q d, floor_parts f, f.small, less, more, plus (pos 2 *ℤ (q *ℤ pos d)) d));
      },
      λ p is.
          one_multiple p q (2 * d)
          (omega (arith, twice p d, floor_parts f, f.small, parts is.not_above))
          (omega (arith, twice p d, floor_parts f, f.small, parts is.not_below, less, more, plus (pos 2 *ℤ (p *ℤ pos d)) d)),
    )

-- by computation
pub same_rounding : SameRounding
unfolding nearest
same_rounding x d = refl
