-- Numbers printed and read again (Case file, the program's output): their digits are digits, and have their value. Assumes nothing.
use Prim.Native.Nat.{ℕ, zero, suc, ◌+◌, ◌-◌, ◌*◌, ◌/◌, ◌%◌, ◌^◌, ◌<◌}
use mathlib.Core.Path.{◌≡◌, refl, ap₂, ◌∙◌}
use mathlib.Core.Bool.{Bool, true, false, cond, ◌&&◌}
use mathlib.Core.List.{List, [], ◌∷◌, ◌++◌}
use native.Mathlib.Omega.{arith}
use borrow.Author.Tests.{le-leb, leb-true, ltb-true}
use lib.Dec.{leb, ltb}
use lib.ListN.{length}
use Rattle.common.proofs.Below.{both}
use Rattle.layout.specs.Text.{digit, digits, decimal, is_digit, all_digits, value_after, ReadBack}
use Rattle.layout.proofs.Decimal.{fewer}

value_joined : (v : ℕ) (xs ys : List ℕ) → value_after v (xs ++ ys) ≡ value_after (value_after v xs) ys
unfolding value_after
value_joined v [] ys = refl
value_joined v (x ∷ xs) ys = value_joined (v * 10 + (x - 48)) xs ys

-- a digit after digits
digit_more : (xs : List ℕ) (d : ℕ) → d < 10 → all_digits xs ≡ true → all_digits (xs ++ (digit d ∷ [])) ≡ true
unfolding all_digits
digit_more [] d l all = rw (le-leb 48 (digit d) (omega arith), le-leb (digit d) 57 (omega arith)) refl
digit_more (x ∷ xs) d l all = by (is_digit x) (digit_more xs d l) all
  where
    by : (b : Bool) → (all_digits xs ≡ true → all_digits (xs ++ (digit d ∷ [])) ≡ true) → b && all_digits xs ≡ true →
        b && all_digits (xs ++ (digit d ∷ [])) ≡ true
    by true more rest = more rest
    by false more rest = rest

digits_value : (more n : ℕ) → n < 10 ^ suc more → value_after 0 (digits more n) ≡ n
unfolding value_after digits
digits_value zero n l = omega (arith, l)
digits_value (suc more) n l = by (ltb n 10) refl (digits more (n / 10)) (digits_value more (n / 10) (fewer more n l))
  where
    by : (b : Bool) → ltb n 10 ≡ b → (before : List ℕ) → value_after 0 before ≡ n / 10 → value_after 0 (cond b [] before ++ (digit (n % 10) ∷ [])) ≡ n
    by true e before is = omega (arith, ltb-true n 10 e)
    by false e before is = value_joined 0 before (digit (n % 10) ∷ []) ∙ omega (arith, is)

digits_alone : (more n : ℕ) → all_digits (digits more n) ≡ true
unfolding all_digits digits
digits_alone zero n = digit_more [] (n % 10) (omega arith) refl
digits_alone (suc more) n = by (ltb n 10) (digits more (n / 10)) (digits_alone more (n / 10))
  where
    by : (b : Bool) (before : List ℕ) → all_digits before ≡ true → all_digits (cond b [] before ++ (digit (n % 10) ∷ [])) ≡ true
    by true before all = digit_more [] (n % 10) (omega arith) refl
    by false before all = digit_more before (n % 10) (omega arith) all

one_of_ten : (xs ys : List ℕ) (x : ℕ) → all_digits (xs ++ (x ∷ ys)) ≡ true → (d : ℕ) × (d < 10) × (x ≡ digit d)
unfolding all_digits
one_of_ten [] ys x all =
    let test = both (leb 48 x) (leb x 57) (both (is_digit x) (all_digits ys) all).0 in
    let low = leb-true 48 x test.0 in
    let high = leb-true x 57 test.1 in
    (x - 48, omega arith, omega arith)
one_of_ten (y ∷ xs) ys x all = one_of_ten xs ys x (both (is_digit y) (all_digits (xs ++ (x ∷ ys))) all).1

-- as many digits of the same value are the same
pub same_digits : (v w : ℕ) (xs ys : List ℕ) → all_digits xs ≡ true → all_digits ys ≡ true → length xs ≡ length ys → value_after v xs ≡ value_after w ys →
    (v ≡ w) × (xs ≡ ys)
unfolding all_digits value_after
same_digits v w [] [] all-x all-y long value = (value, refl)
same_digits v w [] (y ∷ ys) all-x all-y long value = absurd (omega arith)
same_digits v w (x ∷ xs) [] all-x all-y long value = absurd (omega arith)
same_digits v w (x ∷ xs) (y ∷ ys) all-x all-y long value =
    let (digit-x, rest-x) = both (is_digit x) (all_digits xs) all-x in
    let (digit-y, rest-y) = both (is_digit y) (all_digits ys) all-y in
    let (before, rest) = same_digits (v * 10 + (x - 48)) (w * 10 + (y - 48)) xs ys rest-x rest-y (omega arith) value in
    let (x-low, x-high) = both (leb 48 x) (leb x 57) digit-x in
    let (y-low, y-high) = both (leb 48 y) (leb y 57) digit-y in
    let same : x ≡ y = omega (arith, leb-true 48 x x-low, leb-true x 57 x-high, leb-true 48 y y-low, leb-true y 57 y-high) in
    (omega (arith, leb-true 48 x x-low, leb-true x 57 x-high, leb-true 48 y y-low, leb-true y 57 y-high), ap₂ (λ (z : ℕ) (zs : List ℕ). z ∷ zs) same rest)

pub read_back : ReadBack
unfolding decimal
read_back = record { reads = λ n l. (digits_alone 19 n, digits_value 19 n (omega (arith, l))); ten = one_of_ten }
