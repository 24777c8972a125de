-- The decimal digits of a number (Case file, the program's output): more places than a number needs change nothing, and no more digits are printed
-- than hold it. Assumes nothing.
use Prim.Native.Nat.{ℕ, zero, suc, ◌-◌, ◌*◌, ◌/◌, ◌%◌, ◌^◌, ◌≤◌, ◌<◌}
use mathlib.Core.Path.{◌≡◌, refl, sym, ap, ◌∙◌}
use mathlib.Core.Bool.{Bool, true, false, cond}
use mathlib.Core.List.{List, [], ◌∷◌, ◌++◌}
use native.Mathlib.Decide.{dec_le}
use native.Mathlib.Nat.{div-lt_iff_lt-mul, le-div_iff_mul-le, pow-suc, pow-le-pow_right}
use native.Mathlib.Numerals.{add-one, sub-one}
use native.Mathlib.Omega.{arith}
use borrow.Author.Tests.{lt-ltb, le-ltb, ltb-true, ltb-false}
use lib.Dec.{lit<, ltb}
use lib.ListN.{length, length-append}
use Rattle.layout.specs.Text.{digit, digits, decimal, Fewest, FewestDigits}

-- a number with one place fewer
pub fewer : (more n : ℕ) → n < 10 ^ suc (suc more) → n / 10 < 10 ^ suc more
fewer more n l = let high : n < 10 ^ suc more * 10 = rw pow-suc at l in (div-lt_iff_lt-mul (lit< tt)).1 high

place_more : (more n : ℕ) → n < 10 ^ suc more → digits (suc more) n ≡ digits more n
unfolding digits
place_more zero n l = rw (lt-ltb n 10 l) refl
place_more (suc more) n l = ap (λ (before : List ℕ). cond (ltb n 10) [] before ++ (digit (n % 10) ∷ [])) (place_more more (n / 10) (fewer more n l))

pub one_digit : (n : ℕ) → n < 10 → decimal n ≡ digit n ∷ []
unfolding decimal digits
one_digit n l = rw (lt-ltb n 10 l) (ap (λ (d : ℕ). digit d ∷ []) (omega (arith, l)))

pub last_digit : (n : ℕ) → 10 ≤ n → n < 2 ^ 64 → decimal n ≡ decimal (n / 10) ++ (digit (n % 10) ∷ [])
unfolding decimal digits
last_digit n ten l =
    rw (le-ltb n 10 ten) (ap (λ (before : List ℕ). before ++ (digit (n % 10) ∷ [])) (sym (place_more 18 (n / 10) (omega (arith, l)))))

length_one_more : (xs : List ℕ) (x : ℕ) → length (xs ++ (x ∷ [])) ≡ suc (length xs)
length_one_more xs x = length-append xs (x ∷ []) ∙ add-one (length xs)

-- no number is printed with more than 20 digits
digits_most : (more n : ℕ) → length (digits more n) ≤ suc more
unfolding digits
digits_most zero n = omega arith
digits_most (suc more) n = by (ltb n 10) (digits_most more (n / 10))
  where
    by : (b : Bool) → length (digits more (n / 10)) ≤ suc more → length (cond b [] (digits more (n / 10)) ++ (digit (n % 10) ∷ [])) ≤ suc (suc more)
    by true h = omega arith
    by false h = omega (arith, h, length_one_more (digits more (n / 10)) (digit (n % 10)))

pub decimal_most : (n : ℕ) → length (decimal n) ≤ 20
unfolding decimal
decimal_most n = digits_most 19 n

-- as many digits as are printed hold the number, and fewer do not
digits_fewest : (more n : ℕ) → n < 10 ^ suc more → Fewest n (length (digits more n))
unfolding digits
digits_fewest zero n l = (omega arith, l, λ h. absurd (omega arith))
digits_fewest (suc more) n l = go (ltb n 10) refl (digits more (n / 10)) (digits_fewest more (n / 10) (fewer more n l))
  where
    low : (k : ℕ) → 10 ≤ n → Fewest (n / 10) k → 10 ^ k ≤ n
    low zero ten f = omega arith
    low (suc zero) ten f = ten
    low (suc (suc k)) ten f = rw pow-suc ((le-div_iff_mul-le (lit< tt)).0 (rw sub-one at (f.2 (omega arith))))

    go : (b : Bool) → ltb n 10 ≡ b → (before : List ℕ) → Fewest (n / 10) (length before) → Fewest n (length (cond b [] before ++ (digit (n % 10) ∷ [])))
    go true e before f = (omega arith, ltb-true n 10 e, λ h. absurd (omega arith))
    go false e before f =
        rw (length_one_more before (digit (n % 10))) (
          omega arith,
          rw pow-suc ((div-lt_iff_lt-mul (lit< tt)).0 f.1),
          λ h. rw sub-one (low (length before) (ltb-false n 10 e) f),
        )

-- of two fewest numbers of digits none is less than the other
not_fewer : (n j k : ℕ) → Fewest n j → Fewest n k → j < k → ⊥
not_fewer n j k few many less =
    let below : j ≤ k - 1 = omega arith in
    omega (arith, few.1, many.2 (omega (arith, few.0)), pow-le-pow_right {n = 10} (lit< tt) below)

one_fewest : (n j k : ℕ) → Fewest n j → Fewest n k → j ≡ k
one_fewest n j k f g =
    let low : j < k → ⊥ = not_fewer n j k f g in
    let high : k < j → ⊥ = not_fewer n k j g f in
    omega arith

pub fewest_digits : FewestDigits
unfolding decimal
fewest_digits n l = let fewest = digits_fewest 19 n (omega (arith, l)) in (fewest, λ k f. one_fewest n k _ f fewest)

-- a number has a digit, and below 10 ^ k at most k of them
pub some_digit : (n : ℕ) → n < 2 ^ 64 → 0 < length (decimal n)
some_digit n bits = (fewest_digits n bits).0.0

pub few_digits : (k n : ℕ) → 0 < k → n < 10 ^ k → n < 2 ^ 64 → length (decimal n) ≤ k
few_digits k n some below bits = by (dec_le (length (decimal n)) k)
  where
    by : Dec (length (decimal n) ≤ k) → length (decimal n) ≤ k
    by (yes h) = h
    by (no more) =
        let inside : k ≤ length (decimal n) - 1 = omega arith in
        absurd (omega (arith, below, (fewest_digits n bits).0.2 (omega arith), pow-le-pow_right {n = 10} (lit< tt) inside))
