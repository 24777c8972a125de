-- The power of a ratio (Profile value): "Put one = 2^30." The exponent, the power of a ratio by roots, its two bounds, and that they enclose the exact power.
-- The profile's proofs open only `one` and `quotient`, and else cite this crate's laws.
use Rattle.std.specs.Prelude.{◌≡◌, true, false, cond, ◌↔◌, ℕ, zero, suc, ◌+◌, ◌-◌, ◌*◌, ◌/◌, ◌%◌, ◌^◌, ◌≤◌, ◌<◌, ltb, eqb}
use Rattle.power.specs.declared.rounded.Rounding.{Rounding}
use Rattle.power.specs.declared.rounded.Rounding.TheVariants.{Down, Up}

unfoldable pub one : ℕ
one = 2 ^ 30

-- "rounded down": the greatest s that f takes to at most x
pub record RoundedDown (f : ℕ → ℕ) (x s : ℕ) : Type 0 where
  pub low : f s ≤ x
  pub greatest : (t : ℕ) → f t ≤ x → t ≤ s

-- "rounded up": the least s that f takes to at least x
pub record RoundedUp (f : ℕ → ℕ) (x s : ℕ) : Type 0 where
  pub high : x ≤ f s
  pub least : (t : ℕ) → x ≤ f t → s ≤ t

-- these two numbers, and no others
abbrev pub Rounds : (ℕ → ℕ) → (x down up : ℕ) → Type 0
Rounds f x down up =
    RoundedDown f x down × RoundedUp f x up × ((s : ℕ) → RoundedDown f x s → s ≡ down) × ((s : ℕ) → RoundedUp f x s → s ≡ up)

-- a / b as a whole number, "rounded down" or "rounded up"
unfoldable pub quotient : Rounding → ℕ → ℕ → ℕ
quotient Down a b = a / b
quotient Up a b = (a + (b - 1)) / b

-- for every a and every b above 0 (proofs/Quotient, `quotients`)
abbrev pub Quotients : Type 0
Quotients = (a b : ℕ) → 0 < b → Rounds (λ q. q * b) a (quotient Down a b) (quotient Up a b)

-- a / b rounded up, the name under which a profile's values use it
abbrev pub upward : ℕ → ℕ → ℕ
upward a b = quotient Up a b

-- "The exponent in units of 2^-24: cLow = floor(C × 2^24 / 10^7), cHigh the same rounded upwards (C in ten-millionths)."
unfoldable pub exponent : Rounding → ℕ → ℕ
exponent way C = quotient way (C * 2 ^ 24) (10 ^ 7)

unfoldable pub c_low : ℕ → ℕ
c_low C = exponent Down C

unfoldable pub c_high : ℕ → ℕ
c_high C = exponent Up C

-- while s * s is above x, s becomes the mean of s and x / s; it falls each time, so s turns are enough
unfoldable pub newton : (turns x s : ℕ) → ℕ
newton zero x s = s
newton (suc k) x s = elim (ltb x (s * s)) [ true ↦ newton k x ((s + x / s) / 2) | false ↦ s ]

-- the greatest s with s * s ≤ x: from the mean of one and x / one, which is not below it
unfoldable pub sqrt_down : ℕ → ℕ
sqrt_down x =
    let s : ℕ = (one + x / one) / 2 in
    newton s x s

-- the least s with x ≤ s * s
unfoldable pub sqrt_up : ℕ → ℕ
sqrt_up x =
    let s : ℕ = sqrt_down x in
    cond (ltb (s * s) x) (s + 1) s

abbrev pub square : ℕ → ℕ
square s = s * s

-- for every x these are its roots (proofs/Root, `roots`)
abbrev pub Roots : Type 0
Roots = (x : ℕ) → Rounds square x (sqrt_down x) (sqrt_up x)

unfoldable pub square_root : Rounding → ℕ → ℕ
square_root Down x = sqrt_down x
square_root Up x = sqrt_up x

-- "A product is divided by one."
unfoldable pub scaled_product : Rounding → ℕ → ℕ → ℕ
scaled_product way p r = quotient way (p * r) one

-- "root j (1 to 24) is the square root of root j-1 times one"
unfoldable pub next_root : Rounding → ℕ → ℕ
next_root way r = square_root way (r * one)

-- p, "multiplied by r as often as" n says
unfoldable pub raise : Rounding → (n r p : ℕ) → ℕ
raise way zero r p = p
raise way (suc n) r p = raise way n r (scaled_product way p r)

-- p on the last k roots, r being the one before them: "If the bit of value 2^(24-j) in the rest of c is set, multiply by root j."
unfoldable pub times_roots : Rounding → (k r p c : ℕ) → ℕ
times_roots way zero r p c = p
times_roots way (suc k) r p c =
    let root : ℕ = next_root way r in
    times_roots way k root (cond (eqb (c / 2 ^ k % 2) 1) (scaled_product way p root) p) c

-- "The power of r with exponent c starts at one and is multiplied by r as often as c holds 2^24 whole. Root 0 is r"
unfoldable pub power : Rounding → (r c : ℕ) → ℕ
power way r c = times_roots way 24 r (raise way (c / 2 ^ 24) r one) (c % 2 ^ 24)

-- "each root and product is rounded down", "each is rounded up"
abbrev pub power_low : (r c : ℕ) → ℕ
power_low r c = power Down r c

abbrev pub power_high : (r c : ℕ) → ℕ
power_high r c = power Up r c

-- "For pLow, r is floor(N × one / M), c is cHigh and each root and product is rounded down"
unfoldable pub p_low : (N M C : ℕ) → ℕ
p_low N M C = power_low (quotient Down (N * one) M) (c_high C)

-- "for pHigh, r is rounded up, c is cLow and each is rounded up"
unfoldable pub p_high : (N M C : ℕ) → ℕ
p_high N M C = power_high (quotient Up (N * one) M) (c_low C)

-- "(pLow/one)^(10^7) is at most (N/M)^C, and (pHigh/one)^(10^7) is at least that": over whole numbers, both sides times one^(10^7) × M^C
unfoldable pub AtMost : (p N M C : ℕ) → Type 0
AtMost p N M C = p ^ (10 ^ 7) * M ^ C ≤ N ^ C * one ^ (10 ^ 7)

unfoldable pub AtLeast : (p N M C : ℕ) → Type 0
AtLeast p N M C = N ^ C * one ^ (10 ^ 7) ≤ p ^ (10 ^ 7) * M ^ C

-- at C = 10^7 the exact power is N/M itself, and they say that p/one is at most that, and at least: p × M ≤ N × one, and N × one ≤ p × M
-- (proofs/Ratio, `at_the_ratio`)
abbrev pub AtTheRatio : Type 0
AtTheRatio = (p N M : ℕ) → (AtMost p N M (10 ^ 7) ↔ (p * M ≤ N * one)) × (AtLeast p N M (10 ^ 7) ↔ (N * one ≤ p * M))

pub record Encloses (N M C low high : ℕ) : Type 0 where
  pub below : AtMost low N M C
  pub above : AtLeast high N M C

-- "The enclosing of the power .. proved for the rules themselves, whatever profile" (proofs/Laws, `enclosing`)
abbrev pub Enclosing : Type 0
Enclosing = (N M C : ℕ) → 0 < M → N ≤ M → Encloses N M C (p_low N M C) (p_high N M C)

-- p where N / M is a ratio at most one, and 0 where it is none
unfoldable pub of_ratio : (N M p : ℕ) → ℕ
of_ratio N M p = cond (eqb M 0) 0 (cond (ltb M N) 0 p)

unfoldable pub lower_of : (N M C : ℕ) → ℕ
lower_of N M C = of_ratio N M (p_low N M C)

unfoldable pub upper_of : (N M C : ℕ) → ℕ
upper_of N M C = of_ratio N M (p_high N M C)

-- what `bounds` promises
pub record BoundsMet (N M C low high : ℕ) : Type 0 where
  pub lower : low ≡ lower_of N M C
  pub upper : high ≡ upper_of N M C
  pub encloses : 0 < M → N ≤ M → Encloses N M C low high
