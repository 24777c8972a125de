-- Sums (K5): of joined lists, of the first elements, of a list by index. Assumes nothing.
use mathlib.Core.Path.{◌≡◌, ◌∙◌, ap}
use mathlib.Core.List.{List, [], ◌∷◌, ◌++◌}
use Prim.Native.Nat.{ℕ, suc, ◌+◌, ◌≤◌, ◌<◌}
use native.Mathlib.Omega.{arith}
use lib.ListN.{length, get_or, take, drop, take-append-drop}
use lib.Seq.{take-suc}
use Rattle.common.specs.Lists.{list_of, sum_of}

pub sum_append : (xs ys : List ℕ) → sum_of (xs ++ ys) ≡ sum_of xs + sum_of ys
unfolding sum_of
sum_append [] ys = omega arith
sum_append (x ∷ xs) ys = omega (arith, sum_append xs ys)

-- one element more
sum_one : (xs : List ℕ) (x : ℕ) → sum_of (xs ++ (x ∷ [])) ≡ sum_of xs + x
unfolding sum_of
sum_one xs x = omega (arith, sum_append xs (x ∷ []))

pub sum_more : (xs : List ℕ) (i : ℕ) → i < length xs → sum_of (take (suc i) xs) ≡ sum_of (take i xs) + get_or xs i 0
sum_more xs i h = ap sum_of (take-suc xs i 0 h) ∙ sum_one (take i xs) (get_or xs i 0)

pub sum_list_of : (f : ℕ → ℕ) (n : ℕ) → sum_of (list_of f (suc n)) ≡ sum_of (list_of f n) + f n
unfolding list_of
sum_list_of f n = sum_one (list_of f n) (f n)

pub sum_first : (i : ℕ) (xs : List ℕ) → sum_of (take i xs) ≤ sum_of xs
sum_first i xs = omega (arith, sum_append (take i xs) (drop i xs), ap sum_of (take-append-drop i xs))
