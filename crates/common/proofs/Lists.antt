-- A list by index (Temperature of a day): how long it is, and what it has where; equal elements; stores one after the other (Case file). Assumes nothing.
use mathlib.Core.Path.{◌≡◌, refl, sym, ◌∙◌, ap}
use mathlib.Core.List.{List, [], ◌∷◌, ◌++◌}
use Prim.Native.Nat.{ℕ, zero, suc, ◌+◌, ◌-◌, ◌≤◌, ◌<◌}
use native.Mathlib.Decide.{dec_lt}
use native.Mathlib.Nat.{add-zero}
use native.Mathlib.Omega.{arith}
use native.Mathlib.Numerals.{add-one}
use lib.ListN.{length, get_or, set, take, replicate, length-append, length-replicate, replicate-append-replicate, get_or-append}
use lib.Seq.{sets, get_or_at, take_at}
use Rattle.common.specs.Lists.{list_of}

pub list_of_length : {A : Type 0} (f : ℕ → A) (n : ℕ) → length (list_of f n) ≡ n
unfolding list_of
list_of_length f zero = refl
list_of_length f (suc n) = length-append (list_of f n) (f n ∷ []) ∙ add-one _ ∙ ap suc (list_of_length f n)

pub list_of_at : {A : Type 0} (d : A) (f : ℕ → A) (n i : ℕ) → i < n → get_or (list_of f n) i d ≡ f i
unfolding list_of
list_of_at d f zero i h = absurd (omega arith)
list_of_at d f (suc n) i h = go (list_of_at d f n i) (dec_lt i n)
  where
    go : (i < n → get_or (list_of f n) i d ≡ f i) → Dec (i < n) → get_or (list_of f n ++ (f n ∷ [])) i d ≡ f i
    go before (yes l) = get_or-append (list_of f n) (f n ∷ []) d i (omega (arith, list_of_length f n)) ∙ before l
    go before (no g) =
        let e : i ≡ n = omega arith in
        rw e (get_or_at (list_of f n) (f n) [] d n (list_of_length f n))

-- the first k of n equal elements
pub take_replicate : (a k n : ℕ) → k ≤ n → take k (replicate n a) ≡ replicate k a
take_replicate a k n h =
    let all : n ≡ k + (n - k) = omega arith in
    ap (take k) (ap (λ (m : ℕ). replicate m a) all ∙ sym (replicate-append-replicate k (n - k) a))
    ∙ take_at (replicate k a) (replicate (n - k) a) k (length-replicate k a)

-- two lists stored one after the other are the joined one stored
pub sets_append : (o : List ℕ) (at : ℕ) (xs ys : List ℕ) → sets (sets o at xs) (at + length xs) ys ≡ sets o at (xs ++ ys)
sets_append o at [] ys = rw add-zero
sets_append o at (x ∷ xs) ys =
    let e : at + suc (length xs) ≡ suc at + length xs = omega arith in
    ap (λ (n : ℕ). sets (sets (set o at x) (suc at) xs) n ys) e ∙ sets_append (set o at x) (suc at) xs ys
