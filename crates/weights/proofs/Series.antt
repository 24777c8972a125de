-- A series of means (Temperature of a day): its first mean out of range, as a chain over the series finds it, one with none, and one that serves.
-- Assumes nothing.
use mathlib.Core.Path.{◌≡◌, refl, sym, ◌∙◌, ap}
use mathlib.Core.Bool.{Bool, true, false, not, ◌&&◌}
use mathlib.Core.List.{List, [], ◌∷◌}
use Prim.Native.Nat.{ℕ, zero, suc, ◌≤◌, ◌<◌}
use native.Mathlib.Omega.{arith}
use borrow.Author.Tests.{ltb-false, leb-true, le-ltb}
use lib.IntN.{ℤ, pos}
use lib.ListN.{length, get_or}
use mir.Syntax.{w16}
use mir.Val.{of_z, to_z}
use mir.Facts.{to_z-of_z}
use Rattle.std.specs.Prelude.{◌↔◌, IsTrue}
use Rattle.common.specs.Below.{first, somewhere}
use Rattle.common.proofs.Below.{clash, first_some, first_none, first_below, none_at}
use Rattle.profile.specs.Limits.{in_range}
use Rattle.weights.specs.Means.{first_out, some_out}
use Rattle.weights.specs.Choose.{serves}
use Rattle.weights.specs.Weights.{mean_at}
use Rattle.weights.proofs.Range.{in_range_fits}

-- mean k is out of range
abbrev pub out : List ℤ → ℕ → Bool
out s k = not (in_range (get_or s k (pos 0)))

pub not_false : (b : Bool) → not b ≡ false → b ≡ true
not_false true e = refl
not_false false e = sym e

not_true : (b : Bool) → not b ≡ true → b ≡ false
not_true true e = sym e
not_true false e = refl

passed : (s : List ℤ) (k : ℕ) → k < length s → out s k ≡ true → ((j : ℕ) → j < k → out s j ≡ false) → first_out s ≡ k
passed [] k l here before = absurd (omega arith)
passed (t ∷ ts) zero l here before = rw (not_true (in_range t) here)
passed (t ∷ ts) (suc k) l here before =
    rw (not_false (in_range t) (before 0 (omega arith))) (ap suc (passed ts k (omega arith) here (λ j h. before (suc j) (omega arith))))

all_passed : (s : List ℤ) → ((j : ℕ) → j < length s → out s j ≡ false) → first_out s ≡ length s
all_passed [] all = refl
all_passed (t ∷ ts) all = rw (not_false (in_range t) (all 0 (omega arith))) (ap suc (all_passed ts (λ j h. all (suc j) (omega arith))))

pub first_out_is : (s : List ℤ) → first_out s ≡ first (out s) (length s)
first_out_is s = go (somewhere (out s) (length s)) refl
  where
    go : (b : Bool) → somewhere (out s) (length s) ≡ b → first_out s ≡ first (out s) (length s)
    go true e = let f = first_some (out s) (length s) e in passed s (first (out s) (length s)) f.below f.holds f.none_before
    go false e = all_passed s (none_at (out s) (length s) e) ∙ sym (first_none (out s) (length s) e)

pub all_in : (s : List ℤ) → some_out s ≡ false → (i : ℕ) → i < length s → in_range (get_or s i (pos 0)) ≡ true
all_in s e i h =
    let long = ltb-false _ _ e in
    not_false _ (none_at (out s) (length s) (first_below (out s) (length s) (length s) (omega (arith, first_out_is s))) i h)

-- a mean as the code passes it on
pub read_in : (s : List ℤ) → some_out s ≡ false → (i : ℕ) → i < length s → in_range (to_z w16 (of_z w16 (mean_at s i))) ≡ true
read_in s e i h = let f = all_in s e i h in rw (to_z-of_z (in_range_fits _ f)) f

-- a test that every mean is in range
pub none_out : (s : List ℤ) (b : Bool) → (IsTrue b ↔ ((i : ℕ) → i < length s → in_range (get_or s i (pos 0)) ≡ true)) → b ≡ not (some_out s)
none_out s true h =
    let all = all_passed s (λ i l. ap not (h.0 refl i l)) in
    rw (le-ltb (first_out s) (length s) (omega arith))
none_out s false h = ap not (sym (some (some_out s) refl))
  where
    some : (b : Bool) → some_out s ≡ b → b ≡ true
    some true e = refl
    some false e = absurd (clash (h.1 (all_in s e)) refl)

-- a series that serves has so many means
pub serves_long : (s : List ℤ) (k : ℕ) → serves s k ≡ true → k ≤ length s
serves_long s k e = leb-true k (length s) (left _ _ e)
  where
    left : (a b : Bool) → a && b ≡ true → a ≡ true
    left true b e = refl
    left false b e = e
