-- The calendar of a span (K1): the weekday that a day counts as, from a byte that is there; it is always a weekday. Assumes nothing.
use mathlib.Core.Path.{◌≡◌, refl, ◌∙◌, ap}
use mathlib.Core.Bool.{Bool, true, false, cond}
use mathlib.Core.List.{List}
use Prim.Native.Nat.{ℕ, suc, ◌+◌, ◌%◌, ◌≤◌, ◌<◌}
use native.Mathlib.Omega.{arith}
use borrow.Author.Tests.{ltb-true, lt-ltb, le-ltb}
use lib.Dec.{ltb}
use lib.ListN.{length, get_or, take, drop, replicate, length-replicate, get_or-replicate}
use lib.Seq.{split_at, get_or_at, length-take-le}
use Rattle.common.proofs.Below.{none_is}
use Rattle.weights.specs.Calendar.{counts_as, no_day, some_no_day}

-- the byte of a day is read whatever stands for one that is not there
pub byte_there : (calendar : List ℕ) (k : ℕ) → k < length calendar → get_or calendar k 7 ≡ get_or calendar k 0
byte_there calendar k h =
    ap (λ (s : List ℕ). get_or s k 7) (split_at calendar k 0 h)
    ∙ get_or_at (take k calendar) (get_or calendar k 0) (drop (suc k) calendar) 7 k (length-take-le k calendar (omega arith))

module _ (weekday : ℕ) (calendar : List ℕ) (k : ℕ) where
  pub named_day : k < length calendar → get_or calendar k 0 < 7 → counts_as weekday calendar k ≡ get_or calendar k 0
  named_day h l = rw (byte_there calendar k h, lt-ltb (get_or calendar k 0) 7 l) refl

  pub own_day : k < length calendar → 7 ≤ get_or calendar k 0 → counts_as weekday calendar k ≡ (weekday + k) % 7
  own_day h l = rw (byte_there calendar k h, le-ltb (get_or calendar k 0) 7 l) refl

  pub day_known : counts_as weekday calendar k < 7
  day_known = go (ltb (get_or calendar k 7) 7) refl
    where
      go : (b : Bool) → ltb (get_or calendar k 7) 7 ≡ b → cond b (get_or calendar k 7) ((weekday + k) % 7) < 7
      go true e = ltb-true _ _ e
      go false e = omega arith

-- no byte of 7 throughout is above 7
pub own_named : (n : ℕ) → some_no_day (replicate n 7) ≡ false
own_named n =
    none_is (no_day (replicate n 7)) (length (replicate {A = ℕ} n 7))
    λ k h. rw (get_or-replicate {A = ℕ} n k 7 7 (omega (arith, h, length-replicate {A = ℕ} n 7))) refl
