-- A loop that clears a list (If a call declines), one store a turn: the first i are 0 and the others are as they were. Assumes nothing.
use Prim.Native.Nat.{ℕ, ◌+◌, ◌≤◌, ◌<◌}
use native.Mathlib.Omega.{arith}
use mathlib.Core.Path.{◌≡◌, refl, ap, ◌∙◌}
use mathlib.Core.List.{List, ◌++◌, append-nil}
use borrow.Author.Fill.{fill_none, fill_more}
use lib.ListN.{length, set, drop, replicate, length-set, drop_of_length-le}

pub record Cleared (d s : List ℕ) (i : ℕ) : Type 0 where
  pub within : i ≤ length d
  pub long : length s ≡ length d
  pub holds : s ≡ replicate i 0 ++ drop i d

pub cleared_none : (d : List ℕ) → Cleared d d 0
cleared_none d = record { within = omega arith; long = refl; holds = fill_none d 0 }

pub cleared_more : {d s : List ℕ} {i : ℕ} → Cleared d s i → i < length s → Cleared d (set s i 0) (i + 1)
cleared_more {d} {s} {i} f l =
    record {
      within = omega arith;
      long = length-set s i 0 ∙ f.long;
      holds = ap (λ (t : List ℕ). set t i 0) f.holds ∙ fill_more i 0 d (omega arith);
    }

pub cleared_all : {d s : List ℕ} {i : ℕ} → Cleared d s i → length s ≤ i → s ≡ replicate (length d) 0
cleared_all {d} {s} {i} f l =
    let end : i ≡ length d = omega arith in
    f.holds ∙ ap (λ (t : List ℕ). replicate i 0 ++ t) (drop_of_length-le d {i = i} (omega arith)) ∙ append-nil (replicate i 0) ∙ ap (λ (m : ℕ). replicate m 0) end
