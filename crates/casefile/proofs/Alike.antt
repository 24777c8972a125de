-- Two files that are the same as far as the program reads (Case file): their numbers, and the fault of each mean, reading and cut. Assumes nothing.
use Prim.Native.Nat.{ℕ, zero, suc, ◌+◌, ◌-◌, ◌≤◌, ◌<◌}
use mathlib.Core.Path.{◌≡◌, refl}
use mathlib.Core.Bool.{Bool, not, ◌||◌}
use mathlib.Core.List.{List}
use native.Mathlib.Omega.{arith}
use native.Mathlib.Nat.{le_refl}
use borrow.Author.Tests.{le-ltb}
use lib.Dec.{ltb, leb}
use lib.ListN.{length, get_or}
use Rattle.profile.specs.Limits.{in_range}
use Rattle.common.specs.Below.{somewhere}
use Rattle.account.specs.Account.{energy_most}
use Rattle.casefile.specs.Bytes.{little, signed}
use Rattle.casefile.specs.Case.{item_at, boundary_at, reading_count_at}
use Rattle.casefile.specs.Faults.{◌before◌, fault, early, fails_to_rise, mean_fault_at, boundary_fault, reading_fault_at}
use Rattle.casefile.specs.Length.{bytes_read}
use Rattle.casefile.proofs.Numbers.{number_same}

some_same : (p q : ℕ → Bool) (m : ℕ) → ((i : ℕ) → i < m → p i ≡ q i) → somewhere p m ≡ somewhere q m
unfolding somewhere
some_same p q zero same = refl
some_same p q (suc m) same = λ k. some_same p q m (λ i l. same i (omega arith)) k || same m (omega arith) k

falls_same : (b c : ℕ → ℕ) (i : ℕ) → ((j : ℕ) → j ≤ i → b j ≡ c j) → fails_to_rise b i ≡ fails_to_rise c i
falls_same b c zero same = refl
falls_same b c (suc i) same = λ k. leb (same (suc i) (omega arith) k) (same i (omega arith) k)

-- two files that are the same as far as the program reads, and are that long
pub record Alike (s t : List ℕ) : Type 0 where
  pub same : (i : ℕ) → i < bytes_read → get_or s i 0 ≡ get_or t i 0
  pub long : bytes_read ≤ length s
  pub long_too : bytes_read ≤ length t

module _ {s t : List ℕ} (a : Alike s t) where
  pub number : (width at : ℕ) → at + width ≤ bytes_read → little width s at ≡ little width t at
  number width at l = number_same width s t at at (λ i h. a.same (at + i) (omega arith))

  -- neither ends early within what is read
  pub whole : (x : ℕ) → x ≤ bytes_read → early s x ≡ early t x
  whole x l = simp (le-ltb (length s) x (omega (arith, a.long)), le-ltb (length t) x (omega (arith, a.long_too)))

  pub mean_same : (at i : ℕ) → item_at 2 at i + 2 ≤ bytes_read → mean_fault_at s at i ≡ mean_fault_at t at i
  mean_same at i l = λ k.
      whole (item_at 2 at i + 2) l k before
      fault (not (in_range (signed (number 2 (item_at 2 at i) l k)))) 4 (item_at 2 at i)

  -- readings and cuts, up to the last that is read whole
  pub boundary_same : (width at n i : ℕ) → ((j : ℕ) → j ≤ i → item_at width at j + 2 ≤ bytes_read) → item_at width at i + width ≤ bytes_read → boundary_fault width s at n i ≡ boundary_fault width t at n i
  boundary_same width at n i read l =
      let same : (j : ℕ) → j ≤ i → boundary_at width s at j ≡ boundary_at width t at j = λ j h. number 2 (item_at width at j) (read j h) in
      λ k.
      whole (item_at width at i + width) l k before
      fault (falls_same (boundary_at width s at) (boundary_at width t at) i same k) 13 (item_at width at i) before
      fault (ltb n (same i (le_refl i) k)) 6 (item_at width at i)

  pub reading_same : (at n i : ℕ) → item_at 10 at i + 10 ≤ bytes_read → reading_fault_at s at n i ≡ reading_fault_at t at n i
  reading_same at n i l =
      let count : (j : ℕ) → j ≤ i → reading_count_at s at j ≡ reading_count_at t at j = λ j h. number 8 (item_at 10 at j + 2) (omega arith) in
      λ k.
      boundary_same 10 at n i (λ j h. omega arith) l k before
      fault (some_same (λ j. ltb (reading_count_at s at i) (reading_count_at s at j)) (λ j. ltb (reading_count_at t at i) (reading_count_at t at j)) i (λ j h m. ltb (count i (le_refl i) m) (count j (omega arith) m)) k) 8 (item_at 10 at i + 2) before
      fault (ltb energy_most (count i (le_refl i) k - count 0 (omega arith) k)) 9 (item_at 10 at i + 2)
