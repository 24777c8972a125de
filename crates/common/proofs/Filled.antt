-- A loop that fills a list from the front (Temperature of a day): its first k elements are those of a function of the index.
-- Assumes nothing.
use mathlib.Core.Path.{◌≡◌, sym, ◌∙◌}
use mathlib.Core.List.{List}
use Prim.Native.Nat.{ℕ, ◌+◌, ◌≤◌, ◌<◌}
use native.Mathlib.Omega.{arith}
use borrow.Author.Count.{below_more}
use lib.ListN.{length, get_or, set, length-set}
use lib.Seq.{get_or-set_same, get_or-set_other, ext_get_or}

pub record Filled (f : ℕ → ℕ) (n : ℕ) (s : List ℕ) (k : ℕ) : Type 0 where
  pub long : length s ≡ n
  pub within : k ≤ n
  pub passed : (j : ℕ) → j < k → get_or s j 0 ≡ f j

pub start : (f : ℕ → ℕ) (s : List ℕ) → Filled f (length s) s 0
start f s = record { long = omega arith; within = omega arith; passed = λ j h. absurd (omega arith) }

pub step : {f : ℕ → ℕ} {n : ℕ} {s : List ℕ} {k : ℕ} (x : ℕ) → Filled f n s k → k < n → x ≡ f k → Filled f n (set s k x) (k + 1)
step {f} {n} {s} {k} x before h e =
    let l : k < length s = omega arith in
    record {
      long = length-set s k x ∙ before.long;
      within = omega arith;
      passed =
          below_more (λ j. get_or (set s k x) j 0 ≡ f j) k
          (λ j i. get_or-set_other s k j x 0 (omega arith) ∙ before.passed j i)
          (get_or-set_same s k x 0 l ∙ e);
    }

pub done : {f : ℕ → ℕ} {n : ℕ} {s : List ℕ} {k : ℕ} → Filled f n s k → n ≤ k → (t : List ℕ) → length t ≡ n
    → ((j : ℕ) → j < n → get_or t j 0 ≡ f j) → s ≡ t
done {f} {n} {s} {k} all h t l at =
    ext_get_or 0 s t (omega arith) (λ j i. all.passed j (omega arith) ∙ sym (at j (omega arith)))
