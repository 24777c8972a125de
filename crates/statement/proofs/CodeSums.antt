-- Weight sums and shares as the loops form them (Account and its calls, "Statement"): one day more, and bounds that fit 64 bits.
-- Assumes nothing.
use mathlib.Core.Path.{◌≡◌, sym, ap, ◌∙◌}
use mathlib.Core.Bool.{Bool, true, false, cond}
use mathlib.Core.List.{List}
use Prim.Native.Nat.{ℕ, zero, suc, ◌+◌, ◌-◌, ◌*◌, ◌≤◌, ◌<◌}
use native.Mathlib.Numerals.{add-one}
use native.Mathlib.Omega.{arith}
use lib.Dec.{leb}
use lib.ListN.{length, get_or, take, drop, length-drop}
use Rattle.std.proofs.lemmas.List.{get_or-drop}
use native.Mathlib.Nat.{add-suc}
use Rattle.std.proofs.lemmas.List.Sums.{sum_by_more}
use Rattle.std.specs.List.{sum, slice_range}
use borrow.Author.Tests.{le-leb}
use Rattle.profile.specs.Limits.{weight_most}
use Rattle.account.specs.Account.{good_weights}
use Rattle.account.proofs.Sound.{weight_good}
use Rattle.statement.specs.Split.{weight_sum, rounded_share}
use Rattle.statement.proofs.Sums.{sum_empty}
use Rattle.statement.proofs.Has.{share_all, share_mono}

module _ (w : List ℕ) where
  pub sum_next : (p d : ℕ) → p ≤ d → weight_sum w p (d + 1) ≡ weight_sum w p d + get_or w d 0
  unfolding weight_sum
  sum_next p d h = rw (add-one d, le-leb p d h)

  -- n days from day p on, as a list
  sum_from : (p n : ℕ) → p + n ≤ length w → sum (take n (drop p w)) ≡ weight_sum w p (p + n)
  sum_from p zero h = sym (sum_empty w p (p + 0) (omega arith))
  sum_from p (suc n) h =
      omega (
        arith,
        sum_from p n (omega arith),
        sum_by_more (λ (x : ℕ). x) (drop p w) n 0 (omega (arith, length-drop p w)),
        get_or-drop p w n 0,
        sum_next p (p + n) (omega arith),
        ap (λ (k : ℕ). sum (take k (drop p w))) (add-one n),
        ap (weight_sum w p) (add-one (p + n)),
        ap (weight_sum w p) (add-suc p n),
      )

  -- the days p to q-1
  pub sum_range : (p q : ℕ) → p ≤ q → q ≤ length w → sum (slice_range w p q) ≡ weight_sum w p q
  sum_range p q low high = let end : p + (q - p) ≡ q = omega arith in sum_from p (q - p) (omega arith) ∙ ap (weight_sum w p) end

  pub sum_most : good_weights w ≡ true → (p d : ℕ) → d ≤ length w → weight_sum w p d ≤ d * weight_most
  unfolding weight_sum
  sum_most good p zero h = omega arith
  sum_most good p (suc d) h = go (sum_most good p d (omega arith)) (leb p d)
    where
      go : weight_sum w p d ≤ d * weight_most → (b : Bool) → weight_sum w p d + cond b (get_or w d 0) 0 ≤ suc d * weight_most
      go rest true = omega (arith, (weight_good w good d h).1)
      go rest false = omega arith

pub share_most : (e zk z : ℕ) → 0 < z → zk ≤ z → rounded_share e zk z ≤ e
share_most e zk z pos h = omega (arith, share_mono e zk z z h, share_all e z pos)
