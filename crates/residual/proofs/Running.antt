-- The running rule over a list of points (K5): it starts at 0, never falls and ends at the load, so the amounts add up to it. Assumes nothing.
use mathlib.Core.Path.{◌≡◌, sym, ◌∙◌, ap}
use mathlib.Core.List.{List}
use Prim.Native.Nat.{ℕ, zero, suc, ◌≤◌, ◌<◌}
use native.Mathlib.Omega.{arith}
use lib.ListN.{length, get_or, take}
use lib.Seq.{take-length, take_all}
use Rattle.common.specs.Lists.{sum_of}
use Rattle.common.proofs.Lists.{list_of_length, list_of_at}
use Rattle.statement.specs.Split.{rounded_share}
use Rattle.statement.proofs.Has.{share_none, share_all, share_mono}
use Rattle.residual.specs.Spread.{share_before, amount_of, amounts_of}
use Rattle.residual.proofs.Sums.{sum_more, sum_first}

module _ (load : ℕ) (bases : List ℕ) where
  pub starts : share_before load bases 0 ≡ 0
  unfolding share_before sum_of
  starts = share_none load (sum_of bases)

  pub rises : (i : ℕ) → i < length bases → share_before load bases i ≤ share_before load bases (suc i)
  unfolding share_before
  rises i h = share_mono load (sum_of (take i bases)) (sum_of (take (suc i) bases)) (sum_of bases) (omega (arith, sum_more bases i h))

  pub ends : 0 < sum_of bases → share_before load bases (length bases) ≡ load
  unfolding share_before
  ends pos = ap (λ (x : ℕ). rounded_share load x (sum_of bases)) (ap sum_of (take-length bases)) ∙ share_all load (sum_of bases) pos

  pub within : 0 < sum_of bases → (i : ℕ) → share_before load bases i ≤ load
  unfolding share_before
  within pos i = omega (arith, share_mono load (sum_of (take i bases)) (sum_of bases) (sum_of bases) (sum_first i bases), share_all load (sum_of bases) pos)

  -- over a base of zero
  pub none : sum_of bases ≡ 0 → (i : ℕ) → share_before load bases i ≡ 0
  unfolding share_before
  none empty i =
      let nothing : sum_of (take i bases) ≡ 0 = omega (arith, sum_first i bases) in
      ap (λ (x : ℕ). rounded_share load x (sum_of bases)) nothing ∙ share_none load (sum_of bases)

  pub amounts_long : length (amounts_of load bases) ≡ length bases
  unfolding amounts_of
  amounts_long = list_of_length _ _

  pub amounts_at : (i : ℕ) → i < length bases → get_or (amounts_of load bases) i 0 ≡ amount_of load bases i
  unfolding amounts_of
  amounts_at i h = list_of_at 0 _ _ i h

  -- the first m amounts
  pub amounts_reach : (m : ℕ) → m ≤ length bases → sum_of (take m (amounts_of load bases)) ≡ share_before load bases m
  unfolding sum_of
  amounts_reach zero h = sym starts
  amounts_reach (suc m) h =
      omega (arith, sum_more (amounts_of load bases) m (omega (arith, amounts_long)), amounts_at m (omega arith), amounts_reach m (omega arith), rises m (omega arith))

  -- all of them
  pub amounts_sum : sum_of (amounts_of load bases) ≡ share_before load bases (length bases)
  amounts_sum =
      ap sum_of (sym (take_all (length bases) (amounts_of load bases) (omega (arith, amounts_long)))) ∙ amounts_reach (length bases) (omega arith)
