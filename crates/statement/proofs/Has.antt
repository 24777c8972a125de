-- What a boundary has (Account and its calls, "Statement"): at a reading its count, and from reading to reading one formula, both ends
-- included. It never falls. Assumes nothing.
use mathlib.Core.Path.{◌≡◌, sym, ◌∙◌}
use mathlib.Core.Bool.{true}
use mathlib.Core.List.{List}
use mathlib.Core.Logic.{⊎_elim}
use Prim.Native.Nat.{ℕ, zero, suc, ◌-◌, ◌*◌, ◌≤◌, ◌<◌}
use native.Mathlib.Nat.{eq-or-lt_of_le, mul-le-mul_left}
use native.Mathlib.Omega.{arith}
use lib.ListN.{length}
use Rattle.rounding.proofs.Laws.{nearest_zero, nearest_multiple, nearest_mono}
use Rattle.account.specs.Stands.{Readings}
use Rattle.statement.specs.Split.{weight_sum, rounded_share, between, has}
use Rattle.statement.specs.Shares.{Adjacent}
use Rattle.statement.specs.Facts.{Valid, HasRule}
use Rattle.statement.proofs.Order.{LiesBetween, earlier_is, later_is, adjacent_rise}
use Rattle.statement.proofs.Sums.{sum_empty, sum_splits, sum_positive}

pub share_none : (e z : ℕ) → rounded_share e 0 z ≡ 0
unfolding rounded_share
share_none e zero = nearest_zero _
share_none e (suc z) = let same : e * 0 ≡ 0 * suc z = omega arith in rw same (nearest_multiple 0 (suc z) (omega arith))

pub share_all : (e z : ℕ) → 0 < z → rounded_share e z z ≡ e
unfolding rounded_share
share_all e z pos = nearest_multiple e z pos

pub share_mono : (e x y z : ℕ) → x ≤ y → rounded_share e x z ≤ rounded_share e y z
unfolding rounded_share
share_mono e x y z h = nearest_mono (e * x) (e * y) z (mul-le-mul_left e h)

pub has_reading : (w : List ℕ) (r : Readings) (k : ℕ) → r.at k ≡ true → has w r k ≡ r.count k
unfolding has
has_reading w r k at = rw at

-- a boundary strictly between two adjacent readings
strictly : (w : List ℕ) (r : Readings) (p q : ℕ) → Adjacent r.at p q → q ≤ length w → (k : ℕ) → p < k → k < q →
    has w r k ≡ between w r p q k
unfolding has
strictly w r p q a inside k low high =
    let e : LiesBetween (length w) r p q k = record { adjacent = a; after = low; upto = omega arith; inside = inside } in
    rw (a.none_between k low high, earlier_is (length w) r p q k e, later_is (length w) r p q k e)

pub has_rule : HasRule
unfolding between rounded_share
has_rule = record { between = λ w r p q k a inside low high. strictly w r p q a inside k low high; reading = has_reading }

module _ (w : List ℕ) (r : Readings) (valid : Valid w r) (p q : ℕ) (a : Adjacent r.at p q) (inside : q ≤ length w) where
  whole : 0 < weight_sum w p q
  whole = sum_positive w valid.weights p q a.ordered inside

  at_end : between w r p q q ≡ r.count q
  unfolding between
  at_end = omega (arith, share_all (r.count q - r.count p) (weight_sum w p q) whole, adjacent_rise w r valid p q a inside)

  at_start : between w r p q p ≡ r.count p
  unfolding between
  at_start =
      let none : rounded_share (r.count q - r.count p) (weight_sum w p p) (weight_sum w p q) ≡ 0 =
      rw (sum_empty w p p (omega arith)) (share_none _ _) in
      omega arith

  -- what a boundary has, from the reading at p to the reading at q
  pub has_between : (k : ℕ) → p ≤ k → k ≤ q → has w r k ≡ between w r p q k
  has_between k low high =
      ⊎_elim (λ start. rw (← start) (has_reading w r p a.at_p ∙ sym at_start))
      (λ after.
      ⊎_elim (λ end. rw end (has_reading w r q a.at_q ∙ sym at_end)) (λ before. strictly w r p q a inside k after before) (eq-or-lt_of_le high))
      (eq-or-lt_of_le low)

  pub has_mono : (j k : ℕ) → p ≤ j → j ≤ k → k ≤ q → has w r j ≤ has w r k
  unfolding between
  has_mono j k low le high =
      let more : weight_sum w p j ≤ weight_sum w p k = omega (arith, sum_splits w p j k low le) in
      rw (has_between j low (omega arith), has_between k (omega arith) high)
      (omega (arith, share_mono (r.count q - r.count p) _ _ (weight_sum w p q) more))
