-- The account stands on weights from the weights call (Profile value: the account "may use only what they promise"): open accepts them,
-- with any marks and counts of the lengths for them. Assumes nothing.
use Prim.Native.Nat.{ℕ, ◌+◌}
use mathlib.Core.Path.{◌≡◌, refl}
use mathlib.Core.Bool.{true}
use mathlib.Core.List.{List}
use lib.ListN.{length, get_or}
use borrow.Author.Tests.{le-leb, eq-eqb}
use Rattle.profile.specs.Limits.{weight_least, weight_most, span_least, span_most}
use Rattle.weights.specs.Weights.{Bounded}
use Rattle.account.specs.Account.{Account, days, good_weight, good_weights}
use Rattle.common.proofs.Below.{every_is}
use Rattle.account.specs.Refusals.{open_number}
use Rattle.history.specs.Demand3.{Weighed}

bounded_good : (w : List ℕ) → Bounded w → good_weights w ≡ true
unfolding good_weights
bounded_good w b =
    every_is (λ d. good_weight (get_or w d 0)) (length w)
    (λ d h. let (least, most) = b.each d h in rw (le-leb weight_least (get_or w d 0) least, le-leb (get_or w d 0) weight_most most))

pub opens : (a : Account) → Weighed a → open_number a ≡ 0
opens a from =
    let b = from.given.bounded refl in
    rw (
      le-leb span_least (days a) b.least,
      le-leb (days a) span_most b.most,
      eq-eqb (length a.marks) (days a + 1) from.marks_long,
      eq-eqb (length a.counts) (days a + 1) from.counts_long,
      bounded_good a.weights b,
    )
