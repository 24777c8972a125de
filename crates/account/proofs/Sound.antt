-- What an account that fits and is sound has (Account and its calls): the facts behind `unfit`, `sound` and the rows 3 and 5. Assumes nothing.
use Prim.Native.Nat.{ℕ, suc, ◌+◌, ◌≤◌, ◌<◌}
use mathlib.Core.Path.{◌≡◌}
use mathlib.Core.Bool.{true, false, not, ◌&&◌, ◌||◌}
use borrow.Author.Tests.{leb-true, eqb-true, not-false}
use lib.Dec.{leb, eqb}
use mathlib.Core.List.{List}
use lib.ListN.{length, get_or}
use Rattle.profile.specs.Limits.{weight_least, weight_most, span_most, bad_span}
use Rattle.account.specs.Stands.{never_falling, last_less_first}
use Rattle.account.specs.Account.{Account, days, shown, unfit, sound, good_weights, good_marks, zero_counts, energy_most}
use Rattle.account.specs.Slices.{Fit}
use Rattle.common.proofs.Below.{both, neither, every_at}

pub fit : (a : Account) → unfit a ≡ false → Fit a
fit a h =
    let n = days a in
    let m = not (eqb (length a.marks) (n + 1)) in
    let c = not (eqb (length a.counts) (n + 1)) in
    let rest = (neither (bad_span n || m) c h).0 in
    let span = not-false (leb 1 n && leb n span_most) (neither (bad_span n) m rest).0 in
    record {
      least = leb-true 1 n (both (leb 1 n) (leb n span_most) span).0;
      most = leb-true n span_most (both (leb 1 n) (leb n span_most) span).1;
      marks = eqb-true _ _ (not-false _ (neither (bad_span n) m rest).1);
      counts = eqb-true _ _ (not-false _ (neither (bad_span n || m) c h).1);
    }

-- the five parts of soundness
pub record Sound (a : Account) : Type 0 where
  pub weights : good_weights a.weights ≡ true
  pub marks : good_marks a ≡ true
  pub zeros : zero_counts a ≡ true
  pub order : never_falling (shown a).readings (suc (days a)) ≡ true
  pub energy : last_less_first (days a) (shown a).readings ≤ energy_most

pub sound_parts : (a : Account) → sound a ≡ true → Sound a
sound_parts a h =
    let w = good_weights a.weights in
    let m = good_marks a in
    let z = zero_counts a in
    let o = never_falling (shown a).readings (suc (days a)) in
    let e = leb (last_less_first (days a) (shown a).readings) energy_most in
    let h4 = (both (w && m && z && o) e h).0 in
    let h3 = (both (w && m && z) o h4).0 in
    let h2 = (both (w && m) z h3).0 in
    record {
      weights = (both w m h2).0;
      marks = (both w m h2).1;
      zeros = (both (w && m) z h3).1;
      order = (both (w && m && z) o h4).1;
      energy = leb-true _ _ (both (w && m && z && o) e h).1;
    }

-- what holds of each weight and of each mark
pub weight_good : (w : List ℕ) → good_weights w ≡ true → (d : ℕ) → d < length w → (weight_least ≤ get_or w d 0) × (get_or w d 0 ≤ weight_most)
unfolding good_weights
weight_good w g d l =
    let x = get_or w d 0 in
    let h = every_at _ _ g d l in
    (leb-true _ _ (both (leb weight_least x) (leb x weight_most) h).0, leb-true _ _ (both (leb weight_least x) (leb x weight_most) h).1)

pub mark_most : (a : Account) → Sound a → (k : ℕ) → k < suc (days a) → get_or a.marks k 0 ≤ 3
unfolding good_marks
mark_most a s k l = leb-true _ _ (every_at _ _ s.marks k l)
