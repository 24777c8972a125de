-- The table for a call of `weights` (If a call declines, K1): a call that is done, and what a call under 7 throughout gives. Assumes nothing.
use mathlib.Core.Path.{◌≡◌, refl, sym, ◌∙◌, ap}
use mathlib.Core.Bool.{Bool, false}
use mathlib.Core.List.{List}
use Prim.Native.Nat.{ℕ, ◌+◌, ◌-◌, ◌≤◌, ◌<◌}
use native.Mathlib.Omega.{arith}
use borrow.Author.Tests.{ltb-false, leb-false, leb-true}
use lib.Dec.{leb, ltb}
use lib.IntN.{ℤ}
use lib.ListN.{length, get_or, replicate, get_or-replicate}
use Rattle.profile.specs.Limits.{profile_count, span_least, span_most, weight_least, weight_most}
use Rattle.profile.proofs.Bounds.{whole_table}
use Rattle.common.specs.Rows.{row}
use Rattle.common.proofs.Below.{both, neither}
use Rattle.common.proofs.Rows.{rows_all, rows_none}
use Rattle.weights.specs.Means.{some_out}
use Rattle.weights.specs.Calendar.{counts_as, some_no_day}
use Rattle.weights.specs.Weights.{day_temperature, weights_of, unfit, Ruling, ruling, Ready, WeightsMet, OwnDays}
use Rattle.weights.proofs.Range.{temperature_in_range}
use Rattle.weights.proofs.Series.{not_false, all_in}
use Rattle.weights.proofs.Calendar.{day_known}
use Rattle.weights.proofs.Span.{weights_length, weights_at}

-- every weight of a span is 1 to 6,999,999
pub weights_bounded : (p w : ℕ) (means : List ℤ) (calendar : List ℕ) → Ready p w means → (k : ℕ) → k < length means - 3
    → (weight_least ≤ get_or (weights_of p w means calendar) k 0) × (get_or (weights_of p w means calendar) k 0 ≤ weight_most)
weights_bounded p w means calendar r k h =
    let fine = all_in means r.means_in_range in
    let mild = temperature_in_range _ _ _ _ (fine (k + 3) (omega arith)) (fine (k + 2) (omega arith)) (fine (k + 1) (omega arith)) (fine k (omega arith)) in
    let known = whole_table p (counts_as w calendar k) (day_temperature means k) r.profile_known (day_known w calendar k) mild in
    rw (weights_at p w means calendar k h) (known.1, known.2)

-- a call that is done has place 0, and writes the weights
record Writes (weights : List ℕ) (r : Ruling) : Type 0 where
  place_0 : r.place ≡ 0
  writes : r.memory ≡ weights

-- a row that does not hold
next : (b : Bool) (here below : Ruling) → (row b here below).number ≡ 0 → 0 < here.number → (b ≡ false) × (below.number ≡ 0)
next b here below e l = rows_none (λ (r : Ruling). r.number) b here below (λ z. omega (arith, z)) e

module _ (p w : ℕ) (means : List ℤ) (calendar before : List ℕ) where
  abbrev IfDone : Ruling → Type 0
  IfDone r = r.number ≡ 0 → Writes (weights_of p w means calendar) r

  done_writes : IfDone (ruling p w means calendar before)
  done_writes =
      rows_all IfDone (unfit means calendar before) (λ z. absurd (omega (arith, z)))
      (rows_all IfDone (leb profile_count p) (λ z. absurd (omega (arith, z)))
      (rows_all IfDone (ltb 6 w) (λ z. absurd (omega (arith, z)))
      (rows_all IfDone (some_out means) (λ z. absurd (omega (arith, z)))
      (rows_all IfDone (some_no_day calendar) (λ z. absurd (omega (arith, z))) (λ z. record { place_0 = refl; writes = refl })))))

  pub done_ready : (ruling p w means calendar before).number ≡ 0 → Ready p w means
  done_ready e =
      let row_3 = next (unfit means calendar before) _ _ e (omega arith) in
      let row_1 = next (leb profile_count p) _ _ row_3.1 (omega arith) in
      let row_2 = next (ltb 6 w) _ _ row_1.1 (omega arith) in
      let row_4 = next (some_out means) _ _ row_2.1 (omega arith) in
      record { profile_known = leb-false _ _ row_1.0; weekday_known = omega (arith, ltb-false _ _ row_2.0); means_in_range = row_4.0 }

  pub done_met : unfit means calendar before ≡ false → (ruling p w means calendar before).number ≡ 0 → (after : List ℕ) → after ≡ weights_of p w means calendar
      → WeightsMet p w means calendar before 0 0 after means calendar
  done_met u e after is =
      let span = both (leb span_least (length means - 3)) (leb (length means - 3) span_most) (not_false _ (neither _ _ (neither _ _ u).0).0) in
      let least = leb-true _ _ span.0 in
      let most = leb-true _ _ span.1 in
      let given = done_writes e in
      let long = ap length is ∙ weights_length p w means calendar in
      record {
        answers = sym e;
        places = sym given.place_0;
        writes = is ∙ sym given.writes;
        bounded = λ z. record {
          least = omega arith;
          most = omega arith;
          each = λ k h. rw is (weights_bounded p w means calendar (done_ready e) k (omega arith));
        };
        stays = refl;
        calendar_stays = refl;
      }

pub own_days : OwnDays
own_days p w means means_after before after calendar_after placed met k h =
    let n = length means - 3 in
    let own = get_or-replicate {A = ℕ} n k 7 7 h in
    let is : after ≡ weights_of p w means (replicate n 7) = met.writes ∙ (done_writes p w means (replicate n 7) before (sym met.answers)).writes in
    ap (λ (s : List ℕ). get_or s k 0) is ∙ weights_at p w means (replicate n 7) k h ∙ rw own refl
