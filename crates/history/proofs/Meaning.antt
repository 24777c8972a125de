-- What the words of demand 3 mean, from the other side: `Meaning` of specs/. Assumes nothing.
use Prim.Native.Nat.{ℕ, zero, suc, ◌*◌, ◌≤◌, ◌<◌}
use mathlib.Core.Path.{◌≡◌, refl, sym, ◌∙◌}
use mathlib.Core.Bool.{true, false}
use mathlib.Core.List.{List, []}
use lib.Dec.{leb, ltb, lit<}
use lib.ListN.{get_or}
use lib.Seq.{ext_get_or}
use native.Mathlib.Omega.{arith}
use Rattle.rounding.specs.Nearest.{nearest}
use Rattle.common.specs.Below.{somewhere, first, last}
use Rattle.common.proofs.Rows.{rows_all}
use Rattle.profile.specs.Limits.{profile_count}
use Rattle.weights.specs.Means.{some_out}
use Rattle.weights.specs.Calendar.{some_no_day}
use Rattle.weights.specs.Weights.{Ruling, ruling, unfit}
use Rattle.account.specs.Account.{Account, account}
use Rattle.account.specs.Stands.{last_less_first}
use Rattle.account.specs.Refusals.{out_of_order}
use Rattle.statement.specs.Split.{weight_sum}
use Rattle.statement.specs.Parts.{Outputs, marked, parts_below}
use Rattle.statement.specs.Shares.{Adjacent, Shared, total, energy}
use Rattle.history.specs.History.{stands_from}
use Rattle.history.specs.Run.{Event, standing}
use Rattle.history.specs.Demand3.{Demand3, Given}
use Rattle.history.specs.Meaning.{EveryAmong, EveryGiven, CarriesOne, EveryWeighed, EveryListHolds, until_first, until_second, until_end, three_days, two_readings, Said, TwoStatements}

pub every_among : EveryAmong
every_among before e rest = (rest, refl)

pub every_given : EveryGiven
every_given es before lent m after out among = (lent, after, among)

pub carries_one : CarriesOne
carries_one w s a b one other =
    let weights : a.weights ≡ b.weights = one.weighs ∙ sym other.weighs in
    let marks : a.marks ≡ b.marks =
    ext_get_or 0 _ _ (one.marks_long ∙ sym other.marks_long)
    (λ k h. one.mark_is k (omega (arith, one.marks_long)) ∙ sym (other.mark_is k (omega (arith, one.marks_long)))) in
    let counts : a.counts ≡ b.counts =
    ext_get_or 0 _ _ (one.counts_long ∙ sym other.counts_long)
    (λ k h. one.count_is k (omega (arith, one.counts_long)) ∙ sym (other.count_is k (omega (arith, one.counts_long)))) in
    λ i. account (weights i) (marks i) (counts i)

-- a weights call that is done has place 0
abbrev NoPlace : Ruling → Type 0
NoPlace r = r.number ≡ 0 → r.place ≡ 0

pub every_weighed : EveryWeighed
every_weighed profile weekday means means_after calendar calendar_after lent place a met marks counts =
    let none : NoPlace (ruling profile weekday means calendar lent) =
    rows_all NoPlace (unfit means calendar lent) (λ e. refl)
    (rows_all NoPlace (leb profile_count profile) (λ e. refl)
    (rows_all NoPlace (ltb 6 weekday) (λ e. refl)
    (rows_all NoPlace (some_out means) (λ e. absurd (omega (arith, e)))
    (rows_all NoPlace (some_no_day calendar) (λ e. absurd (omega (arith, e))) (λ e. refl))))) in
    let at : place ≡ 0 = met.places ∙ none (sym met.answers) in
    record {
      profile = profile;
      weekday = weekday;
      means = means;
      means_after = means_after;
      calendar = calendar;
      calendar_after = calendar_after;
      lent = lent;
      given = rw at at met;
      marks_long = marks;
      counts_long = counts;
    }

pub every_list_holds : EveryListHolds
every_list_holds claim before opened met cs =
    let (es, runs, are) = claim.every_list opened cs in
    (es, are, claim.after_open before opened met es runs)

-- the two readings of the example are adjacent
neighbours : Adjacent two_readings.at 0 3
neighbours = record { ordered = lit< tt; at_p = refl; at_q = refl; none_between = none }
  where
    none : (k : ℕ) → 0 < k → k < 3 → two_readings.at k ≡ false
    none zero low high = absurd (omega arith)
    none (suc zero) low high = refl
    none (suc (suc zero)) low high = refl
    none (suc (suc (suc k))) low high = absurd (omega arith)

module _ (left : ℕ → Account) (lent₁ lent₂ out₁ out₂ : Outputs) (m₁ m₂ : ℕ) (d : Demand3 three_days (until_end left lent₁ lent₂ out₁ out₂ m₁ m₂)) where
  abbrev before₁ : List Event
  before₁ = until_first left

  abbrev before₂ : List Event
  before₂ = until_second left lent₁ out₁ m₁

  given₁ : Given (until_end left lent₁ lent₂ out₁ out₂ m₁ m₂) before₁ m₁ out₁
  given₁ = every_given _ before₁ lent₁ m₁ (left 3) out₁ (every_among before₁ _ _)

  given₂ : Given (until_end left lent₁ lent₂ out₁ out₂ m₁ m₂) before₂ m₂ out₂
  given₂ = every_given _ before₂ lent₂ m₂ (left 5) out₂ (every_among before₂ _ [])

  summed : total out₂ m₂ ≡ 100
  unfolding stands_from out_of_order somewhere last_less_first first last
  summed = d.sums before₂ m₂ out₂ given₂

  each_shared : (i : ℕ) → i < 3 → Shared three_days two_readings (get_or out₂.from i 0) (get_or out₂.to i 0) (get_or out₂.wh i 0)
  unfolding stands_from out_of_order somewhere last_less_first first last parts_below
  each_shared i below = let three : m₂ ≡ 3 = (d.statements before₂ m₂ out₂ given₂).0 in d.shares before₂ m₂ out₂ given₂ i (omega arith)

  nearest_at : (b : ℕ) → b ≤ 3 → marked (standing three_days before₁) b ≡ true → energy out₁ 0 b m₁ ≡ nearest (100 * weight_sum three_days 0 b) (weight_sum three_days 0 3)
  unfolding stands_from out_of_order somewhere last_less_first first last
  nearest_at b upto = d.energies before₁ m₁ out₁ given₁ 0 3 b neighbours (omega arith) (omega arith)

  same_at : (b : ℕ) → b ≤ 3 → marked (standing three_days before₁) b ≡ true → marked (standing three_days before₂) b ≡ true → energy out₁ 0 b m₁ ≡ energy out₂ 0 b m₂
  unfolding stands_from out_of_order somewhere last_less_first first last
  same_at b upto = d.boundaries before₁ m₁ out₁ given₁ before₂ m₂ out₂ given₂ 0 3 b neighbours neighbours refl refl (omega arith) (omega arith)

  pub said : Said m₁ m₂ out₁ out₂
  unfolding stands_from out_of_order somewhere last_less_first first last weight_sum nearest
  said =
      record {
        sum = summed;
        near = each_shared;
        at_first = nearest_at 0 (omega arith) refl;
        at_cut = nearest_at 1 (omega arith) refl;
        at_last = nearest_at 3 (omega arith) refl;
        same_at_first = same_at 0 (omega arith) refl refl;
        same_at_cut = same_at 1 (omega arith) refl refl;
        same_at_last = same_at 3 (omega arith) refl refl;
      }

pub two_statements : TwoStatements
two_statements = said
