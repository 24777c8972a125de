-- How a spread grows, point by point (K5): what the loop knows after the first i points. Assumes nothing.
use mathlib.Core.Path.{◌≡◌, refl, sym, ◌∙◌, ap, ap₂, subst}
use mathlib.Core.List.{List}
use Prim.Native.Nat.{ℕ, suc, ◌+◌, ◌-◌, ◌≤◌, ◌<◌}
use native.Mathlib.Decide.{ℕ_discrete}
use native.Mathlib.Numerals.{add-one}
use native.Mathlib.Omega.{arith}
use lib.ListN.{length, get_or, set, take, replicate, length-set, get_or-replicate}
use lib.Seq.{get_or-set_same, get_or-set_other, ext_get_or}
use Rattle.common.specs.Lists.{sum_of}
use Rattle.common.proofs.Lists.{list_of_length, list_of_at}
use Rattle.common.proofs.Filled.{Filled, step, done}
use Rattle.statement.specs.Split.{rounded_share}
use Rattle.residual.specs.Spread.{outputs, share_before, amount_of, amounts_of, total_of, totals_of}
use Rattle.residual.proofs.Sums.{sum_more, sum_first}
use Rattle.residual.proofs.Running.{starts, rises, within, amounts_long, amounts_at, amounts_reach}
use Rattle.residual.proofs.Totals.{more_other, more_here, total_most}
use Rattle.residual.proofs.Table.{clear_long}

module _ (load : ℕ) (suppliers bases : List ℕ) where
  -- the totals over the first i points
  pub record Totalled (totals : List ℕ) (i : ℕ) : Type 0 where
    pub long : length totals ≡ 64
    pub each : (s : ℕ) → s < 64 → get_or totals s 0 ≡ total_of suppliers (amounts_of load bases) s i

  pub record Filling (amounts totals : List ℕ) (part before i : ℕ) : Type 0 where
    pub part_is : part ≡ sum_of (take i bases)
    pub before_is : before ≡ share_before load bases i
    pub amounts_are : Filled (amount_of load bases) (length bases) amounts i
    pub totals_are : Totalled totals i

  pub filling_none : (amounts totals : List ℕ) → length amounts ≡ length bases → totals ≡ replicate 64 0 → Filling amounts totals 0 0 0
  unfolding sum_of total_of
  filling_none amounts totals long clear =
      record {
        part_is = refl;
        before_is = sym (starts load bases);
        amounts_are = record { long = long; within = omega arith; passed = λ j h. absurd (omega arith) };
        totals_are =
            record {
              long = clear_long 64 clear;
              each = λ s h. ap (λ (t : List ℕ). get_or t s 0) clear ∙ get_or-replicate {A = ℕ} 64 s 0 0 h;
            };
      }

  totalled_more : (totals : List ℕ) (i amount : ℕ) → Totalled totals i → i < length bases → get_or suppliers i 0 < 64 → amount ≡ amount_of load bases i →
      Totalled (set totals (get_or suppliers i 0) (get_or totals (get_or suppliers i 0) 0 + amount)) (suc i)
  unfolding total_of
  totalled_more totals i amount so_far h known is =
      record { long = length-set totals x _ ∙ so_far.long; each = λ s l. at s l (ℕ_discrete x s) }
    where
      x : ℕ
      x = get_or suppliers i 0

      at : (s : ℕ) → s < 64 → Dec (x ≡ s) → get_or (set totals x (get_or totals x 0 + amount)) s 0 ≡ total_of suppliers (amounts_of load bases) s (suc i)
      at s l (yes same) =
          ap (λ (k : ℕ). get_or (set totals x (get_or totals x 0 + amount)) k 0) (sym same)
          ∙ get_or-set_same totals x _ 0 (omega (arith, so_far.long))
          ∙ omega (
            arith,
            so_far.each x known,
            so_far.each s l,
            is,
            amounts_at load bases i h,
            ap (λ (k : ℕ). total_of suppliers (amounts_of load bases) k i) same,
            more_here (λ k. total_of suppliers (amounts_of load bases) k i) (get_or suppliers i 0) (get_or (amounts_of load bases) i 0) s same,
          )
      at s l (no other) =
          get_or-set_other totals x s _ 0 (λ e. other (sym e)) ∙ so_far.each s l ∙ sym (more_other (λ k. total_of suppliers (amounts_of load bases) k i) _ _ s other)

  pub part_most : {amounts totals : List ℕ} {part before i : ℕ} → Filling amounts totals part before i → i < length bases → part + get_or bases i 0 ≤ sum_of bases
  part_most {amounts} {totals} {part} {before} {i} so_far h = omega (arith, so_far.part_is, sum_more bases i h, sum_first (suc i) bases)

  -- no amount falls below 0, and no total rises above the load
  module _ {amounts totals : List ℕ} {part before i sum after : ℕ} (so_far : Filling amounts totals part before i) (h : i < length bases)
      (sum_is : sum ≡ sum_of bases) (is : after ≡ rounded_share load (part + get_or bases i 0) sum) where
    pub reached : after ≡ share_before load bases (suc i)
    unfolding share_before
    reached =
        let parts : part + get_or bases i 0 ≡ sum_of (take (suc i) bases) = omega (arith, sum_more bases i h, so_far.part_is) in
        is ∙ ap₂ (rounded_share load) parts sum_is

    pub not_less : before ≤ after
    not_less = omega (arith, reached, so_far.before_is, rises load bases i h)

    pub total_within : (s : ℕ) → s < 64 → 0 < sum_of bases → get_or totals s 0 + (after - before) ≤ load
    total_within s known pos =
        omega (
          arith,
          so_far.totals_are.each s known,
          total_most suppliers (amounts_of load bases) s i (omega (arith, amounts_long load bases)),
          amounts_reach load bases i (omega arith),
          so_far.before_is,
          not_less,
          reached,
          within load bases pos (suc i),
        )

  pub filling_more : {amounts totals : List ℕ} {part before i sum after : ℕ} → Filling amounts totals part before i → i < length bases →
      get_or suppliers i 0 < 64 → sum ≡ sum_of bases → after ≡ rounded_share load (part + get_or bases i 0) sum →
      Filling (set amounts i (after - before)) (set totals (get_or suppliers i 0) (get_or totals (get_or suppliers i 0) 0 + (after - before)))
      (part + get_or bases i 0) after (i + 1)
  filling_more {amounts} {totals} {part} {before} {i} {sum} {after} so_far h known sum_is is =
      let parts : part + get_or bases i 0 ≡ sum_of (take (suc i) bases) = omega (arith, sum_more bases i h, so_far.part_is) in
      let reaches = reached so_far h sum_is is in
      let amount : after - before ≡ amount_of load bases i = ap₂ (λ (p q : ℕ). p - q) reaches so_far.before_is in
      record {
        part_is = parts ∙ ap (λ (j : ℕ). sum_of (take j bases)) (sym (add-one i));
        before_is = reaches ∙ ap (share_before load bases) (sym (add-one i));
        amounts_are = step _ so_far.amounts_are h amount;
        totals_are = subst (Totalled _) (sym (add-one i)) (totalled_more totals i _ so_far.totals_are h known amount);
      }

  pub filling_all : {amounts totals : List ℕ} {part before i : ℕ} → Filling amounts totals part before i → length bases ≤ i →
      outputs amounts totals ≡ outputs (amounts_of load bases) (totals_of suppliers (amounts_of load bases))
  unfolding totals_of
  filling_all {amounts} {totals} {part} {before} {i} so_far h =
      let end : i ≡ length (amounts_of load bases) = omega (arith, so_far.amounts_are.within, amounts_long load bases) in
      let am : amounts ≡ amounts_of load bases =
      done so_far.amounts_are h (amounts_of load bases) (amounts_long load bases) (amounts_at load bases) in
      let tot : totals ≡ totals_of suppliers (amounts_of load bases) =
      ext_get_or 0 totals (totals_of suppliers (amounts_of load bases)) (so_far.totals_are.long ∙ sym (list_of_length _ 64))
      (λ s l. so_far.totals_are.each s (omega (arith, so_far.totals_are.long)) ∙ ap (total_of suppliers (amounts_of load bases) s) end ∙ sym (list_of_at 0 _ 64 s (omega (arith, so_far.totals_are.long)))) in
      λ k. outputs (am k) (tot k)
