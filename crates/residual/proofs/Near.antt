-- Each point is near to its exact share, and over a base of zero every share is 0 (K5). Assumes nothing.
use mathlib.Core.Path.{◌≡◌, refl, sym, ◌∙◌, ap}
use mathlib.Core.List.{List}
use Prim.Native.Nat.{ℕ, suc, ◌<◌}
use native.Mathlib.Omega.{arith}
use lib.ListN.{length, get_or, take, replicate, length-replicate, get_or-replicate}
use lib.Seq.{ext_get_or}
use Rattle.common.specs.Lists.{sum_of}
use Rattle.common.proofs.Lists.{list_of_length, list_of_at}
use Rattle.statement.specs.Shares.{NearTo}
use Rattle.statement.proofs.Near.{share_near}
use Rattle.residual.specs.Spread.{Points, Outputs, outputs, share_before, amount_of, amounts_of, total_of, totals_of, spread_of}
use Rattle.residual.specs.Call.{zeroed, Ruling}
use Rattle.residual.specs.Claims.{PointsNear, ZeroOverZero, NoBase}
use Rattle.residual.proofs.Sums.{sum_more, sum_first}
use Rattle.residual.proofs.Running.{none, amounts_long, amounts_at, amounts_sum}
use Rattle.residual.proofs.Totals.{total_most}
use Rattle.residual.proofs.Table.{Passed, within_both, with_none, no_load, Fits, fits, done_row, by_zero}
use Rattle.residual.proofs.AddUp.{network_load}

amount_near : (load : ℕ) (bases : List ℕ) → 0 < sum_of bases → (i : ℕ) → i < length bases → NearTo (amount_of load bases i) (sum_of bases) load (get_or bases i 0)
unfolding share_before
amount_near load bases pos i h = rw (sum_more bases i h) (share_near load (sum_of (take i bases)) (get_or bases i 0) (sum_of bases) pos)

pub points_near : PointsNear
points_near load given before after lent out m pos i h =
    let g = by_zero m in
    let is : get_or out.amounts i 0 ≡ amount_of load before.bases i =
    ap (λ (o : Outputs). get_or o.amounts i 0) g.holds ∙ amounts_at load before.bases i h in
    rw is (amount_near load before.bases pos i h)

-- a list of zeros
zero_list : (xs : List ℕ) (n : ℕ) → length xs ≡ n → ((i : ℕ) → i < n → get_or xs i 0 ≡ 0) → xs ≡ replicate n 0
zero_list xs n long each =
    ext_get_or 0 xs (replicate n 0) (long ∙ sym (length-replicate {A = ℕ} n 0))
    (λ i h. each i (omega arith) ∙ sym (get_or-replicate {A = ℕ} n i 0 0 (omega arith)))

amounts_zero : (load : ℕ) (bases : List ℕ) → sum_of bases ≡ 0 → amounts_of load bases ≡ replicate (length bases) 0
amounts_zero load bases empty =
    zero_list (amounts_of load bases) (length bases) (amounts_long load bases)
    (λ i h. omega (arith, amounts_at load bases i h, none load bases empty (suc i), none load bases empty i))

totals_zero : (suppliers amounts : List ℕ) → sum_of amounts ≡ 0 → totals_of suppliers amounts ≡ replicate 64 0
unfolding totals_of
totals_zero suppliers amounts empty =
    zero_list (totals_of suppliers amounts) 64 (list_of_length _ 64)
    (λ s h. omega (arith, list_of_at 0 (λ k. total_of suppliers amounts k (length amounts)) 64 s h, total_most suppliers amounts s (length amounts) (omega arith), sum_first (length amounts) amounts))

-- a spread over a base of zero
pub spread_zero : (load : ℕ) (p : Points) (lent : Outputs) → Fits p lent → sum_of p.bases ≡ 0 → spread_of load p ≡ zeroed lent
spread_zero load p lent f empty =
    let nothing : sum_of (amounts_of load p.bases) ≡ 0 = amounts_sum load p.bases ∙ none load p.bases empty (length p.bases) in
    let amounts : amounts_of load p.bases ≡ replicate (length lent.amounts) 0 = amounts_zero load p.bases empty ∙ ap (λ (n : ℕ). replicate n 0) (sym f.amounts_long) in
    let totals : totals_of p.suppliers (amounts_of load p.bases) ≡ replicate (length lent.totals) 0 =
    totals_zero p.suppliers (amounts_of load p.bases) nothing ∙ ap (λ (n : ℕ). replicate n 0) (sym f.totals_long) in
    λ k. outputs (amounts k) (totals k)

pub no_base : NoBase
no_base load given before after lent out m empty =
    let g = by_zero m in
    (no_load load before.bases g.passing.base empty, g.holds ∙ spread_zero load before lent g.fitting empty)

pub zero_over_zero : ZeroOverZero
zero_over_zero answered given before after lent out m fit list empty =
    let pass : Passed 0 before = record { list = list; enough = within_both 0 before.bases (omega arith) (omega arith); base = with_none 0 before.bases empty refl } in
    let e = done_row 0 before lent fit pass in
    let f = fits before lent fit in (
      m.answers ∙ ap (λ (r : Ruling). r.number) e,
      m.gives ∙ ap (λ (r : Ruling). r.total) e ∙ network_load 0 before pass f.suppliers_long,
      m.writes ∙ ap (λ (r : Ruling). r.memory) e ∙ spread_zero 0 before lent f empty,
    )
