-- The running rule over what was written, and points and suppliers that add up to the load (K5). Assumes nothing.
use mathlib.Core.Path.{◌≡◌, sym, ◌∙◌, ap}
use mathlib.Core.Bool.{false}
use mathlib.Core.List.{List}
use Prim.Native.Nat.{ℕ, ◌<◌}
use native.Mathlib.Decide.{dec_lt}
use native.Mathlib.Omega.{arith}
use lib.ListN.{length, take}
use lib.Seq.{take-length}
use Rattle.common.specs.Lists.{sum_of}
use Rattle.residual.specs.Spread.{Points, Outputs, share_before, amounts_of, totals_of, spread_of, network_of}
use Rattle.residual.specs.Call.{load_without_base, SpreadMet}
use Rattle.residual.specs.Claims.{InListOrder, PointsAddUp, SuppliersAddUp}
use Rattle.residual.proofs.Running.{ends, none, amounts_long, amounts_reach, amounts_sum}
use Rattle.residual.proofs.Totals.{totals_reach}
use Rattle.residual.proofs.Table.{known, Passed, no_load, Fits, fit, met, done, done_row, by_zero}

amounts_load : (load : ℕ) (bases : List ℕ) → load_without_base load bases ≡ false → sum_of (amounts_of load bases) ≡ load
amounts_load load bases base = amounts_sum load bases ∙ go (dec_lt 0 (sum_of bases))
  where
    go : Dec (0 < sum_of bases) → share_before load bases (length bases) ≡ load
    go (yes pos) = ends load bases pos
    go (no not) =
        let empty : sum_of bases ≡ 0 = omega arith in
        none load bases empty (length bases) ∙ sym (no_load load bases base empty)

pub network_load : (load : ℕ) (p : Points) → Passed load p → length p.suppliers ≡ length p.bases → network_of (spread_of load p) ≡ load
unfolding totals_of
network_load load p passing long =
    let am : List ℕ = amounts_of load p.bases in
    totals_reach p.suppliers am (length am) (omega arith) (λ i h. known p.suppliers passing.list i (omega (arith, amounts_long load p.bases)))
    ∙ ap sum_of (take-length am)
    ∙ amounts_load load p.bases passing.base

-- a call that no row declines returns the load
pub done_met : (load : ℕ) (p : Points) (lent out : Outputs) → Fits p lent → Passed load p → out ≡ spread_of load p → SpreadMet load p lent 0 load p out
done_met load p lent out f pass holds =
    met (done load p) (done_row load p lent (fit p lent f) pass) (sym (network_load load p pass f.suppliers_long)) holds

pub in_list_order : InListOrder
unfolding share_before
in_list_order load given before after lent out m i h =
    ap (λ (o : Outputs). sum_of (take i o.amounts)) (by_zero m).holds ∙ amounts_reach load before.bases i h

pub points_add_up : PointsAddUp
points_add_up load given before after lent out m =
    let g = by_zero m in
    ap (λ (o : Outputs). sum_of o.amounts) g.holds ∙ amounts_load load before.bases g.passing.base

pub suppliers_add_up : SuppliersAddUp
suppliers_add_up load given before after lent out m =
    let g = by_zero m in
    let whole = network_load load before g.passing g.fitting.suppliers_long in
    (ap network_of g.holds ∙ whole, g.total ∙ whole)
