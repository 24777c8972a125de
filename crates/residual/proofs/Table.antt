-- The table of a spread (K5): the row that declines a call, and what the calls that none declines have. Assumes nothing.
use mathlib.Core.Path.{◌≡◌, refl, sym, ◌∙◌, ap}
use mathlib.Core.Bool.{true, false, or-false}
use mathlib.Core.List.{List}
use Prim.Native.Nat.{ℕ, zero, suc, ◌≤◌, ◌<◌}
use native.Mathlib.Omega.{arith}
use lib.ListN.{length, get_or, replicate, length-replicate}
use borrow.Author.Tests.{ltb-false, eqb-true, eq-eqb, ne_eqb, lt-ltb, le-ltb}
use Rattle.std.proofs.lemmas.Bool.{not-false}
use Rattle.common.specs.Below.{somewhere}
use Rattle.common.specs.Lists.{sum_of}
use Rattle.common.specs.Rows.{zeros}
use Rattle.common.proofs.Rows.{rows_none}
use Rattle.common.proofs.Below.{clash, neither, none_at}
use Rattle.residual.specs.Spread.{Points, Outputs, outputs, spread_of, network_of}
use Rattle.residual.specs.Call.{unfit, supplier_above, bad_list, load_most, base_most, too_much, load_without_base, zeroed, Ruling, ruling, SpreadMet}
use Rattle.residual.specs.Progress.{Cleared}

-- suppliers that are not declined
pub known : (suppliers : List ℕ) → bad_list suppliers ≡ false → (i : ℕ) → i < length suppliers → get_or suppliers i 0 < 64
known suppliers good i h =
    let some : somewhere (supplier_above suppliers) (length suppliers) ≡ false = (neither _ _ (neither _ _ good).0).0 in
    omega (arith, ltb-false 63 (get_or suppliers i 0) (none_at (supplier_above suppliers) (length suppliers) some i h))

-- a list of some length that a spread can have is declined for its suppliers alone
pub declined_for : (suppliers : List ℕ) → 0 < length suppliers → length suppliers ≤ 1_000 → bad_list suppliers ≡ somewhere (supplier_above suppliers) (length suppliers)
declined_for suppliers some few =
    simp (ne_eqb (length suppliers) 0 (λ e. omega arith), le-ltb 1_000 (length suppliers) few, or-false)

-- a load and points that no row from 16 on declines
pub record Passed (load : ℕ) (p : Points) : Type 0 where
  pub list : bad_list p.suppliers ≡ false
  pub enough : too_much load p.bases ≡ false
  pub base : load_without_base load p.bases ≡ false

pub within_both : (load : ℕ) (bases : List ℕ) → load ≤ load_most → sum_of bases ≤ base_most → too_much load bases ≡ false
within_both load bases l m = rw (le-ltb load_most load l, le-ltb base_most (sum_of bases) m)

pub without : (load : ℕ) (bases : List ℕ) → sum_of bases ≡ 0 → 0 < load → load_without_base load bases ≡ true
without load bases empty l = rw (eq-eqb (sum_of bases) 0 empty) (lt-ltb 0 load l)

pub with_base : (load : ℕ) (bases : List ℕ) → 0 < sum_of bases → load_without_base load bases ≡ false
with_base load bases l = rw (ne_eqb (sum_of bases) 0 (λ e. omega arith))

pub with_none : (load : ℕ) (bases : List ℕ) → sum_of bases ≡ 0 → load ≡ 0 → load_without_base load bases ≡ false
with_none load bases empty none = rw (eq-eqb (sum_of bases) 0 empty) (le-ltb 0 load (omega arith))

-- a base of zero that is not declined has no load
pub no_load : (load : ℕ) (bases : List ℕ) → load_without_base load bases ≡ false → sum_of bases ≡ 0 → load ≡ 0
no_load zero bases none empty = refl
no_load (suc load) bases none empty = absurd (clash (without (suc load) bases empty (omega arith)) none)

-- lengths that are not declined
pub record Fits (p : Points) (lent : Outputs) : Type 0 where
  pub suppliers_long : length p.suppliers ≡ length p.bases
  pub amounts_long : length lent.amounts ≡ length p.bases
  pub totals_long : length lent.totals ≡ 64

pub fits : (p : Points) (lent : Outputs) → unfit p lent ≡ false → Fits p lent
fits p lent e =
    let outer = neither _ _ e in
    let inner = neither _ _ outer.0 in
    record {
      suppliers_long = eqb-true _ _ (not-false _ inner.0);
      amounts_long = eqb-true _ _ (not-false _ inner.1);
      totals_long = eqb-true _ _ (not-false _ outer.1);
    }

pub fit : (p : Points) (lent : Outputs) → Fits p lent → unfit p lent ≡ false
fit p lent f = rw (eq-eqb _ _ f.suppliers_long, eq-eqb _ _ f.amounts_long, eq-eqb _ _ f.totals_long)

-- what a call has by the row that rules it
pub met : {load total : ℕ} {p : Points} {lent out : Outputs} (r : Ruling) → ruling load p lent ≡ r → total ≡ r.total → out ≡ r.memory →
    SpreadMet load p lent r.number total p out
met r e gives holds =
    record {
      answers = ap (λ (x : Ruling). x.number) (sym e);
      gives = gives ∙ ap (λ (x : Ruling). x.total) (sym e);
      stays = refl;
      writes = holds ∙ ap (λ (x : Ruling). x.memory) (sym e);
    }

-- what is given where no row declines
abbrev pub done : ℕ → Points → Ruling
done load p = record { number = 0; total = network_of (spread_of load p); memory = spread_of load p }

pub done_row : (load : ℕ) (p : Points) (lent : Outputs) → unfit p lent ≡ false → Passed load p → ruling load p lent ≡ done load p
done_row load p lent f pass = rw (f, pass.list, pass.enough, pass.base)

-- what a call that is answered 0 gives and writes
pub record Given (load : ℕ) (p : Points) (lent : Outputs) (given : ℕ) (out : Outputs) : Type 0 where
  pub fitting : Fits p lent
  pub passing : Passed load p
  pub total : given ≡ network_of (spread_of load p)
  pub holds : out ≡ spread_of load p

pub by_zero : {load given : ℕ} {before after : Points} {lent out : Outputs} → SpreadMet load before lent 0 given after out → Given load before lent given out
by_zero {load} {given} {before} {after} {lent} {out} m =
    let number : Ruling → ℕ = λ r. r.number in
    let first = rows_none number (unfit before lent) _ _ (λ z. omega arith) (sym m.answers) in
    let second = rows_none number (bad_list before.suppliers) _ _ (λ z. omega arith) first.1 in
    let third = rows_none number (too_much load before.bases) _ _ (λ z. omega arith) second.1 in
    let fourth = rows_none number (load_without_base load before.bases) _ _ (λ z. omega arith) third.1 in
    let pass : Passed load before = record { list = second.0; enough = third.0; base = fourth.0 } in
    let e = done_row load before lent first.0 pass in
    record {
      fitting = fits before lent first.0;
      passing = pass;
      total = m.gives ∙ ap (λ (r : Ruling). r.total) e;
      holds = m.writes ∙ ap (λ (r : Ruling). r.memory) e;
    }

-- outputs that are cleared already
pub clear_long : {xs : List ℕ} (n : ℕ) → xs ≡ replicate n 0 → length xs ≡ n
clear_long n clear = ap length clear ∙ length-replicate {A = ℕ} n 0

pub cleared_fits : {p : Points} {o : Outputs} → Cleared p o → Fits p o
cleared_fits c =
    record { suppliers_long = c.suppliers_long; amounts_long = clear_long _ c.amounts_clear; totals_long = clear_long 64 c.totals_clear }

zeros_again : (xs : List ℕ) (n : ℕ) → xs ≡ replicate n 0 → xs ≡ zeros xs
zeros_again xs n clear = clear ∙ ap (λ (k : ℕ). replicate k 0) (sym (clear_long n clear))

pub cleared_same : (p : Points) (o : Outputs) → Cleared p o → o ≡ zeroed o
cleared_same p o c = λ k. outputs (zeros_again o.amounts (length p.bases) c.amounts_clear k) (zeros_again o.totals 64 c.totals_clear k)
