-- The table of a page (K4), by what the statement call answers. Assumes nothing.
use Prim.Native.Nat.{ℕ, suc, ◌≤◌, ◌<◌}
use mathlib.Core.Path.{◌≡◌, refl, sym, ap, ◌∙◌}
use mathlib.Core.Bool.{true, false, and-false}
use mathlib.Core.List.{List}
use native.Mathlib.Omega.{arith}
use borrow.Author.Tests.{lt-leb, ltb-false, eq-eqb, ne_eqb}
use lib.Dec.{eqb, ltb}
use lib.ListN.{length, take}
use lib.Seq.{length-take-le}
use denote.Enum.Bare.{sameb}
use borrow.Author.Rules.{rules}
use Rattle.common.specs.contracts.refusal.Refusal.{the_type}
use Rattle.common.specs.declared.refusal.Refusal.{Refusal}
use Rattle.common.specs.declared.refusal.Refusal.TheVariants.{TooFewReadings}
use Rattle.common.specs.Refusals.{number_of}
use Rattle.common.specs.Rows.{row, zeros}
use Rattle.common.proofs.Below.{clash, neither, last_less}
use Rattle.profile.specs.Limits.{span_most}
use Rattle.account.specs.Account.{Account, days, shown}
use Rattle.account.specs.Slices.{Checked}
use Rattle.account.proofs.Sound.{fit}
use Rattle.statement.specs.Parts.{Outputs, outputs, marked, parts_of, statement_of}
use Rattle.statement.specs.Shares.{total}
use Rattle.statement.specs.Call.{StatementMet, unfit_outputs, too_few_readings}
use Rattle.layout.specs.Text.{no_statement}
use Rattle.statement.proofs.Parts.{each_written}
use Rattle.statement.proofs.CodeAnswers.{long_fit}
use Rattle.statement.proofs.Told.{by_row}
use Rattle.layout.proofs.Full.{total_rises, in_full, within_limit}
use Rattle.page.specs.Page.{page_text, page_length}
use Rattle.page.specs.Call.{Ruling, ruling, length_row, PageMet}
use Rattle.page.specs.Progress.{PartSmall, Printable, LengthMet}

-- what the table lays down, met
pub ruled : (a : Account) (lent : List ℕ) (r : Ruling) → ruling a lent ≡ r → {page : List ℕ} → page ≡ r.memory → PageMet a lent r.number r.size a page
ruled a lent r is wrote =
    record {
      answers = ap (λ (x : Ruling). x.number) (sym is);
      gives = ap (λ (x : Ruling). x.size) (sym is);
      stays = refl;
      writes = wrote ∙ ap (λ (x : Ruling). x.memory) (sym is);
    }

pub too_long : (a : Account) (lent : List ℕ) → span_most < days a → ruling a lent ≡ record { number = 3; size = 0; memory = lent }
too_long a lent h = simp (lt-leb (days a) span_most h, and-false)

-- a page of another length, and one of its own
module _ (parts : ℕ) (text lent : List ℕ) where
  pub other_length : (length lent ≡ page_length parts → ⊥) → LengthMet parts text lent 3 0 lent
  other_length other = let e = ne_eqb (length lent) (page_length parts) other in record { answers = rw e; gives = rw e; writes = rw e }

  pub own_length : (page : List ℕ) → length lent ≡ page_length parts → page ≡ text → LengthMet parts text lent 0 (page_length parts) page
  own_length page own is = let e = eq-eqb (length lent) (page_length parts) own in record { answers = rw e; gives = rw e; writes = rw e is }

-- outputs cut to n elements have the length for n days
pub cut_fits : (n : ℕ) (f t w : List ℕ) → n ≤ length f → n ≤ length t → n ≤ length w → unfit_outputs n (outputs (take n f) (take n t) (take n w)) ≡ false
cut_fits n f t w fl tl wl = long_fit n (outputs (take n f) (take n t) (take n w)) (record { from = length-take-le n f fl; to = length-take-le n t tl; wh = length-take-le n w wl })

-- the numbers of each part of a statement that is given are within the limits
pub parts_small : (a : Account) → Checked a → too_few_readings (days a) (shown a).readings ≡ false → (i : ℕ) → i < length (parts_of a.weights (shown a)) →
    PartSmall (statement_of a.weights (shown a)) i
unfolding total
parts_small a ok some i h =
    let w = a.weights in
    let s = shown a in
    let (ordered, within) =
    each_written w s (λ from to wh. (from < to) × (to ≤ length w))
    (λ k ends. (last_less (marked s) k (omega (arith, ends.after)), omega (arith, ends.upto, last_less s.readings.at (suc (length w)) (omega arith)))) i h in
    let most = (fit a ok.fits).most in
    let energy = within_limit a ok some in
    let sum = total_rises (statement_of w s) (suc i) (length (parts_of w s)) h in
    record { from_small = omega arith; to_small = omega arith; wh_small = omega arith; sum_small = omega arith }

-- the parts of a statement that is given can be printed
printable : (a : Account) → Checked a → too_few_readings (days a) (shown a).readings ≡ false → Printable (statement_of a.weights (shown a)) (length (parts_of a.weights (shown a)))
printable a ok some = by (in_full a ok some)
  where
    o : Outputs
    o = statement_of a.weights (shown a)

    m : ℕ
    m = length (parts_of a.weights (shown a))

    by : no_statement o m ≡ false → Printable o m
    by such =
        let wh = neither _ (ltb (length o.wh) m) (neither _ _ such).0 in
        let to = neither _ (ltb (length o.to) m) wh.0 in
        let from = neither _ (ltb (length o.from) m) to.0 in
        record {
          span = ltb-false _ _ (neither (eqb m 0) (ltb span_most m) from.0).1;
          from_there = ltb-false _ _ from.1;
          to_there = ltb-false _ _ to.1;
          wh_there = ltb-false _ _ wh.1;
          small = parts_small a ok some;
        }

-- the rows after such an answer of the statement call: its own, and the last
abbrev pub rows_after : (number count : ℕ) (out : Outputs) (lent : List ℕ) → Ruling
rows_after number count out lent =
    row (eqb number 3) (record { number = 3; size = 0; memory = lent })
    (row (eqb number 5) (record { number = 5; size = 0; memory = lent })
    (row (eqb number 11) (record { number = 11; size = 0; memory = zeros lent })
    (length_row count (page_text out count) lent)))

-- what the statement call answered tells the rows; where it is done, its parts can be printed
pub told : (a : Account) (o : Outputs) → unfit_outputs (days a) o ≡ false → (number count : ℕ) (out : Outputs) → StatementMet a o number count a out → (lent : List ℕ) →
    (ruling a lent ≡ rows_after number count out lent) × (number ≡ 0 → Printable out count)
told a o long number count out met lent =
    by_row a a o long number count out met ((ruling a lent ≡ rows_after number count out lent) × (number ≡ 0 → Printable out count))
    (λ u is. (rw (is, u) refl, λ done. absurd (omega arith)))
    (λ u s is. (rw (is, u, s) refl, λ done. absurd (omega arith)))
    (λ ok few is. (rw (is, ok.fits, ok.sound, few) refl, λ done. absurd (omega arith)))
    (λ ok few is count_is out-is. (rw (is, ok.fits, ok.sound, few, count_is, out-is) refl, λ done. rw (count_is, out-is) (printable a ok few)))

-- the same of a statement that is given: the last row, and parts that can be printed
pub told_done : (a : Account) (o : Outputs) → unfit_outputs (days a) o ≡ false → (count : ℕ) (out : Outputs) → StatementMet a o 0 count a out → (lent : List ℕ) →
    (ruling a lent ≡ length_row count (page_text out count) lent) × Printable out count
told_done a o long count out met lent = let both = told a o long 0 count out met lent in (both.0, both.1 refl)

eleven : (r : Refusal) → number_of r ≡ 11 → sameb the_type r TooFewReadings ≡ true
eleven r is = search rules

not_done : (r : Refusal) → number_of r ≡ 0 → ⊥
not_done r is = search rules

-- a row by which the statement call declines, 11 apart, leaves the page
pub refused : (a : Account) (o : Outputs) → unfit_outputs (days a) o ≡ false → (r : Refusal) (out : Outputs) → StatementMet a o (number_of r) 0 a out →
    sameb the_type r TooFewReadings ≡ false → (lent : List ℕ) → PageMet a lent (number_of r) 0 a lent
refused a o long r out met other lent =
    by_row a a o long (number_of r) 0 out met (PageMet a lent (number_of r) 0 a lent)
    (λ u is. rw is (ruled a lent (record { number = 3; size = 0; memory = lent }) (rw u refl) refl))
    (λ u s is. rw is (ruled a lent (record { number = 5; size = 0; memory = lent }) (rw (u, s) refl) refl))
    (λ ok few is. absurd (clash (eleven r is) other))
    (λ ok few is count_is out-is. absurd (not_done r is))
