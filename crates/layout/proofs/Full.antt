-- A statement that is given is one that has a text (Case file): none of the ways in which there could be none arises. Assumes nothing.
use Prim.Native.Nat.{ℕ, zero, suc, ◌+◌, ◌-◌, ◌≤◌}
use mathlib.Core.Path.{◌≡◌}
use mathlib.Core.Bool.{false}
use mathlib.Core.List.{List, map}
use mathlib.Core.Logic.{⊎_elim}
use native.Mathlib.Omega.{arith}
use native.Mathlib.Nat.{eq-or-lt_of_le, le_of_suc-le-suc}
use borrow.Author.Tests.{le-ltb, ltb-false, ne_eqb}
use lib.Dec.{ltb}
use lib.ListN.{length, get_or, replicate, length-append, length-map}
use Rattle.profile.specs.Limits.{span_most}
use Rattle.common.specs.Below.{somewhere, how_many}
use Rattle.account.specs.Account.{Account, days, shown, energy_most}
use Rattle.account.specs.Slices.{Checked}
use Rattle.common.proofs.Below.{none_is}
use Rattle.account.proofs.Sound.{fit, sound_parts}
use Rattle.common.specs.Rows.{filled}
use Rattle.statement.specs.Parts.{Part, Outputs, parts_of, statement_of}
use Rattle.statement.specs.Shares.{total}
use Rattle.statement.specs.Call.{too_few_readings}
use Rattle.statement.proofs.Order.{valid_of_sound}
use Rattle.statement.proofs.Parts.{parts_fit}
use Rattle.statement.proofs.Successive.{successive}
use Rattle.statement.proofs.Facts.{sums_up}
use Rattle.layout.specs.Text.{no_statement}
use Rattle.layout.proofs.Sums.{total_more}

-- the total never falls
pub total_rises : (o : Outputs) (i m : ℕ) → i ≤ m → total o i ≤ total o m
unfolding total
total_rises o i zero h = let none : i ≡ 0 = omega arith in rw none (omega arith)
total_rises o i (suc m) h = ⊎_elim (λ end. rw end (omega arith)) (λ l. omega (arith, total_rises o i m (le_of_suc-le-suc l))) (eq-or-lt_of_le h)

long_enough : (f : Part → ℕ) (n : ℕ) (ps : List Part) → ltb (length (filled n (map f ps))) (length ps) ≡ false
long_enough f n ps =
    le-ltb (length (filled n (map f ps))) (length ps)
    (omega (arith, length-append (map f ps) (replicate (n - length (map f ps)) 0), length-map ps f))

-- the Wh of a statement that is given are within the limit
pub within_limit : (a : Account) → Checked a → too_few_readings (days a) (shown a).readings ≡ false →
    total (statement_of a.weights (shown a)) (length (parts_of a.weights (shown a))) ≤ energy_most
within_limit a ok some =
    let two = ltb-false (how_many (shown a).readings.at (suc (days a))) 2 some in
    omega (arith, sums_up a.weights (shown a) (valid_of_sound a ok.sound) two, (sound_parts a ok.sound).energy)

pub in_full : (a : Account) → Checked a → too_few_readings (days a) (shown a).readings ≡ false →
    no_statement (statement_of a.weights (shown a)) (length (parts_of a.weights (shown a))) ≡ false
in_full a ok some =
    let two = ltb-false (how_many (shown a).readings.at (suc (days a))) 2 some in
    let ps = parts_of a.weights (shown a) in
    let o = statement_of a.weights (shown a) in
    let few = parts_fit a.weights (shown a) (days a) in
    let small : somewhere (λ i. ltb energy_most (get_or o.wh i 0)) (length ps) ≡ false =
    none_is _ (length ps) (λ i h. le-ltb energy_most (get_or o.wh i 0) (omega (arith, total_rises o (i + 1) (length ps) (omega arith), total_more o i, within_limit a ok some))) in
    simp (
      ne_eqb (length ps) 0 (λ none. omega (arith, (successive a.weights (shown a) two).not_empty)),
      le-ltb span_most (length ps) (omega (arith, few, (fit a ok.fits).most)),
      long_enough (λ (p : Part). p.from) (days a) ps,
      long_enough (λ (p : Part). p.to) (days a) ps,
      long_enough (λ (p : Part). p.wh) (days a) ps,
      small,
    )
