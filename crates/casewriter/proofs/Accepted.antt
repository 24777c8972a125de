-- What a write that is done shows (K2): no row of the table holds, and the slice begins with the file. Assumes nothing.
use Prim.Native.Nat.{ℕ, suc, ◌-◌, ◌≤◌, ◌<◌}
use mathlib.Core.Path.{◌≡◌, refl, sym, ◌∙◌, ap}
use mathlib.Core.Bool.{false, not}
use mathlib.Core.List.{List, ◌++◌}
use native.Mathlib.Omega.{arith}
use borrow.Author.Tests.{ltb-false, leb-false, not-false}
use lib.Dec.{leb, ltb}
use lib.IntN.{ℤ}
use lib.ListN.{length, take, drop, replicate}
use lib.Seq.{take_at}
use Rattle.common.proofs.Rows.{rows_none}
use Rattle.profile.specs.Limits.{profile_count}
use Rattle.weights.specs.Means.{some_out}
use Rattle.weights.proofs.Span.{weights_length}
use Rattle.account.specs.Account.{days, unfit_lengths, sound}
use Rattle.account.specs.Slices.{Checked}
use Rattle.casewriter.specs.File.{file_of}
use Rattle.casewriter.specs.Writer.{account_given, Ruling, WriteMet}

-- rows 3, 1, 2, 4 and 5 do not hold
pub record Accepted (profile weekday : ℕ) (means : List ℤ) (marks counts : List ℕ) : Type 0 where
  pub profile_known : profile < profile_count
  pub weekday_known : weekday ≤ 6
  pub in_range_lem : some_out means ≡ false
  pub checked : Checked (account_given profile weekday means marks counts)

pub given_days : (profile weekday : ℕ) (means : List ℤ) (marks counts : List ℕ) → days (account_given profile weekday means marks counts) ≡ length means - 3
given_days profile weekday means marks counts = weights_length profile weekday means (replicate (length means - 3) 7)

module _ {profile weekday : ℕ} {means means_after : List ℤ} {marks counts before after marksAfter countsAfter : List ℕ} {placed size : ℕ}
    (met : WriteMet profile weekday means marks counts before 0 placed size after means_after marksAfter countsAfter) where
  abbrev file : List ℕ
  file = file_of profile weekday means marks counts

  record Rows : Type 0 where
    three : unfit_lengths (length means - 3) (length marks) (length counts) ≡ false
    one : leb profile_count profile ≡ false
    two : ltb 6 weekday ≡ false
    four : some_out means ≡ false
    five : not (sound (account_given profile weekday means marks counts)) ≡ false
    fifteen : ltb (length before) (length file) ≡ false

  rows : Rows
  rows =
      let number : Ruling → ℕ = λ r. r.number in
      let some : (n : ℕ) → (suc n ≡ 0 → ⊥) = λ n z. omega arith in
      let r3 = rows_none number (unfit_lengths (length means - 3) (length marks) (length counts)) _ _ (some 2) (sym met.answers) in
      let r1 = rows_none number (leb profile_count profile) _ _ (some 0) r3.1 in
      let r2 = rows_none number (ltb 6 weekday) _ _ (some 1) r1.1 in
      let r4 = rows_none number (some_out means) _ _ (some 3) r2.1 in
      let r5 = rows_none number (not (sound (account_given profile weekday means marks counts))) _ _ (some 4) r4.1 in
      let r15 = rows_none number (ltb (length before) (length file)) _ _ (some 14) r5.1 in
      record { three = r3.0; one = r1.0; two = r2.0; four = r4.0; five = r5.0; fifteen = r15.0 }

  pub accepted : Accepted profile weekday means marks counts
  accepted =
      record {
        profile_known = leb-false _ _ rows.one;
        weekday_known = ltb-false _ _ rows.two;
        in_range_lem = rows.four;
        checked =
            record {
              fits = ap (λ (n : ℕ). unfit_lengths n (length marks) (length counts)) (given_days profile weekday means marks counts) ∙ rows.three;
              sound = not-false _ rows.five;
            };
      }

  pub size_is : size ≡ length file
  size_is = met.gives ∙ rw (rows.three, rows.one, rows.two, rows.four, rows.five, rows.fifteen) refl

  pub after_is : after ≡ file ++ drop (length file) before
  after_is = met.writes ∙ rw (rows.three, rows.one, rows.two, rows.four, rows.five, rows.fifteen) refl

  pub begins : take size after ≡ file
  begins = ap (take size) after_is ∙ take_at file (drop (length file) before) size (sym size_is)
