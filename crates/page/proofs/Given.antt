-- A page that is given (K4): what the account then is, and what the page holds. Assumes nothing.
use Prim.Native.Nat.{ℕ}
use mathlib.Core.Path.{◌≡◌, sym}
use mathlib.Core.Bool.{false, not}
use mathlib.Core.List.{List}
use native.Mathlib.Omega.{arith}
use borrow.Author.Tests.{not-false}
use lib.Dec.{eqb}
use lib.ListN.{length}
use Rattle.common.proofs.Rows.{rows_none}
use Rattle.account.specs.Account.{Account, days, shown, unfit, sound}
use Rattle.account.specs.Slices.{Checked}
use Rattle.statement.specs.Parts.{parts_of, statement_of}
use Rattle.statement.specs.Call.{too_few_readings}
use Rattle.page.specs.Page.{page_text, page_length}
use Rattle.page.specs.Call.{Ruling, PageMet}

-- what an answer of 0 says
pub record Given (a : Account) (given : ℕ) (page : List ℕ) : Type 0 where
  pub checked : Checked a
  pub readings : too_few_readings (days a) (shown a).readings ≡ false
  pub size : given ≡ page_length (length (parts_of a.weights (shown a)))
  pub text : page ≡ page_text (statement_of a.weights (shown a)) (length (parts_of a.weights (shown a)))

pub page_given : (a after : Account) (lent page : List ℕ) (given : ℕ) → PageMet a lent 0 given after page → Given a given page
page_given a after lent page given met =
    let number : Ruling → ℕ = λ r. r.number in
    let r3 = rows_none number (unfit a) _ _ (λ e. omega arith) (sym met.answers) in
    let r5 = rows_none number (not (sound a)) _ _ (λ e. omega arith) r3.1 in
    let r11 = rows_none number (too_few_readings (days a) (shown a).readings) _ _ (λ e. omega arith) r5.1 in
    let long = rows_none number (not (eqb (length lent) (page_length (length (parts_of a.weights (shown a)))))) _ _ (λ e. omega arith) r11.1 in
    record {
      checked = record { fits = r3.0; sound = not-false (sound a) r5.0 };
      readings = r11.0;
      size = rw (r3.0, r5.0, r11.0, long.0) at met.gives;
      text = rw (r3.0, r5.0, r11.0, long.0) at met.writes;
    }
