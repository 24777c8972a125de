-- The tests that lead to each answer are the condition of one row of the table (`Table`), or of none (K2). Assumes nothing.
use Rattle.std.proofs.Common.{◌≡◌, refl, ap, ◌∙◌, arith, rules, sym, Err}
use denote.Enum.Bare.{same_true}
use Rattle.common.specs.contracts.refusal.Refusal.{the_type}
use Rattle.common.specs.Refusals.{number, at_zero}
use Rattle.casewriter.specs.Sections.{file_end}
use Rattle.casewriter.proofs.Table.{told_3, not_told_3, unfit_met, series_met, unsound_met, fitting, ready, passed, some, short_met, done_met}
use Rattle.casewriter.proofs.write_case.Goals as goal

pub returns-then-eq : goal.returns-then-eq
returns-then-eq c = rw c.into.ensures (unfit_met _ _ _ c.check_account-checked.ensures (told_3 _ _ (λ r. same_true the_type (search rules) _ _) _ (sym c.if-eq.ensures)))

pub returns-in-Err : goal.returns-in-Err
returns-in-Err c = series_met _ _ _ c.check_account-checked.ensures (not_told_3 _ _ refl _ (sym c.if-eq.ensures)) c.in-Err.ensures c.clear.ensures

pub returns-in_err-checked : goal.returns-in_err-checked
returns-in_err-checked c =
    let is : c.from_residual.result ≡ Err (at_zero c.in_err-checked.field-0.0) = search rules in
    let fits = not_told_3 _ _ refl c.check_account-checked.result (sym c.if-eq.ensures) in
    let told = sym (ap number c.in_err-checked.was) ∙ c.check_account-checked.ensures in
    rw is (unsound_met _ _ _ told (rw c.in_err-checked.was at fits) (ready c.in_default.ensures) (some c.in_err-checked.field-0.0))

pub file_end-end-requires : goal.file_end-end-requires
file_end-end-requires c =
    let f = fitting _ _ _ (passed c.in_ok-checked.was c.check_account-checked.ensures) in
    rw c.count_marks-m.ensures (f.means_few, f.readings_few, f.cuts_few)

pub fill-requires : goal.fill-requires
fill-requires c =
    record {
      as_long = (fitting c.args.means.now _ _ (passed c.in_ok-checked.was c.check_account-checked.ensures)).as_long;
      counted = c.count_marks-m.ensures;
      inside = omega (arith, c.file_end-end.ensures);
    }

pub returns-then-out-end : goal.returns-then-out-end
returns-then-out-end c =
    let end = c.file_end-end.ensures ∙ ap (file_end _) c.count_marks-m.ensures in
    rw c.into-then-out-end.ensures (short_met _ _ _ (passed c.in_ok-checked.was c.check_account-checked.ensures) (ready c.in_default.ensures) (omega arith))

pub returns : goal.returns
returns c =
    let end = c.file_end-end.ensures ∙ ap (file_end _) c.count_marks-m.ensures in
    rw end (done_met _ _ _ (passed c.in_ok-checked.was c.check_account-checked.ensures) (ready c.in_default.ensures) (omega arith) c.fill.ensures)
