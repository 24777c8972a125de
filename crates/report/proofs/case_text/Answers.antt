-- `report::case_text` meets its contract (Case file). Assumes nothing.
use Rattle.report.proofs.Taken.{taken_says, refused_says}
use Rattle.report.proofs.Fits.{text_met}
use Rattle.report.proofs.case_text.Goals as goal

pub returns-in-Ok-clause-case_text_met : goal.returns-in-Ok-clause-case_text_met
returns-in-Ok-clause-case_text_met c =
    let m = c.in-Ok.ensures in
    text_met _ _ _ _ _ _ _ c.account_text.ensures.text_met.prints (taken_says _ _ _ _ m) m.writes

pub returns-in-Err-clause-case_text_met : goal.returns-in-Err-clause-case_text_met
returns-in-Err-clause-case_text_met c =
    let m = c.in-Err.ensures in
    text_met _ _ _ _ _ _ _ (rw c.number.ensures at c.refusal_text.ensures) (refused_says _ _ _ _ _ m) m.writes
