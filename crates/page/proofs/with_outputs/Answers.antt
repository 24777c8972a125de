-- `page::with_outputs` meets its contract (K4): what the statement call answers, row by row, then the page of its parts. Assumes nothing.
use mathlib.Core.Path.{refl, sym, ap, ◌∙◌}
use Rattle.account.specs.Account.{lent}
use Rattle.statement.specs.Parts.{outputs}
use Rattle.page.specs.Call.{Ruling}
use Rattle.page.proofs.Table.{refused}
use Rattle.page.proofs.Cut.{told_cut}
use Rattle.page.proofs.with_outputs.Goals as goal

pub laid_out-requires : goal.laid_out-requires
laid_out-requires c =
    let a = c.args in
    (told_cut (lent a.account) (outputs a.from.now a.to.now a.wh.now) c.requires _ _ c.in-Ok.ensures a.page.now).1

pub returns-in-Ok : goal.returns-in-Ok
returns-in-Ok c =
    let a = c.args in
    let laid = c.laid_out.ensures in
    let is = (told_cut (lent a.account) (outputs a.from.now a.to.now a.wh.now) c.requires _ _ c.in-Ok.ensures a.page.now).0 in
    record {
      answers = laid.answers ∙ ap (λ (r : Ruling). r.number) (sym is);
      gives = laid.gives ∙ ap (λ (r : Ruling). r.size) (sym is);
      stays = refl;
      writes = laid.writes ∙ ap (λ (r : Ruling). r.memory) (sym is);
    }

pub returns-else-eq : goal.returns-else-eq
returns-else-eq c =
    let a = c.args in
    refused (lent a.account) (outputs a.from.now a.to.now a.wh.now) c.requires _ _ c.in-Err.ensures (sym c.eq.ensures ∙ c.if-eq.false) a.page.now
