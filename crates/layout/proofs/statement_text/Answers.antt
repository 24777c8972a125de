-- `layout::statement_text` meets its contract (Case file): what the slices cut to the parts say. Assumes nothing.
use Rattle.std.proofs.Common.{rules, arith, ◌≡◌, false, sym, ◌∙◌}
use Rattle.std.proofs.lemmas.List.{length-take-le}
use mathlib.Core.Bool.{or-true}
use Rattle.statement.specs.Parts.{outputs}
use Rattle.layout.specs.Text.{no_statement}
use Rattle.layout.proofs.Laid.{none_laid, given_laid}
use Rattle.layout.proofs.Cut.{great_cut, text_cut}
use Rattle.layout.proofs.statement_text.Goals as goal

pub returns-then-too_great : goal.returns-then-too_great
returns-then-too_great c =
    let a = c.args in
    let o = outputs a.from.now a.to.now a.wh.now in
    let great = sym (great_cut a.parts o _ (length-take-le a.parts a.wh.now (omega arith))) ∙ sym c.too_great.ensures ∙ c.if-too_great.true in
    none_laid o a.parts a.out.now (simp (great, or-true))

pub returns : goal.returns
returns c =
    let a = c.args in
    let o = outputs a.from.now a.to.now a.wh.now in
    let great = sym (great_cut a.parts o _ (length-take-le a.parts a.wh.now (omega arith))) ∙ sym c.too_great.ensures ∙ c.if-too_great.false in
    let such : no_statement o a.parts ≡ false = search (rules, great) in
    given_laid o a.parts _ _ _ such (rw (text_cut a.parts o _ (length-take-le a.parts a.from.now (omega arith))) at c.text.ensures)
