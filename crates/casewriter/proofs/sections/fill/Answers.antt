-- The stores, one part after the other, are the file stored (K2). Assumes nothing.
use Rattle.casewriter.proofs.Stored.{file_stored}
use Rattle.casewriter.proofs.sections.fill.Goals as goal

pub returns : goal.returns
returns c =
    let a = c.args in
    file_stored a.profile a.weekday a.means.now a.marks.now a.counts.now a.out.now a.m c.requires.counted
    c.means_into.ensures
    c.number.ensures
    c.number-2.ensures
    c.items_into.ensures
