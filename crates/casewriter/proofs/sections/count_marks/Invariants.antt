-- The readings and the cuts below the boundary are counted (K2).
use Rattle.std.proofs.Common.{◌≡◌, ◌≤◌}
use Rattle.common.specs.Below.{how_many}
use Rattle.account.specs.Slices.{reads_at}
use Rattle.casewriter.specs.File.{cuts_at}
use Rattle.casewriter.proofs.sections.count_marks.Given as goal

abbrev pub invariant-loop-mark : goal.invariant-loop-mark
invariant-loop-mark l = record {
  few_readings : l.readings ≤ l.mark-index;
  few_cuts : l.cuts ≤ l.mark-index;
  readings_counted : l.readings ≡ how_many (reads_at l.marks) l.mark-index;
  cuts_counted : l.cuts ≡ how_many (cuts_at l.marks) l.mark-index;
}
