-- Of the cuts, those before the counter have no fault and are put into the marks; the reader stands at the next.
use Rattle.std.proofs.Common.{◌≡◌, length}
use Rattle.casefile.specs.Case.{item_at}
use Rattle.casefile.proofs.Marked.{CutsRead}
use Rattle.casefile.proofs.reader.Reader.cuts.Given as goal

abbrev pub invariant-loop : goal.invariant-loop
invariant-loop l = record {
  same : l.self.file ≡ l.fn.self.file;
  stands : l.self.at ≡ item_at 2 l.fn.self.at l.counter;
  long : length l.marks ≡ length l.fn.marks;
  read : CutsRead l.fn.self.file.now l.fn.self.at l.days l.fn.marks l.marks l.low l.counter;
}
