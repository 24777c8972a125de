-- Of the means, those before the index have no fault and stand in the buffer; the reader stands at the next.
use Rattle.std.proofs.Common.{◌≡◌}
use Rattle.casefile.specs.Case.{item_at}
use Rattle.casefile.proofs.Means.{MeansRead}
use Rattle.casefile.proofs.reader.Reader.means.Given as goal

abbrev pub invariant-loop-mean : goal.invariant-loop-mean
invariant-loop-mean l = record {
  same : l.self.file ≡ l.fn.self.file;
  stands : l.self.at ≡ item_at 2 l.fn.self.at l.mean-index;
  read : MeansRead l.fn.self.file.now l.fn.self.at l.mean-items l.mean-index;
}
