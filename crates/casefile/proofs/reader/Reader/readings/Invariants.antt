-- Of the readings, those before the counter have no fault and are put into marks and counts; the reader stands at the next.
use Rattle.std.proofs.Common.{◌≡◌, ◌+◌, ◌≤◌, length}
use Rattle.casefile.specs.Case.{item_at, reading_count_at}
use Rattle.casefile.proofs.Items.{ReadingsRead}
use Rattle.casefile.proofs.reader.Reader.readings.Given as goal

abbrev pub invariant-loop : goal.invariant-loop
invariant-loop l = record {
  same : l.self.file ≡ l.fn.self.file;
  stands : l.self.at ≡ item_at 10 l.fn.self.at l.counter;
  counted : item_at 10 l.fn.self.at 0 + 10 ≤ length l.fn.self.file.now → l.first ≡ reading_count_at l.fn.self.file.now l.fn.self.at 0;
  rising : l.first ≤ l.last;
  marks : length l.marks ≡ length l.fn.marks;
  counts : length l.counts ≡ length l.fn.counts;
  read : ReadingsRead l.fn.self.file.now l.fn.self.at l.days l.fn.marks l.fn.counts l.marks l.counts l.low l.last l.counter;
}
