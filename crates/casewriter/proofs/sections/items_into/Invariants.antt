-- The items of the boundaries below k are stored, and each kind goes on behind them (K2).
use Rattle.std.proofs.Common.{◌≡◌, ◌+◌, ◌≤◌, length, drop}
use Rattle.std.specs.Iterator.Adapters.{zip_first, zip_second, enumerate_source, enumerate_count}
use Rattle.std.specs.Slice.Iter.{iter_rest}
use Rattle.account.specs.Slices.{reads_at}
use Rattle.casewriter.specs.File.{items, reading_item, cut_item, cuts_at}
use Rattle.casewriter.specs.Sections.{both_stored}
use Rattle.casewriter.proofs.sections.items_into.Given as goal

abbrev pub invariant-loop-k : goal.invariant-loop-k
invariant-loop-k l =
    let k = enumerate_count l.k-iterator in
    record {
      inside : k ≤ length l.marks;
      marks_left : iter_rest (zip_first (enumerate_source l.k-iterator)) ≡ drop k l.marks;
      counts_left : iter_rest (zip_second (enumerate_source l.k-iterator)) ≡ drop k l.counts;
      stored : l.out ≡ both_stored l.marks l.counts l.initial.out l.reading l.cut k;
      reading : l.r ≡ l.reading + length (items (reads_at l.marks) (reading_item l.counts) k);
      cut : l.c ≡ l.cut + length (items (cuts_at l.marks) cut_item k);
    }
