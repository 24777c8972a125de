-- `page::column` (K4): what is left of the column, stored from here, gives the whole column stored.
use Rattle.std.proofs.Common.{◌≡◌, ◌-◌, ◌<◌, ◌≤◌, length}
use Rattle.std.proofs.lemmas.List.Edits.{sets}
use Rattle.layout.specs.Text.{decimal}
use Rattle.page.specs.Page.{aligned}
use Rattle.page.proofs.column.Given as goal

abbrev pub invariant-loop-rest : goal.invariant-loop-rest
invariant-loop-rest l =
    record {
      some : l.at < l.end;
      room : length (decimal l.rest) ≤ l.end - l.at;
      inside : l.end ≤ length l.page;
      stored : sets l.page l.at (aligned (l.end - l.at) (decimal l.rest)) ≡ sets l.initial.page l.at (aligned l.width (decimal l.n));
    }

abbrev pub decreases-loop-rest : goal.decreases-loop-rest
decreases-loop-rest l = l.rest
