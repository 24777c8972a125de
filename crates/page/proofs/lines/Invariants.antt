-- `page::lines` (K4): the page begins with the heading and the lines of the parts passed.
use Rattle.std.proofs.Common.{◌≡◌, take}
use Rattle.statement.specs.Shares.{total}
use Rattle.page.specs.Page.{page_text, page_length}
use Rattle.layout.specs.Parts.{held}
use Rattle.page.proofs.lines.Given as goal

abbrev pub invariant-loop-i : goal.invariant-loop-i
invariant-loop-i l =
    record {
      sum : l.sum ≡ total (held l.parts) l.i;
      front : take (page_length l.i) l.page ≡ page_text (held l.parts) l.i;
    }
