-- Two bytes where the mark has a cut (K2). Assumes nothing.
use Rattle.std.proofs.Common.{sym, arith}
use Rattle.casewriter.proofs.Sizes.{bytes_long}
use Rattle.casewriter.proofs.sections.cut_into.Goals as goal

pub number-requires : goal.number-requires
number-requires c = let room = rw (sym c.if-is_cut.ensures) at c.requires in (omega arith, omega (arith, bytes_long 2 c.args.k))

pub returns-then-is_cut : goal.returns-then-is_cut
returns-then-is_cut c = rw (sym c.if-is_cut.ensures) (record { ends = omega (arith, bytes_long 2 c.args.k); stored = c.number.ensures })
