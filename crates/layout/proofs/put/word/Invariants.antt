-- `layout::put::word` (Case file): the bytes passed are laid out.
use Rattle.std.proofs.Common.{take}
use Rattle.layout.specs.Text.{LaidOut}
use Rattle.layout.proofs.put.word.Given as goal

abbrev pub invariant-loop-b : goal.invariant-loop-b
invariant-loop-b l = LaidOut l.at (take l.b-index l.text) l.initial.out l.next l.out
