-- `layout::Parts::lines` (Case file): the lines of the parts passed are laid out, in at most 63 bytes each.
use Rattle.std.proofs.Common.{◌≤◌, ◌+◌, ◌*◌}
use Rattle.layout.specs.Text.{LaidOut, part_lines}
use Rattle.layout.specs.Parts.{held}
use Rattle.layout.proofs.Parts.lines.Given as goal

abbrev pub invariant-loop-i : goal.invariant-loop-i
invariant-loop-i l = LaidOut l.at (part_lines (held l.self) l.i) l.initial.out l.next l.out × (l.next ≤ l.at + 63 * l.i)
