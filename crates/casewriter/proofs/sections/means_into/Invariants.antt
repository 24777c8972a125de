-- After the count, the items of the first i means are stored (K2).
use Rattle.std.proofs.Common.{◌≡◌, ◌+◌}
use Rattle.std.specs.Prelude.{true}
use Rattle.std.proofs.lemmas.List.Edits.{sets}
use Rattle.casewriter.specs.File.{items, mean_item}
use Rattle.casewriter.proofs.sections.means_into.Given as goal

abbrev pub invariant-loop-i : goal.invariant-loop-i
invariant-loop-i l = l.out ≡ sets l.initial.out (l.at + 2) (items (λ j. true) (mean_item l.means) l.i)
