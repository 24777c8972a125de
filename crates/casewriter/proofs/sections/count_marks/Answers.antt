-- One mark more counts, or does not (K2). Assumes nothing.
use Rattle.std.proofs.Common.{refl, arith}
use Rattle.common.specs.Below.{how_many}
use Rattle.casewriter.proofs.Listed.{once, many_more}
use Rattle.casewriter.proofs.sections.count_marks.Goals as goal

pub loop-mark-init : goal.loop-mark-init
unfolding how_many
loop-mark-init c = record { few_readings = omega arith; few_cuts = omega arith; readings_counted = refl; cuts_counted = refl }

pub loop-mark-preserved : goal.loop-mark-preserved
loop-mark-preserved c =
    let i = c.loop-mark.invariant in
    record {
      few_readings = omega (arith, once c.is_reading.result);
      few_cuts = omega (arith, once c.is_cut.result);
      readings_counted = many_more _ _ i.readings_counted c.is_reading.ensures c.from-readings.ensures;
      cuts_counted = many_more _ _ i.cuts_counted c.is_cut.ensures c.from-cuts.ensures;
    }
