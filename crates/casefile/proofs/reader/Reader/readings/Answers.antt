-- `casefile::reader::Reader::readings` meets its contract (Case file). Assumes nothing.
use Prim.Native.Nat.{◌+◌, ◌≤◌}
use Rattle.std.proofs.Common.{arith, refl, ◌∙◌, ◌≡◌, sym, length, length-set}
use native.Mathlib.Nat.{add-zero}
use Rattle.std.proofs.lemmas.Result.{err_from_is_err_and}
use Rattle.casefile.specs.Case.{item_at, reading_count_at}
use Rattle.casefile.proofs.Faults.{section_stops}
use Rattle.casefile.proofs.Items.{readings_none, item_is, readings_more, clear_uncut}
use Rattle.casefile.proofs.reader.Reader.readings.Goals as goal

pub loop-init : goal.loop-init
loop-init c =
    let k = c.in_ok-count.ensures.reached in
    let counted : item_at 10 c.args.self.now.at 0 + 10 ≤ length c.args.self.now.file.now → c.first_count-first.result ≡ reading_count_at c.args.self.now.file.now c.args.self.now.at 0 =
    simp add-zero (rw (c.count.ensures.same, k.stands) at c.first_count-first.ensures) in
    record { same = c.count.ensures.same; stands = omega (arith, k.stands); counted = counted; rising = omega arith; marks = refl; counts = refl; read = readings_none _ _ _ _ _ _ counted }

pub returns-in_err-reading-clause-reached : goal.returns-in_err-reading-clause-reached
returns-in_err-reading-clause-reached c =
    let k = c.in_ok-count.ensures.reached in
    let v = c.loop.invariant in
    let p = err_from_is_err_and c.from_residual-in_err-reading.result c.from_residual-in_err-reading.ensures.1 in
    rw (p.1, p.2) (section_stops _ _ _ k.clean k.gives c.loop-test.true v.read.clean (sym (item_is v.read _ v.counted) ∙ rw (v.same, v.stands) at c.in_err-reading.ensures.reached))

pub loop-preserved : goal.loop-preserved
loop-preserved c =
    let v = c.loop.invariant in
    let b = rw v.same at c.in_ok-reading.ensures in
    let r = b.reached.gives in
    let boundary = rw v.stands at r.boundary_is in
    let count = rw v.stands at r.count_is in
    record {
      same = b.same;
      stands = omega (arith, b.reached.stands);
      counted = v.counted;
      rising = omega arith;
      marks = simp length-set v.marks;
      counts = simp length-set v.counts;
      read = rw (boundary, count) (readings_more v.read (clear_uncut c.requires.marks) (sym (item_is v.read _ v.counted) ∙ rw v.stands at b.reached.clean));
    }
