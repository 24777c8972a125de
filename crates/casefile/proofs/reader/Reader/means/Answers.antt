-- `casefile::reader::Reader::means` meets its contract (Case file). Assumes nothing.
use Rattle.std.proofs.Common.{rules, arith, length-take}
use Rattle.std.specs.Int.{w16}
use Rattle.std.proofs.lemmas.Int.{to_z-of_z}
use Rattle.std.proofs.lemmas.Result.{err_from_is_err_and}
use Rattle.casefile.specs.Faults.{mean_fault_at}
use Rattle.casefile.proofs.Faults.{first_is}
use Rattle.casefile.proofs.Means.{means_none, means_more}
use Rattle.casefile.proofs.reader.Reader.means.Goals as goal

pub loop-mean-init : goal.loop-mean-init
loop-mean-init c =
    let k = c.in_ok-count.ensures.reached in
    record { same = c.means_count.ensures.same; stands = omega (arith, k.stands); read = means_none _ _ _ }

pub returns-in_err-mean-clause-reached : goal.returns-in_err-mean-clause-reached
returns-in_err-mean-clause-reached c =
    let k = c.in_ok-count.ensures.reached in
    let v = c.loop-mean.invariant in
    let p = err_from_is_err_and c.from_residual-in_err-mean.result c.from_residual-in_err-mean.ensures.1 in
    rw (p.1, p.2, k.clean, ← k.gives) (first_is (mean_fault_at c.args.self.now.file.now c.args.self.now.at) c.in_ok-count.count c.loop-mean.mean-index (omega (arith, length-take c.in_ok-count.count c.args.means.now)) v.read.clean (rw (v.same, v.stands) at c.in_err-mean.ensures.reached))

pub loop-mean-preserved : goal.loop-mean-preserved
loop-mean-preserved c =
    let v = c.loop-mean.invariant in
    let b = rw v.same at c.in_ok-mean.ensures in
    let mean = rw v.stands at b.reached.gives in
    record {
      same = b.same;
      stands = omega (arith, b.reached.stands);
      read = rw (to_z-of_z w16 c.in_ok-mean.field-0 (search rules), mean) (means_more v.read (omega arith) (rw v.stands at b.reached.clean));
    }
