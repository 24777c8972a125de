-- `casefile::reader::Reader::cuts` meets its contract (Case file). Assumes nothing.
use Rattle.std.proofs.Common.{arith, refl, ◌∙◌, sym, length-set}
use Rattle.std.proofs.lemmas.Result.{err_from_is_err_and}
use Rattle.casefile.proofs.Faults.{section_stops}
use Rattle.casefile.proofs.Marked.{cuts_none, cut_is, cuts_more}
use Rattle.casefile.proofs.reader.Reader.cuts.Goals as goal

pub loop-init : goal.loop-init
loop-init c =
    let k = c.in_ok-count.ensures.reached in
    record { same = c.count.ensures.same; stands = omega (arith, k.stands); long = refl; read = cuts_none _ _ _ _ }

pub returns-in_err-boundary-clause-reached : goal.returns-in_err-boundary-clause-reached
returns-in_err-boundary-clause-reached c =
    let k = c.in_ok-count.ensures.reached in
    let v = c.loop.invariant in
    let p = err_from_is_err_and c.from_residual-in_err-boundary.result c.from_residual-in_err-boundary.ensures.1 in
    rw (p.1, p.2) (section_stops _ _ _ k.clean k.gives c.loop-test.true v.read.clean (sym (cut_is v.read) ∙ rw (v.same, v.stands) at c.in_err-boundary.ensures.reached))

pub loop-preserved : goal.loop-preserved
loop-preserved c =
    let v = c.loop.invariant in
    let b = rw v.same at c.in_ok-boundary.ensures in
    let at = rw v.stands at b.reached.gives.boundary_is in
    record {
      same = b.same;
      stands = omega (arith, b.reached.stands);
      long = simp length-set v.long;
      read = rw (c.with_cut.ensures, at) (cuts_more v.read (sym (cut_is v.read) ∙ rw v.stands at b.reached.clean));
    }
