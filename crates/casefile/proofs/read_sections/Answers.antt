-- `casefile::read_sections` meets its contract (Case file): the weights of a file without a fault. Assumes nothing.
use Rattle.casefile.proofs.Chained.{weighable, file_filled}
use Rattle.casefile.proofs.read_sections.Goals as goal

pub weigh-requires : goal.weigh-requires
weigh-requires c =
    let f = c.in_ok-profile.ensures.reached in
    let m = rw c.first_bytes.ensures.same at c.in_ok-days.ensures.reached in
    let r = rw (c.means.ensures.same, c.first_bytes.ensures.same) at c.in_ok-readings.ensures.reached in
    let k = rw (c.readings.ensures.same, c.means.ensures.same, c.first_bytes.ensures.same) at c.in_ok-cuts.ensures.reached in
    let e = rw (c.cuts.ensures.same, c.readings.ensures.same, c.means.ensures.same, c.first_bytes.ensures.same) at c.in_ok-ended.ensures in
    rw (f.gives.0, f.gives.1) (weighable _ f m r k c.requires e.clean c.means.auto.means)

pub returns : goal.returns
returns c =
    let f = c.in_ok-profile.ensures.reached in
    let m = rw c.first_bytes.ensures.same at c.in_ok-days.ensures.reached in
    let r = rw (c.means.ensures.same, c.first_bytes.ensures.same) at c.in_ok-readings.ensures.reached in
    let k = rw (c.readings.ensures.same, c.means.ensures.same, c.first_bytes.ensures.same) at c.in_ok-cuts.ensures.reached in
    let e = rw (c.cuts.ensures.same, c.readings.ensures.same, c.means.ensures.same, c.first_bytes.ensures.same) at c.in_ok-ended.ensures in
    file_filled _ f m r k c.requires e.clean c.means.auto.means (rw (f.gives.0, f.gives.1) at c.weigh.ensures)
