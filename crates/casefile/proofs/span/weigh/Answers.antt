-- `casefile::span::weigh` meets its contract (Case file): the weights call has what it asks, and the rest of the slice is zero. Assumes nothing.
use Rattle.casefile.proofs.Weighing.{weighs}
use Rattle.casefile.proofs.span.weigh.Goals as goal

pub returns : goal.returns
returns c = weighs c.requires c.weights.ensures
