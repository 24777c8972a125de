-- `casefile::bytes::number64` meets its contract (Case file). Assumes nothing.
use Rattle.std.proofs.Common.{arith}
use native.Mathlib.Nat.{add_assoc}
use Rattle.casefile.specs.Bytes.{little}
use Rattle.casefile.proofs.bytes.number64.Goals as goal

pub returns : goal.returns
unfolding little
returns c = simp add_assoc (omega arith)
