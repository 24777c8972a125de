-- `statement::cut_count` meets its contract (Account and its calls): a share is at most e. Assumes nothing.
use Rattle.std.proofs.Common.{arith}
use Rattle.statement.proofs.CodeSums.{share_most}
use Rattle.statement.proofs.cut_count.Goals as goal

pub overflow_add-result : goal.overflow_add-result
overflow_add-result c = omega (arith, share_most c.args.e c.args.zk c.args.z c.requires.positive c.requires.share)
