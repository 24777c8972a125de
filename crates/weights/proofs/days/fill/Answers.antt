-- `weights::days::fill` meets its contract (Temperature of a day, K1): the elements are the weights of all days.
use Rattle.std.proofs.Common.{arith, ◌∙◌}
use Rattle.common.proofs.Filled.{done}
use Rattle.weights.specs.Weights.{weights_of}
use Rattle.weights.proofs.Span.{weights_length, weights_at}
use Rattle.weights.proofs.days.fill.Goals as goal

pub returns : goal.returns
returns c =
    let s = c.args in
    done c.loop-k.invariant (omega arith) (weights_of s.profile s.weekday s.means.now s.calendar.now)
    (weights_length s.profile s.weekday s.means.now s.calendar.now ∙ omega arith)
    (λ j h. weights_at s.profile s.weekday s.means.now s.calendar.now j (omega arith))
