-- `customer::sum_of` meets its contract (Customer value and daily amount): the library's sum of a list is the paper's. Assumes nothing.
use Rattle.std.proofs.Common.{rules, ◌≡◌, ℕ, ◌+◌, List, [], ◌∷◌, refl, ap, ◌∙◌}
use Rattle.std.specs.Prelude.{sum}
use Rattle.std.proofs.lemmas.List.Sums.{sum_by-cons}
use Rattle.common.specs.Lists.{sum_of}
use Rattle.customer.proofs.sum_of.Goals as goal

sum_is : (xs : List ℕ) → sum xs ≡ sum_of xs
unfolding sum_of
sum_is [] = refl
sum_is (x ∷ xs) = sum_by-cons (λ n. n) x xs ∙ ap (λ n. x + n) (sum_is xs)

pub returns : goal.returns
returns c = let plain : c.sum.result ≡ sum c.args.weights.now = search rules in plain ∙ sum_is c.args.weights.now
