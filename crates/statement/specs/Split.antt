-- The split of a reading interval (Account and its calls, "Statement"): "between adjacent readings at p and q with counts
-- difference E, weight sum Z, a boundary k between them has count(p) + nearest(E × Zk / Z), Zk being the weights from day p
-- to day k-1. A reading's boundary has its count."
use Rattle.std.specs.Prelude.{ℕ, zero, suc, ◌+◌, ◌-◌, ◌*◌, cond, ◌&&◌, List, leb, length, get_or}
use Rattle.rounding.specs.Nearest.{nearest}
use Rattle.common.specs.Below.{first, last}
use Rattle.account.specs.Stands.{Readings}

-- the weights from day p to day k-1
unfoldable pub weight_sum : List ℕ → ℕ → ℕ → ℕ
weight_sum w p zero = 0
weight_sum w p (suc d) = weight_sum w p d + cond (leb p d) (get_or w d 0) 0

-- how a statement rounds E × Zk / Z
unfoldable pub rounded_share : ℕ → ℕ → ℕ → ℕ
rounded_share e zk z = nearest (e * zk) z

-- the adjacent readings between which boundary k lies, where it has none itself: the last before it, and the first at it or after it
abbrev pub earlier : Readings → ℕ → ℕ
earlier r k = last r.at k

abbrev pub later : ℕ → Readings → ℕ → ℕ
later n r k = first (λ j. leb k j && r.at j) (suc n)

-- what boundary k has between the readings at p and q
unfoldable pub between : List ℕ → Readings → ℕ → ℕ → ℕ → ℕ
between w r p q k = r.count p + rounded_share (r.count q - r.count p) (weight_sum w p k) (weight_sum w p q)

-- what boundary k has
unfoldable pub has : List ℕ → Readings → ℕ → ℕ
has w r k = cond (r.at k) (r.count k) (between w r (earlier r k) (later (length w) r k) k)
