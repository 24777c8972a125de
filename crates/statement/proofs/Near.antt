-- Each part is less than 1 Wh from its exact share (Account and its calls, "Statement"): the closeness of shares, for the rule itself.
-- Assumes nothing.
use mathlib.Core.Path.{◌≡◌, sym, ◌∙◌, subst₂}
use mathlib.Core.List.{List}
use mathlib.Core.Logic.{◌⊎◌, inl, inr, ⊎_elim}
use Prim.Native.Nat.{ℕ, ◌+◌, ◌-◌, ◌*◌, ◌/◌, ◌≤◌, ◌<◌}
use native.Mathlib.Nat.{div-mul-le_self, lt-div-mul-add, div-eq_of_lt-le}
use native.Mathlib.Decide.{dec_le}
use native.Mathlib.Omega.{arith}
use lib.ListN.{length}
use Rattle.rounding.specs.Nearest.{IsNearest}
use Rattle.rounding.proofs.Laws.{nearest_is}
use Rattle.account.specs.Stands.{Readings}
use Rattle.statement.specs.Split.{weight_sum, rounded_share, between, has}
use Rattle.statement.specs.Shares.{Adjacent, NearTo, NearShare}
use Rattle.statement.specs.Facts.{Valid, DownOrUp, NearForAll}
use Rattle.statement.proofs.Order.{LiesBetween, earlier_is, later_is}
use Rattle.statement.proofs.Sums.{sum_splits, sum_positive}
use Rattle.statement.proofs.Has.{share_mono, has_between}

-- two roundings, m and d more, for x and y more: d is less than 1 from what y adds
differ : (e x y z m d : ℕ) → IsNearest (e * x) z m → IsNearest (e * (x + y)) z (m + d) → NearTo d z e y
differ e x y z m d one other = record { not_above = omega arith; not_below = omega arith }

-- what a share grows by is near to the exact share of what its part grows by
pub share_near : (e x y z : ℕ) → 0 < z → NearTo (rounded_share e (x + y) z - rounded_share e x z) z e y
unfolding rounded_share
share_near e x y z pos =
    let one = nearest_is (e * x) z pos in
    let other = nearest_is (e * (x + y)) z pos in
    let up : rounded_share e (x + y) z ≡ rounded_share e x z + (rounded_share e (x + y) z - rounded_share e x z) = omega (arith, share_mono e x (x + y) z (omega arith)) in
    differ e x y z _ _ one (rw up at other)

pub near : (w : List ℕ) (r : Readings) → Valid w r → (p q : ℕ) → Adjacent r.at p q → q ≤ length w →
    (f t : ℕ) → p ≤ f → f ≤ t → t ≤ q → NearShare w r p q f t (has w r t - has w r f)
unfolding between
near w r valid p q a inside f t low le high =
    let e : ℕ = r.count q - r.count p in
    let z : ℕ = weight_sum w p q in
    let at_f = has_between w r valid p q a inside f low (omega arith) in
    let at-t = has_between w r valid p q a inside t (omega arith) high in
    let grows : has w r t - has w r f ≡ rounded_share e (weight_sum w p f + weight_sum w f t) z - rounded_share e (weight_sum w p f) z =
    rw (← sum_splits w p f t low le) (omega arith) in
    rw grows (share_near e _ _ z (sum_positive w valid.weights p q a.ordered inside))

-- x / z rounded down or up is less than 1 from x / z
down_near : (x z m : ℕ) → 0 < z → m ≡ x / z → (m * z < x + z) × (x < m * z + z)
down_near x z m pos is = rw is (omega (arith, div-mul-le_self x z, pos), lt-div-mul-add pos)

up_near : (x z m : ℕ) → 0 < z → m ≡ (x + (z - 1)) / z → (m * z < x + z) × (x < m * z + z)
up_near x z m pos is =
    let low = div-mul-le_self (x + (z - 1)) z in
    let high : x + (z - 1) < (x + (z - 1)) / z * z + z = lt-div-mul-add pos in
    rw is (omega arith, omega arith)

-- and so is nothing else
near_either : (x z m : ℕ) → 0 < z → m * z < x + z → x < m * z + z → (m ≡ x / z) ⊎ (m ≡ (x + (z - 1)) / z)
near_either x z m pos above below = either (dec_le (m * z) x)
  where
    either : Dec (m * z ≤ x) → (m ≡ x / z) ⊎ (m ≡ (x + (z - 1)) / z)
    either (yes le) = inl (sym (div-eq_of_lt-le z le (omega arith)))
    either (no gt) = inr (sym (div-eq_of_lt-le z (omega arith) (omega arith)))

pub down_or_up : DownOrUp
down_or_up w r p q f t wh pos = (
  λ near. near_either _ _ wh pos near.not_above near.not_below,
  ⊎_elim (λ is. let n = down_near _ _ wh pos is in record { not_above = n.0; not_below = n.1 })
      (λ is. let n = up_near _ _ wh pos is in record { not_above = n.0; not_below = n.1 }),
)

pub near_for_all : NearForAll
near_for_all w r f t wh some near p q a starts ends =
    let n : ℕ = near.q + q in
    let its : LiesBetween n r near.p near.q t = record { adjacent = near.adjacent; after = omega arith; upto = near.ends; inside = omega arith } in
    let this : LiesBetween n r p q t = record { adjacent = a; after = omega arith; upto = ends; inside = omega arith } in
    subst₂ (λ i j. NearShare w r i j f t wh) (sym (earlier_is n r _ _ t its) ∙ earlier_is n r p q t this) (sym (later_is n r _ _ t its) ∙ later_is n r p q t this) near.near
