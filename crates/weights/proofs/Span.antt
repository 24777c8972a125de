-- The weights of a span (Temperature of a day): how many they are, and the weight of day k. Assumes nothing.
use mathlib.Core.Path.{◌≡◌}
use mathlib.Core.List.{List}
use Prim.Native.Nat.{ℕ, ◌-◌, ◌<◌}
use lib.IntN.{ℤ}
use lib.ListN.{length, get_or}
use Rattle.common.proofs.Lists.{list_of_length, list_of_at}
use Rattle.weights.specs.Weights.{day_weight, weights_of}

pub weights_length : (profile weekday : ℕ) (means : List ℤ) (calendar : List ℕ) → length (weights_of profile weekday means calendar) ≡ length means - 3
unfolding weights_of
weights_length profile weekday means calendar = list_of_length _ _

pub weights_at : (profile weekday : ℕ) (means : List ℤ) (calendar : List ℕ) (k : ℕ) → k < length means - 3
    → get_or (weights_of profile weekday means calendar) k 0 ≡ day_weight profile weekday means calendar k
unfolding weights_of
weights_at profile weekday means calendar k h = list_of_at 0 _ _ k h
