-- What "sound" asks of the readings alone, and that an accepted reading and a withdraw keep it (Account and its calls, "Sound").
-- Assumes nothing.
use Prim.Native.Nat.{ℕ, suc, ◌≤◌, ◌<◌}
use mathlib.Core.Path.{◌≡◌, refl}
use mathlib.Core.Bool.{Bool, true, false, cond, ◌||◌}
use native.Mathlib.Omega.{arith}
use lib.Dec.{eqb}
use borrow.Author.Tests.{eqb-true, ltb-false}
use Rattle.common.specs.Below.{everywhere}
use Rattle.account.specs.Stands.{Readings, nothing, put, with_reading, without_reading, never_falling, last_less_first}
use Rattle.account.specs.Account.{energy_most}
use Rattle.account.specs.Refusals.{out_of_order, too_much}
use Rattle.common.proofs.Below.{clash, every_at, every_is}
use Rattle.account.proofs.Order.{zero_at}
use Rattle.account.proofs.Pairs.{pairs, neighbours, Within, fewer_rise, fewer_less, more_rise}

pub record SoundReadings (n : ℕ) (r : Readings) : Type 0 where
  pub zeros : everywhere (zero_at r) (suc n) ≡ true
  pub order : never_falling r (suc n) ≡ true
  pub energy : last_less_first n r ≤ energy_most

module _ (n : ℕ) (r : Readings) where
  zero_count : everywhere (zero_at r) (suc n) ≡ true → (k : ℕ) → k < suc n → r.at k ≡ false → r.count k ≡ 0
  zero_count zeros k lt none = eqb-true (r.count k) 0 (rw none at (every_at (zero_at r) (suc n) zeros k lt))

module _ (n : ℕ) (r : Readings) (good : SoundReadings n r) (k : ℕ) where
  zeros_put : (t : Bool) (v : ℕ) → (t || eqb v 0) ≡ true →
      everywhere (λ j. put r.at k t j || eqb (put r.count k v j) 0) (suc n) ≡ true
  zeros_put t v here = every_is _ _ λ j lt. go (eqb j k) j (every_at (zero_at r) (suc n) good.zeros j lt)
    where
      go : (b : Bool) (j : ℕ) → zero_at r j ≡ true → (cond b t (r.at j) || eqb (cond b v (r.count j)) 0) ≡ true
      go true j h = here
      go false j h = h

  pub reading_sound : (v : ℕ) → out_of_order n r k v ≡ false → too_much n r k v ≡ false → SoundReadings n (with_reading r k v)
  reading_sound v fits small =
      record {
        zeros = zeros_put true v refl;
        order =
            neighbours (with_reading r k v) (suc n)
            (more_rise n r k v fits (pairs r (suc n) good.order (suc n) (omega arith)));
        energy = ltb-false energy_most (last_less_first n (with_reading r k v)) small;
      }

  pub withdraw_sound : SoundReadings n (without_reading r k)
  withdraw_sound =
      let zeros = zeros_put false 0 refl in
      let zero-at = zero_count n (without_reading r k) zeros 0 (omega arith) in
      let rises = pairs r (suc n) good.order (suc n) (omega arith) in
      record {
        zeros = zeros;
        order = neighbours (without_reading r k) (suc n) (fewer_rise (without_reading r k) r fewer (suc n) rises);
        energy = omega (arith, fewer_less (without_reading r k) r fewer n zero-at rises, good.energy);
      }
    where
      fewer : Within (without_reading r k) r
      fewer = record { there = λ j. there (eqb j k) j; same = λ j. same (eqb j k) j }
        where
          there : (b : Bool) (j : ℕ) → cond b false (r.at j) ≡ true → r.at j ≡ true
          there true j h = absurd (clash h refl)
          there false j h = h

          same : (b : Bool) (j : ℕ) → cond b false (r.at j) ≡ true → cond b 0 (r.count j) ≡ r.count j
          same true j h = absurd (clash h refl)
          same false j h = refl

pub nothing_sound : (n : ℕ) → SoundReadings n nothing.readings
unfolding last_less_first
nothing_sound n =
    record {
      zeros = every_is _ _ (λ k h. refl);
      order = neighbours nothing.readings (suc n) (λ j k le lt at_j at-k. absurd (clash at_j refl));
      energy = omega arith;
    }
