-- Which readings enclose a boundary (Account and its calls, "Statement"): adjacent readings, earlier and later, first and last. Assumes nothing.
use mathlib.Core.Path.{◌≡◌}
use mathlib.Core.Bool.{Bool, true, ◌&&◌}
use mathlib.Core.List.{List}
use Prim.Native.Nat.{ℕ, suc, ◌≤◌, ◌<◌}
use native.Mathlib.Omega.{arith}
use lib.Dec.{leb}
use lib.ListN.{length}
use borrow.Author.Tests.{le-leb, leb-true}
use Rattle.common.specs.Below.{how_many}
use Rattle.account.specs.Stands.{Readings, first_reading, last_reading}
use Rattle.account.specs.Account.{Account, shown, sound}
use Rattle.common.proofs.Below.{IsFirst, IsLast, found, both, clash, refuted, first_found, first_is, last_found, last_is}
use Rattle.account.proofs.Pairs.{pairs, neighbours}
use Rattle.account.proofs.Sound.{sound_parts}
use Rattle.statement.specs.Split.{earlier, later}
use Rattle.statement.specs.Shares.{Adjacent}
use Rattle.statement.specs.Facts.{Valid, EveryValid}
use Rattle.statement.proofs.Sums.{weight_positive}

pub valid_of_sound : (a : Account) → sound a ≡ true → Valid a.weights (shown a).readings
valid_of_sound a h = let s = sound_parts a h in record { weights = weight_positive a.weights s.weights; rises = s.order }

pub every_valid : EveryValid
every_valid w r above rises = record { weights = above; rises = neighbours r (suc (length w)) (λ p q le lt. rises p q le (omega arith)) }

-- p and q are the adjacent readings with p < k ≤ q, in an account of n days
pub record LiesBetween (n : ℕ) (r : Readings) (p q k : ℕ) : Type 0 where
  pub adjacent : Adjacent r.at p q
  pub after : p < k
  pub upto : k ≤ q
  pub inside : q ≤ n

module _ (n : ℕ) (r : Readings) where
  pub earlier_is : (p q k : ℕ) → LiesBetween n r p q k → earlier r k ≡ p
  earlier_is p q k e =
      last_is r.at
      (record { below = e.after; holds = e.adjacent.at_p; none_after = λ j lo hi. e.adjacent.none_between j lo (omega arith) })

  pub later_is : (p q k : ℕ) → LiesBetween n r p q k → later n r k ≡ q
  later_is p q k e =
      first_is (λ j. leb k j && r.at j)
      (record {
        below = omega arith;
        holds = rw (le-leb k q e.upto) e.adjacent.at_q;
        none_before =
            λ j lt. refuted _ λ h.
            let b = both (leb k j) (r.at j) h in
            clash b.1 (e.adjacent.none_between j (omega (arith, leb-true k j b.0)) lt);
      })

  -- a boundary after one reading and not after another is enclosed by its earlier and its later reading
  pub enclosed : (f l k : ℕ) → r.at f ≡ true → r.at l ≡ true → f < k → k ≤ l → l ≤ n → LiesBetween n r (earlier r k) (later n r k) k
  enclosed f l k at_f at-l after upto inside =
      let p = last_found r.at k f after at_f in
      let test : ℕ → Bool = λ j. leb k j && r.at j in
      let q = first_found test (suc n) l (omega arith) (rw (le-leb k l upto) at-l) in
      let q-is = both (leb k (later n r k)) (r.at (later n r k)) q.holds in
      let k≤q = leb-true k (later n r k) q-is.0 in
      record {
        adjacent =
            record {
              ordered = omega arith;
              at_p = p.holds;
              at_q = q-is.1;
              none_between =
                  λ j lo hi. refuted _ λ h.
                  let late : j < k → ⊥ = λ lt. clash h (p.none_after j lo lt) in
                  let k≤j : k ≤ j = omega arith in
                  clash h (rw (le-leb k j k≤j) at (q.none_before j hi));
            };
        after = p.below;
        upto = k≤q;
        inside = omega arith;
      }

-- readings stand in an account of n days: there is a first and a last
pub record Read (n : ℕ) (r : Readings) : Type 0 where
  pub first : IsFirst r.at (suc n) (first_reading n r)
  pub last : IsLast r.at (suc n) (last_reading n r)

pub read : (n : ℕ) (r : Readings) (k : ℕ) → k ≤ n → r.at k ≡ true → Read n r
read n r k h at =
    record { first = first_found r.at (suc n) k (omega arith) at; last = last_found r.at (suc n) k (omega arith) at }

pub some_read : (n : ℕ) (r : Readings) → 2 ≤ how_many r.at (suc n) → Read n r
some_read n r two =
    let k = found r.at (suc n) (omega (arith, two)) in
    read n r k.0 (omega (arith, k.1)) k.2

module _ (w : List ℕ) (r : Readings) (valid : Valid w r) where
  pub adjacent_rise : (p q : ℕ) → Adjacent r.at p q → q ≤ length w → r.count p ≤ r.count q
  adjacent_rise p q a h =
      let n = length w in
      pairs r (suc n) valid.rises (suc n) (omega arith) p q (omega arith) (omega arith) a.at_p a.at_q
