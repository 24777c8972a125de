-- The power by roots stands to the exact power as its rounding says (Profile value).
-- Assumes nothing.
use mathlib.Core.Path.{◌≡◌, subst}
use mathlib.Core.Bool.{cond}
use Prim.Native.Nat.{ℕ, zero, suc, ◌+◌, ◌*◌, ◌/◌, ◌%◌, ◌^◌, ◌≤◌, ◌<◌}
use native.Mathlib.Nat.{pow-zero, pow-suc, zero-mul, one-mul, mul_comm, mul_assoc, mul_left_comm, one-le-pow, mod-one}
use native.Mathlib.Numerals.{one-add}
use native.Mathlib.Omega.{arith}
use lib.Dec.{eqb}
use lib.Pow.{pow-add, mod-pow-add}
use Rattle.power.specs.declared.rounded.Rounding.{Rounding}
use Rattle.power.specs.Power.{one, scaled_product, next_root, raise, times_roots, power}
use Rattle.power.proofs.Powers.{mul_pow, pow_mul, pow_one, pow_double}
use Rattle.power.proofs.Way.{Rounded, same, chain, times, cancel, raised, lowered, eased}
use Rattle.power.proofs.Quotient.{quotient_rounded}
use Rattle.power.proofs.Root.{one_pos, root_rounded}

ruleset sorted = (pow-add, mul_pow, mul_assoc, mul_comm, mul_left_comm)

-- q is p times (r / one)^(e / K), rounded: with everything over one and to the K-th power
pub record Reached (way : Rounding) (K e p q r : ℕ) : Type 0 where
  pub reached : Rounded way (q ^ K * one ^ e) (p ^ K * r ^ e)

module _ {way : Rounding} {r : ℕ} where
  none : (K p : ℕ) → Reached way K 0 p p r
  none K p = record { reached = simp pow-zero (same way _) }

  once : (p : ℕ) → Reached way 1 1 p (scaled_product way p r) r
  unfolding scaled_product
  once p = record { reached = simp pow_one (quotient_rounded way (p * r) one one_pos) }

  again : {K e p q : ℕ} (j : ℕ) → Reached way K e p q r → Reached way (K * j) (e * j) p q r
  again {K} {e} {p} {q} j h = record { reached = simp (pow_mul, ← mul_pow) (raised j h.reached) }

  joined : {K e f p q s : ℕ} → Reached way K e p q r → Reached way K f q s r → Reached way K (e + f) p s r
  joined {K} {e} {f} {p} {q} {s} h g =
      record { reached = simp sorted (chain (simp sorted at (times (one ^ e) g.reached)) (simp sorted at (times (r ^ f) h.reached))) }

halved : {way : Rounding} {K e p q r : ℕ} → Reached way K e p q (next_root way r) → Reached way (K * 2) e p q r
unfolding next_root
halved {way} {K} {e} {p} {q} {r} h =
    record {
      reached =
          cancel (one ^ e) (one-le-pow e one one_pos)
          (simp sorted
          (chain (simp sorted at (rw (pow_double one e, pow_double (next_root way r) e) at (again 2 h).reached))
          (simp sorted at (times (p ^ (K * 2)) (raised e (root_rounded way (r * one)))))));
    }

raise_reached : {way : Rounding} (n r p : ℕ) → Reached way 1 n p (raise way n r p) r
unfolding raise
raise_reached zero r p = none 1 p
raise_reached (suc n) r p = rw (← one-add n) (joined (once p) (raise_reached n r _))

-- d is a bit of the exponent
bit_reached : {way : Rounding} {r : ℕ} (K d p : ℕ) → d < 2 → Reached way K (d * K) p (cond (eqb d 1) (scaled_product way p r) p) r
bit_reached K zero p h = rw zero-mul (none K p)
bit_reached {way} {r} K (suc zero) p h = simp one-mul (simp one-mul at (again {way = way} {r = r} K (once p)))
bit_reached K (suc (suc d)) p h = absurd (omega arith)

times_roots_reached : {way : Rounding} (k r p c : ℕ) → Reached way (2 ^ k) (c % 2 ^ k) p (times_roots way k r p c) r
unfolding times_roots
times_roots_reached zero r p c = rw mod-one (none 1 p)
times_roots_reached (suc k) r p c =
    let split : c % 2 ^ suc k ≡ c / 2 ^ k % 2 * 2 ^ k + c % 2 ^ k = rw one-add at (mod-pow-add c 1 k) in
    rw (split, pow-suc) (halved (joined (bit_reached (2 ^ k) (c / 2 ^ k % 2) p (omega arith)) (times_roots_reached k _ _ c)))

pub power_reached : {way : Rounding} (r c : ℕ) → Reached way (2 ^ 24) c one (power way r c) r
unfolding power
power_reached {way} r c =
    let e : c / 2 ^ 24 * 2 ^ 24 + c % 2 ^ 24 % 2 ^ 24 ≡ c = omega arith in
    subst (λ (x : ℕ). Reached way (2 ^ 24) x one (power way r c) r) e
    (joined (again (2 ^ 24) (raise_reached (c / 2 ^ 24) r one)) (times_roots_reached 24 r _ (c % 2 ^ 24)))

-- With K for 2^24 and T for 10^7: from r over one to N over M, from c over K to C over T, and the K-th root taken
pub exact : {way : Rounding} {r c q : ℕ} (N M C K T : ℕ) → N ≤ M → 0 < M → 0 < K → Rounded way (r * M) (N * one) → Rounded way (C * K) (c * T) → Reached way K c one q r → Rounded way (q ^ T * M ^ C) (N ^ C * one ^ T)
exact {way} {r} {c} {q} N M C K T le pos posK ratio exponent h =
    let over_m : Rounded way (q ^ K * M ^ c) (one ^ K * N ^ c) =
    cancel (one ^ c) (one-le-pow c one one_pos)
    (simp sorted (chain (simp sorted at (times (M ^ c) h.reached)) (simp sorted at (times (one ^ K) (raised c ratio))))) in
    let toT : Rounded way (q ^ (K * T) * M ^ (c * T)) (one ^ (K * T) * N ^ (c * T)) = simp (pow_mul, ← mul_pow) (raised T over_m) in
    let g = eased (q ^ (K * T)) (one ^ (K * T)) N M le pos exponent toT in
    lowered K posK (simp (mul_pow, ← pow_mul) (rw (mul_comm K T, mul_comm (one ^ (T * K)) (N ^ (C * K))) at g))
