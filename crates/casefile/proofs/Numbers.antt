-- Little-endian numbers (Case file): their bytes, and those in two's complement. Assumes nothing.
use Prim.Native.Nat.{ℕ, zero, suc, ◌+◌, ◌*◌, ◌-◌, ◌<◌}
use mathlib.Core.Path.{◌≡◌, refl}
use mathlib.Core.Bool.{cond}
use native.Mathlib.Decide.{dec_lt}
use mir.Syntax.{w16}
use mir.Val.{to_z}
use lib.Dec.{ltb}
use borrow.Author.Tests.{lt-ltb}
use mathlib.Core.List.{List}
use native.Mathlib.Omega.{arith}
use native.Mathlib.Nat.{add_assoc, add-zero}
use borrow.Author.Tests.{le-ltb}
use lib.IntN.{pos, neg_ℤ}
use lib.ListN.{get_or}
use Rattle.casefile.specs.Bytes.{little, signed}

-- a number is determined by its bytes, wherever they stand ..
pub number_same : (width : ℕ) (s t : List ℕ) (at to : ℕ) → ((i : ℕ) → i < width → get_or s (at + i) 0 ≡ get_or t (to + i) 0) → little width s at ≡ little width t to
unfolding little
number_same zero s t at to same = refl
number_same (suc width) s t at to same =
    let low : get_or s at 0 ≡ get_or t to 0 = simp add-zero at (same 0 (omega arith)) in
    let rest = number_same width s t (at + 1) (to + 1) (λ i l. simp add_assoc (same (1 + i) (omega arith))) in
    λ k. low k + 256 * rest k

-- .. and its bytes by it
pub bytes_same : (width : ℕ) (s t : List ℕ) (at to : ℕ) → ((i : ℕ) → get_or s i 0 < 256) → ((i : ℕ) → get_or t i 0 < 256) → little width s at ≡ little width t to
    → (i : ℕ) → i < width → get_or s (at + i) 0 ≡ get_or t (to + i) 0
unfolding little
bytes_same zero s t at to a b e i l = absurd (omega arith)
bytes_same (suc width) s t at to a b e zero l = simp add-zero (omega (arith, a at, b to))
bytes_same (suc width) s t at to a b e (suc i) l =
    let rest : little width s (at + 1) ≡ little width t (to + 1) = omega (arith, a at, b to) in
    let here : at + suc i ≡ at + 1 + i = omega arith in
    let there : to + suc i ≡ to + 1 + i = omega arith in
    rw (here, there) (bytes_same width s t (at + 1) (to + 1) a b rest i (omega arith))

-- two's complement is the library's
pub signed_is : (n : ℕ) → n < 65536 → to_z w16 n ≡ signed n
unfolding signed
signed_is n l = go (dec_lt n 32768)
  where
    go : Dec (n < 32768) → to_z w16 n ≡ cond (ltb n 32768) (pos n) (neg_ℤ (pos (65536 - n)))
    go (yes h) = rw (lt-ltb n 32768 h) refl
    go (no g) =
        let e : 65536 - n ≡ suc (65536 - suc n) = omega arith in
        rw (le-ltb n 32768 (omega arith), e) refl
