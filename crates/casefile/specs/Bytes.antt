-- Numbers in a case file (Case file): bytes at an offset, little-endian; signed ones in two's complement.
use Rattle.std.specs.Prelude.{ℕ, zero, suc, ◌+◌, ◌*◌, ◌-◌, cond, List, ltb, ℤ, pos, neg_ℤ, get_or}

-- the number in the `width` bytes at offset `at`, the lowest byte first
unfoldable pub little : ℕ → List ℕ → ℕ → ℕ
little zero s at = 0
little (suc width) s at = get_or s at 0 + 256 * little width s (at + 1)

abbrev pub byte : List ℕ → ℕ → ℕ
byte s at = get_or s at 0

abbrev pub number16 : List ℕ → ℕ → ℕ
number16 = little 2

abbrev pub number64 : List ℕ → ℕ → ℕ
number64 = little 8

-- a 16-bit number taken as two's complement
unfoldable pub signed : ℕ → ℤ
signed x = cond (ltb x 32_768) (pos x) (neg_ℤ (pos (65_536 - x)))

abbrev pub signed16 : List ℕ → ℕ → ℤ
signed16 s at = signed (number16 s at)
