-- Numbers as the bytes of a case file (K2, Case file): little-endian; signed ones in two's complement.
use Rattle.std.specs.Prelude.{ℕ, zero, suc, ◌-◌, ◌/◌, ◌%◌, List, [], ◌∷◌, ℤ, pos, negsuc}

-- the lowest `width` bytes of a number, the lowest first
unfoldable pub little_bytes : (width n : ℕ) → List ℕ
little_bytes zero n = []
little_bytes (suc width) n = n % 256 ∷ little_bytes width (n / 256)

-- the 16-bit number that stands for a signed one: 65,535 for -1, and so on down; `negsuc n` is -(n + 1)
abbrev pub twos : ℤ → ℕ
twos (pos n) = n
twos (negsuc n) = 65_535 - n
