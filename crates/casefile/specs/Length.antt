-- How long a case file can be (Case file): "The longest file has 15,370 bytes; the program reads at most 16,384."
use Rattle.std.specs.Prelude.{ℕ, ◌≤◌, ◌<◌, ◌≡◌, List, length, get_or, take}
use Rattle.casefile.specs.Faults.{no_fault, fault_of}

abbrev pub file_most : ℕ
file_most = 15_370

abbrev pub bytes_read : ℕ
bytes_read = 16_384

-- there is a file of this length without a fault
pub record Taken (size : ℕ) : Type 0 where
  pub file : List ℕ
  pub bytes : (i : ℕ) → i < length file → get_or file i 0 < 256
  pub long : length file ≡ size
  pub whole : fault_of file ≡ no_fault

-- a file without a fault is no longer than that, and one is that long (proofs/Longest, `longest`)
pub record LongestFile : Type 0 where
  pub most : (s : List ℕ) → fault_of s ≡ no_fault → length s ≤ file_most
  pub reached : Taken file_most

-- reading no more than 16,384 bytes changes neither number nor place of the verdict (proofs/Enough, `enough`)
abbrev pub EnoughBytes : Type 0
EnoughBytes = (s : List ℕ) → fault_of (take bytes_read s) ≡ fault_of s
