-- There and back (K2), over the records of both calls: "What is written reads back to the same marks and counts, over the weights of those means with K1's bytes 7
-- throughout, and a file that the reader takes is rewritten, from its own profile, weekday and means, to its own bytes."
use Rattle.std.specs.Prelude.{ℕ, ◌+◌, ◌-◌, ◌^◌, ◌≤◌, ◌<◌, ◌≡◌, false, List, ◌++◌, ltb, ℤ, length, get_or, take, drop}
use Rattle.common.specs.Rows.{row}
use Rattle.account.specs.Account.{Account, account, days, unfit}
use Rattle.casefile.specs.Case.{profile_byte, weekday_byte, means_of}
use Rattle.casefile.specs.Reader.{unfit_slices, full, ReadMet}
use Rattle.casefile.specs.Length.{file_most}
use Rattle.casewriter.specs.Writer.{account_given, WriteMet}

-- Each byte that a done call wrote is below 256, so that a written file meets the hypothesis of `Rewritten` (proofs/Written, `written_bytes`).
abbrev pub WrittenBytes : Type 0
WrittenBytes =
    (profile weekday : ℕ) (means means_after : List ℤ) (marks counts before after marksAfter countsAfter : List ℕ) (placed size : ℕ) →
    WriteMet profile weekday means marks counts before 0 placed size after means_after marksAfter countsAfter →
    (i : ℕ) → i < size → get_or after i 0 < 256

-- the answer of a read that takes the file of an account of n days, and the slices after it
pub record ReadAs (a : Account) (n answered placed given : ℕ) (after : Account) : Type 0 where
  pub answers : answered ≡ 0
  pub places : placed ≡ 0
  pub gives : given ≡ n
  pub writes : after ≡ full a

-- "What is written reads back": after every write that is done, every read of the bytes that it wrote answers 0 and leaves the written account in its slices. The
-- slices have the reader's lengths and may have held anything. The bound on counts is that of their type, 64 bits (proofs/Back, `reads_back`).
abbrev pub ReadsBack : Type 0
ReadsBack =
    (profile weekday : ℕ) (means means_after : List ℤ) (marks counts before written marksAfter countsAfter : List ℕ) (placed size : ℕ) →
    ((k : ℕ) → get_or counts k 0 < 2 ^ 64) →
    WriteMet profile weekday means marks counts before 0 placed size written means_after marksAfter countsAfter →
    (lent after : Account) (answered at n : ℕ) (kept : List ℕ) → unfit_slices lent ≡ false →
    ReadMet (take size written) lent answered at n after kept →
    ReadAs (account_given profile weekday means marks counts) (length means - 3) answered at n after

-- "to the same marks and counts, over the weights": the slices that such a read leaves begin with the account (proofs/Back, `same_again`)
abbrev pub SameAgain : Type 0
SameAgain =
    (a after : Account) (answered placed n : ℕ) → unfit a ≡ false → ReadAs a (days a) answered placed n after →
    account (take n after.weights) (take (n + 1) after.marks) (take (n + 1) after.counts) ≡ a

-- the answer of a write that has this file to write, and its slice after it: 15 exactly where the slice is shorter
pub record WrittenAs (file before : List ℕ) (answered placed given : ℕ) (after : List ℕ) : Type 0 where
  pub answers : answered ≡ row (ltb (length before) (length file)) 15 0
  pub places : placed ≡ 0
  pub gives : given ≡ row (ltb (length before) (length file)) 0 (length file)
  pub writes : after ≡ row (ltb (length before) (length file)) before (file ++ drop (length file) before)

-- "A file that the reader takes is rewritten": after every read that takes a file, take its own profile, weekday and means, and the first n+1 marks and counts that the
-- read left. Every write of these, into any slice, writes the file, or answers 15 if the slice is shorter. The bound on the file's elements is that of a byte
-- (proofs/Again, `rewritten`).
abbrev pub Rewritten : Type 0
Rewritten =
    (file kept : List ℕ) (lent read : Account) (at n : ℕ) →
    ((i : ℕ) → get_or file i 0 < 256) →
    ReadMet file lent 0 at n read kept →
    (before after marksAfter countsAfter : List ℕ) (means_after : List ℤ) (answered placed given : ℕ) →
    WriteMet (profile_byte file) (weekday_byte file) (means_of file) (take (n + 1) read.marks) (take (n + 1) read.counts) before answered placed given after means_after marksAfter countsAfter →
    WrittenAs file before answered placed given after

-- "to its own bytes": where the slice is long enough, such a write is done, its length is the file's, and so are the bytes up to there (proofs/Again, `own_bytes`)
abbrev pub OwnBytes : Type 0
OwnBytes =
    (file before after : List ℕ) (answered placed given : ℕ) → WrittenAs file before answered placed given after → length file ≤ length before →
    (answered ≡ 0) × (take given after ≡ file) × (drop given after ≡ drop given before)

-- 15,370 bytes are room for every file: a call that answers 15 was lent fewer (proofs/Room, `room_enough`)
abbrev pub RoomEnough : Type 0
RoomEnough =
    (profile weekday : ℕ) (means means_after : List ℤ) (marks counts before after marksAfter countsAfter : List ℕ) (placed size : ℕ) →
    WriteMet profile weekday means marks counts before 15 placed size after means_after marksAfter countsAfter →
    length before < file_most
