-- The sections of a file as they are written (K2): what the writer's private functions ask and promise. Each section lies where the reader has it (Case file).
use Rattle.std.specs.Prelude.{ℕ, ◌+◌, ◌*◌, ◌≤◌, ◌≡◌, List, ℤ, length}
use Rattle.std.proofs.lemmas.List.Edits.{sets}
use Rattle.common.specs.Below.{how_many}
use Rattle.account.specs.Slices.{reads_at}
use Rattle.casefile.specs.Case.{item_at}
use Rattle.casewriter.specs.declared.sections.Marked.{Marked}
use Rattle.casewriter.specs.File.{items, reading_item, cut_item, cuts_at}

-- how many readings and how many cuts these marks show
abbrev pub many_readings : (marks : List ℕ) → ℕ
many_readings marks = how_many (reads_at marks) (length marks)

abbrev pub many_cuts : (marks : List ℕ) → ℕ
many_cuts marks = how_many (cuts_at marks) (length marks)

abbrev pub marked_in : (marks : List ℕ) → Marked
marked_in marks = record { readings = many_readings marks; cuts = many_cuts marks }

-- where the readings and the cuts start, and where a file of so many means, readings and cuts ends
abbrev pub readings_start : (means : ℕ) → ℕ
readings_start means = item_at 2 2 means

abbrev pub cuts_start : (means readings : ℕ) → ℕ
cuts_start means readings = item_at 10 (readings_start means) readings

abbrev pub file_end : (means : ℕ) (m : Marked) → ℕ
file_end means m = item_at 2 (cuts_start means m.readings) m.cuts

-- an item stored at an offset, and the offset after it; an empty item stores nothing
pub record ItemPut (at : ℕ) (item before : List ℕ) (next : ℕ) (after : List ℕ) : Type 0 where
  pub ends : next ≡ at + length item
  pub stored : after ≡ sets before at item

-- room for the items of the readings from one offset on, and after them for those of the cuts from another
pub record ItemsFit (marks counts out : List ℕ) (readings-at cuts-at : ℕ) : Type 0 where
  pub as_long : length counts ≡ length marks
  pub apart : readings-at + 10 * many_readings marks ≤ cuts-at
  pub inside : cuts-at + 2 * many_cuts marks ≤ length out

-- both stored
abbrev pub both_stored : (marks counts out : List ℕ) (readings-at cuts-at m : ℕ) → List ℕ
both_stored marks counts out readings-at cuts-at m =
    sets (sets out readings-at (items (reads_at marks) (reading_item counts) m)) cuts-at (items (cuts_at marks) cut_item m)

-- room for a file
pub record FileFits (means : List ℤ) (marks counts out : List ℕ) (m : Marked) : Type 0 where
  pub as_long : length counts ≡ length marks
  pub counted : m ≡ marked_in marks
  pub inside : file_end (length means) m ≤ length out
