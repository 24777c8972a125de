-- Ten bytes where the mark has a reading (K2). Assumes nothing.
use Rattle.std.proofs.Common.{◌+◌, List, ℕ, sym, ap, ◌∙◌, arith}
use Rattle.std.proofs.lemmas.List.Edits.{sets}
use Rattle.casewriter.specs.Bytes.{little_bytes}
use Rattle.casewriter.proofs.Sizes.{reading_bytes_long}
use Rattle.casewriter.proofs.Stored.{number_stored}
use Rattle.casewriter.proofs.sections.reading_into.Goals as goal

pub number-requires : goal.number-requires
number-requires c = let room = rw (sym c.if-is_reading.ensures) at c.requires in (omega arith, omega (arith, reading_bytes_long c.args.k c.args.count))

pub number-requires-then-is_reading : goal.number-requires-then-is_reading
number-requires-then-is_reading c = let room = rw (sym c.if-is_reading.ensures) at c.requires in (omega arith, omega (arith, reading_bytes_long c.args.k c.args.count))

pub returns-then-is_reading : goal.returns-then-is_reading
returns-then-is_reading c =
    let a = c.args in
    rw (sym c.if-is_reading.ensures)
    (record {
      ends = omega (arith, reading_bytes_long a.k a.count);
      stored = c.number-then-is_reading.ensures ∙ ap (λ (o : List ℕ). sets o (a.at + 2) (little_bytes 8 a.count)) c.number.ensures ∙ number_stored a.out.now a.at a.k (little_bytes 8 a.count);
    })
