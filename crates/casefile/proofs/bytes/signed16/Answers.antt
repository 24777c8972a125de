-- `casefile::bytes::signed16` meets its contract (Case file). Assumes nothing.
use Rattle.std.proofs.Common.{arith, rules, ap, ◌∙◌, ◌+◌}
use Rattle.std.specs.Int.{w16, cast_signed}
use Rattle.std.proofs.lemmas.Int.{to_z-of_z}
use Rattle.casefile.specs.Bytes.{little}
use Rattle.casefile.proofs.Numbers.{signed_is}
use Rattle.casefile.proofs.bytes.signed16.Goals as goal

pub returns : goal.returns
unfolding little
returns c =
    let s = c.args.file.now in
    let at = c.args.at in
    to_z-of_z w16 _ (search rules) ∙ c.from_le_bytes.ensures ∙ ap (cast_signed w16) (omega arith) ∙
    signed_is (little 2 s at) (omega (arith, c.type_inv.file at, c.type_inv.file (at + 1)))
