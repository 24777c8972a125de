-- One mean more: its two bytes go behind those that are stored (K2). Assumes nothing.
use Rattle.std.proofs.Common.{◌≡◌, ◌+◌, ◌*◌, length, get_or, pos, refl, ◌∙◌, arith, rules}
use Rattle.std.proofs.lemmas.Int.{ints}
use Rattle.std.specs.Prelude.{true}
use Rattle.std.proofs.lemmas.List.Edits.{sets}
use Rattle.casewriter.specs.Bytes.{little_bytes, twos}
use Rattle.casewriter.specs.File.{items, mean_item}
use Rattle.casewriter.proofs.Stored.{mean_stored, means_stored}
use Rattle.casewriter.proofs.sections.means_into.Goals as goal

pub loop-i-init : goal.loop-i-init
unfolding items
loop-i-init c = refl

pub loop-i-preserved : goal.loop-i-preserved
loop-i-preserved c =
    let a = c.args in
    let i = c.loop-i.i in
    let mean : c.twos.result ≡ twos (get_or a.means.now i (pos 0)) = search (rules, ints) in
    c.number-in-loop-i.ensures ∙ (λ j. sets (c.loop-i.invariant j) (a.at + 2 + 2 * i) (little_bytes 2 (mean j))) ∙ mean_stored a.means.now c.number.new.out (a.at + 2) i

pub returns : goal.returns
returns c =
    let a = c.args in
    let end : c.loop-i.i ≡ length a.means.now = omega arith in
    c.loop-i.invariant ∙ (λ j. sets (c.number.ensures j) (a.at + 2) (items (λ k. true) (mean_item a.means.now) (end j))) ∙ means_stored a.means.now a.out.now a.at
