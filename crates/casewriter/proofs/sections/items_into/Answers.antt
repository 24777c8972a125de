-- One boundary more: its items go behind those that are stored (K2). Assumes nothing.
use Rattle.std.proofs.Common.{◌≡◌, ℕ, ◌+◌, ◌<◌, ◌≤◌, List, ◌∷◌, length, drop, get_or, refl, sym, ap, ◌∙◌, add-one, arith, rules, drop-cons, inl, inr}
use Rattle.std.specs.Iterator.Adapters.{enumerate_count}
use Rattle.std.proofs.lemmas.List.{length-drop}
use Rattle.account.specs.Slices.{reads_at}
use Rattle.casewriter.specs.File.{items, reading_item, cut_item, cuts_at}
use Rattle.casewriter.proofs.Sizes.{longer, reading_fits, cut_fits}
use Rattle.casewriter.proofs.Stored.{both_more}
use Rattle.casewriter.proofs.sections.items_into.Goals as goal

-- the element that a list has next, from the numbers k on
record Next (xs : List ℕ) (k x : ℕ) (rest : List ℕ) : Type 0 where
  below : k < length xs
  here : x ≡ get_or xs k 0
  left : rest ≡ drop (k + 1) xs

next : (xs : List ℕ) (k x : ℕ) (rest : List ℕ) → drop k xs ≡ x ∷ rest → Next xs k x rest
next xs k x rest e =
    let below : k < length xs = omega (arith, length-drop k xs, ap length e) in
    let both = sym e ∙ drop-cons xs k 0 below in
    record { below = below; here = cc; left = rw (add-one k) cc }

pub loop-k-init : goal.loop-k-init
unfolding items
loop-k-init c =
    let none : enumerate_count c.into_iter-k-iterator.result ≡ 0 = search rules in
    rw none (record { inside = omega arith; marks_left = search rules; counts_left = search rules; stored = refl; reading = omega arith; cut = omega arith })

pub reading_into-r-requires : goal.reading_into-r-requires
reading_into-r-requires c =
    let m = next c.args.marks.now (enumerate_count c.loop-k.k-iterator) _ _ (sym c.loop-k.invariant.marks_left ∙ c.in-Some.ensures.steps.0.0) in
    let n = next c.args.counts.now (enumerate_count c.loop-k.k-iterator) _ _ (sym c.loop-k.invariant.counts_left ∙ c.in-Some.ensures.steps.0.1) in
    rw (m.here, n.here, c.in-Some.ensures.steps.1) (omega (arith, reading_fits c.requires (enumerate_count c.loop-k.k-iterator) m.below))

pub cut_into-c-requires : goal.cut_into-c-requires
cut_into-c-requires c =
    let m = next c.args.marks.now (enumerate_count c.loop-k.k-iterator) _ _ (sym c.loop-k.invariant.marks_left ∙ c.in-Some.ensures.steps.0.0) in
    rw (m.here, c.in-Some.ensures.steps.1) (omega (arith, cut_fits c.requires (enumerate_count c.loop-k.k-iterator) m.below))

pub loop-k-preserved : goal.loop-k-preserved
loop-k-preserved c =
    let a = c.args in
    let marks = a.marks.now in
    let counts = a.counts.now in
    let i = c.loop-k.invariant in
    let k = enumerate_count c.loop-k.k-iterator in
    let m = next marks k _ _ (sym i.marks_left ∙ c.in-Some.ensures.steps.0.0) in
    let n = next counts k _ _ (sym i.counts_left ∙ c.in-Some.ensures.steps.0.1) in
    let reading = rw (m.here, n.here, c.in-Some.ensures.steps.1) at c.reading_into-r.ensures in
    let cut = rw (m.here, c.in-Some.ensures.steps.1) at c.cut_into-c.ensures in
    rw c.in-Some.ensures.steps.2
    (record {
      inside = omega (arith, m.below);
      marks_left = m.left;
      counts_left = n.left;
      stored = both_more marks counts a.out.now a.reading a.cut k i.stored i.reading i.cut (omega (arith, reading_fits c.requires k m.below)) reading cut;
      reading = omega (arith, reading.ends, longer (reads_at marks) (reading_item counts) k);
      cut = omega (arith, cut.ends, longer (cuts_at marks) cut_item k);
    })

-- a list that has none left from k on ends there
spent : (xs rest : List ℕ) (k : ℕ) → rest ≡ drop k xs → length rest ≡ 0 → k ≤ length xs → k ≡ length xs
spent xs rest k left none inside = omega (arith, length-drop k xs, ap length left)

pub returns : goal.returns
returns c =
    let i = c.loop-k.invariant in
    let end : enumerate_count c.loop-k.k-iterator ≡ length c.args.marks.now = elim c.in-None.ensures.steps.0 [
      | inl m ↦ spent c.args.marks.now _ _ i.marks_left m.1.0 i.inside
      | inr n ↦ spent c.args.counts.now _ _ i.counts_left n.1.0 (omega arith) ∙ c.requires.as_long
    ] in
    rw (← end) i.stored
