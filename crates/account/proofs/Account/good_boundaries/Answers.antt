-- `account::Account::good_boundaries` meets its contract (Account and its calls), turn by turn. Assumes nothing.
use Rattle.std.proofs.Common.{rules, ◌≡◌, sym, ◌∙◌, suc, length, length-append, add-one, arith}
use Rattle.std.proofs.lemmas.Slice.Zip.{zip_end}
use Rattle.account.specs.Account.{lent}
use Rattle.account.proofs.Pass.{here, passed_none, passed_reading, passed_other, passed_all, bad_mark, bad_count, bad_order}
use Rattle.account.proofs.Account.good_boundaries.Goals as goal

pub loop-mark-init : goal.loop-mark-init
loop-mark-init c = passed_none _

pub returns-then-mark-gt-MARK_MOST : goal.returns-then-mark-gt-MARK_MOST
returns-then-mark-gt-MARK_MOST c =
    let h = here (lent c.args.self) c.requires _ _ _ c.next.new.self _ (search rules) (search rules) c.loop-mark.yielded_by _ c.in-Some.is c.next.ensures.steps in
    sym (bad_mark h (omega (arith, c.if-mark-gt-MARK_MOST.true)))

pub returns-then-count-last : goal.returns-then-count-last
returns-then-count-last c =
    let h = here (lent c.args.self) c.requires _ _ _ c.next.new.self _ (search rules) (search rules) c.loop-mark.yielded_by _ c.in-Some.is c.next.ensures.steps in
    sym (bad_order h c.loop-mark.invariant (sym c.is_reading.ensures ∙ c.if-is_reading.true) c.if-count-last.true)

pub loop-mark-preserved-then-is_reading : goal.loop-mark-preserved-then-is_reading
loop-mark-preserved-then-is_reading c =
    let h = here (lent c.args.self) c.requires _ _ _ c.next.new.self _ (search rules) (search rules) c.loop-mark.yielded_by _ c.in-Some.is c.next.ensures.steps in
    rw (length-append, add-one)
    (passed_reading h c.loop-mark.invariant (omega (arith, c.if-mark-gt-MARK_MOST.false)) (sym c.is_reading.ensures ∙ c.if-is_reading.true) c.if-count-last.false)

pub returns-then-count-ne0 : goal.returns-then-count-ne0
returns-then-count-ne0 c =
    let h = here (lent c.args.self) c.requires _ _ _ c.next.new.self _ (search rules) (search rules) c.loop-mark.yielded_by _ c.in-Some.is c.next.ensures.steps in
    sym (bad_count h (sym c.is_reading.ensures ∙ c.if-is_reading.false) c.if-count-ne0.true)

pub loop-mark-preserved : goal.loop-mark-preserved
loop-mark-preserved c =
    let h = here (lent c.args.self) c.requires _ _ _ c.next.new.self _ (search rules) (search rules) c.loop-mark.yielded_by _ c.in-Some.is c.next.ensures.steps in
    rw (length-append, add-one)
    (passed_other h c.loop-mark.invariant (omega (arith, c.if-mark-gt-MARK_MOST.false)) (sym c.is_reading.ensures ∙ c.if-is_reading.false) c.if-count-ne0.false)

pub returns : goal.returns
returns c =
    let end = zip_end c.args.self.marks.now c.args.self.counts.now c.loop-mark.yielded _ _ c.next.new.self _ (search rules) (search rules) c.loop-mark.yielded_by c.in-None.is c.next.ensures.steps in
    let all : length c.loop-mark.yielded ≡ suc (length c.args.self.weights.now) = omega (arith, c.requires.marks, c.requires.counts) in
    sym (passed_all _ _ (rw all at c.loop-mark.invariant))
