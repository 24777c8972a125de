-- `account::Account::last_less_first_with` meets its contract (If a call declines): the calls' own contracts, put together. Assumes nothing.
use Rattle.std.proofs.Common.{ℕ, add-one, min, max, sym, ap, ◌∙◌}
use Rattle.account.specs.Stands.{with_reading}
use Rattle.account.specs.Account.{lent, shown}
use Rattle.account.specs.Slices.{reads_at}
use Rattle.account.proofs.LastLessFirst.{last_less_first_is}
use Rattle.account.proofs.With.{first_with, last_with}
use Rattle.account.proofs.Account.last_less_first_with.Goals as goal

pub returns : goal.returns
returns c =
    let a = c.args.self in
    let k = c.args.k in
    let p = reads_at a.marks.now in
    last_less_first_is _ (with_reading (shown (lent a)).readings k c.args.v) (c.requires.fits.marks ∙ add-one _)
    (c.max.ensures ∙ ap (λ (j : ℕ). max j k) c.last_reading.ensures ∙ sym (last_with p k _ c.requires.within))
    c.count_with-last.ensures
    (c.min.ensures ∙ ap (λ (j : ℕ). min j k) c.first_reading.ensures ∙ sym (first_with p k _ c.requires.within))
    c.count_with-first.ensures
    c.saturating_sub.ensures
