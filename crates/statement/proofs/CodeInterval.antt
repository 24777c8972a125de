-- One reading interval, as it is written (Account and its calls, "Statement"): what is known at each boundary from p to q, and the steps.
-- Assumes nothing.
use mathlib.Core.Path.{◌≡◌, refl, sym, ap, subst, ◌∙◌}
use mathlib.Core.Bool.{true}
use Prim.Native.Nat.{ℕ, ◌+◌, ◌-◌, ◌*◌, ◌≤◌, ◌<◌, ◌^◌}
use native.Mathlib.Nat.{mul-le-mul_right}
use native.Mathlib.Omega.{arith}
use lib.ListN.{length, get_or}
use Rattle.std.specs.List.{sum, slice_range}
use Rattle.profile.specs.Limits.{span_most, weight_most}
use Rattle.common.specs.Below.{last}
use Rattle.account.specs.Account.{Account, days, shown}
use Rattle.account.specs.Slices.{Checked}
use Rattle.common.proofs.Below.{IsLast, first_least, last_found, last_most}
use Rattle.account.proofs.Sound.{mark_most}
use Rattle.statement.specs.declared.Progress.{Progress}
use Rattle.statement.specs.Split.{weight_sum, rounded_share, between, has}
use Rattle.statement.specs.Parts.{Outputs, marked}
use Rattle.statement.specs.Shares.{Adjacent}
use Rattle.statement.specs.Progress.{Interval, Written, Splittable, Addable, with_part, next_part}
use Rattle.statement.proofs.Order.{read, adjacent_rise}
use Rattle.statement.specs.Facts.{Valid}
use Rattle.statement.proofs.Parts.{Ends}
use Rattle.statement.proofs.Sums.{sum_empty, sum_splits, sum_positive}
use Rattle.statement.proofs.Has.{has_reading, has_between, has_mono}
use Rattle.statement.proofs.CodeSums.{sum_next, sum_range, sum_most}
use Rattle.statement.proofs.CodeSound.{checked_fit, checked_sound, checked_valid, mark_counts, energy_between}
use Rattle.statement.proofs.CodeWritten.{written_same, written_none, written_part, written_addable}

-- the parts that end below boundary k, from p to q, are written; low is what p has, e the energy and z the weights from p to q,
-- zk the weights from p to k
pub record Within (a : Account) (p q low e z k zk : ℕ) (o : Outputs) (d : Progress) : Type 0 where
  pub checked : Checked a
  pub inside : q ≤ days a
  pub adjacent : Adjacent (shown a).readings.at p q
  pub starts : low ≡ (shown a).readings.count p
  pub energy : e ≡ (shown a).readings.count q - low
  pub sum : z ≡ weight_sum a.weights p q
  pub after : p < k
  pub upto : k ≤ q
  pub share : zk ≡ weight_sum a.weights p k
  pub written : Written a.weights (shown a) k o d

-- what the indices and the sums from p to q need
pub record Room (a : Account) (p q : ℕ) : Type 0 where
  pub before : p < q
  pub weights : q ≤ length a.weights
  pub marks : q < length a.marks
  pub counts : q < length a.counts
  pub span : q ≤ span_most
  pub rises : (shown a).readings.count p ≤ (shown a).readings.count q

pub room : (a : Account) (p q : ℕ) → Checked a → Adjacent (shown a).readings.at p q → q ≤ days a → Room a p q
room a p q c between inside =
    let l = checked_fit a c in
    record {
      before = between.ordered;
      weights = inside;
      marks = omega arith;
      counts = omega arith;
      span = omega arith;
      rises = adjacent_rise a.weights (shown a).readings (checked_valid a c) p q between inside;
    }

-- the next part starts at the reading p, which has what its count says
pub starts_at : (a : Account) (q : ℕ) (o : Outputs) (d : Progress) → Interval a q o d → d.count ≡ (shown a).readings.count d.start
starts_at a q o d h =
    h.so_far.count ∙ ap (has a.weights (shown a).readings) (sym h.so_far.start) ∙ has_reading a.weights (shown a).readings d.start h.adjacent.at_p

pub interval_rises : (a : Account) (q : ℕ) (o : Outputs) (d : Progress) → Interval a q o d → d.count ≤ get_or a.counts q 0
interval_rises a q o d h = omega (arith, (room a d.start q h.checked h.adjacent h.within).rises, starts_at a q o d h)

-- what the loop starts from: the sum of the days p to q-1, and the weight of day p
pub interval_start : (a : Account) (q : ℕ) (o : Outputs) (d : Progress) (z zk : ℕ) → Interval a q o d → z ≡ sum (slice_range a.weights d.start q) →
    zk ≡ get_or a.weights d.start 0 →
    Within a d.start q d.count (get_or a.counts q 0 - d.count) z (d.start + 1) zk o d
interval_start a q o d z zk h z_is first =
    record {
      checked = h.checked;
      inside = h.within;
      adjacent = h.adjacent;
      starts = starts_at a q o d h;
      energy = refl;
      sum = z_is ∙ sum_range a.weights d.start q (omega (arith, h.adjacent.ordered)) h.within;
      after = omega arith;
      upto = omega (arith, h.adjacent.ordered);
      share = first ∙ omega (arith, sum_empty a.weights d.start d.start (omega arith), sum_next a.weights d.start d.start (omega arith));
      written = h.so_far;
    }

module _ {a : Account} {p q low e z k zk : ℕ} {o : Outputs} {d : Progress} (h : Within a p q low e z k zk o d) where
  valid : Valid a.weights (shown a).readings
  valid = checked_valid a h.checked

  pub within_room : Room a p q
  within_room = room a p q h.checked h.adjacent h.inside

  pub within_small : zk ≤ span_most * weight_most
  within_small =
      omega (arith, h.share, sum_most a.weights (checked_sound a h.checked).weights p k (omega (arith, h.upto, h.inside)), mul-le-mul_right {m = k} {n = span_most} weight_most (omega (arith, h.upto, within_room.span)))

  pub within_splittable : (shown a).readings.count q < 2 ^ 64 → Splittable low e zk z
  within_splittable fits =
      let all = energy_between (days a) (shown a).readings valid.rises p q h.adjacent.ordered h.inside h.adjacent.at_p h.adjacent.at_q in
      record {
        positive = rw h.sum (sum_positive a.weights valid.weights p q h.adjacent.ordered h.inside);
        share = rw (h.sum, h.share) (omega (arith, sum_splits a.weights p k q (omega (arith, h.after)) h.upto));
        sum = omega (arith, h.sum, sum_most a.weights (checked_sound a h.checked).weights p q h.inside, mul-le-mul_right weight_most h.inside, mul-le-mul_right weight_most (checked_fit a h.checked).most);
        energy = omega (arith, all, (checked_sound a h.checked).energy, h.energy, h.starts);
        room = omega (arith, within_room.rises, h.starts, h.energy);
      }

  -- what a boundary before q has
  count_is : k < q → (v : ℕ) → v ≡ low + rounded_share e zk z → v ≡ has a.weights (shown a).readings k
  unfolding between
  count_is less v is =
      is ∙ rw (h.energy, h.starts, h.sum, h.share) (sym (has_between a.weights (shown a).readings valid p q h.adjacent h.inside k (omega (arith, h.after)) h.upto))

  -- the next part starts at p or later
  started : IsLast (marked (shown a)) k (last (marked (shown a)) k)
  started = last_found (marked (shown a)) k p h.after (rw h.adjacent.at_p)

  rises : d.count ≤ has a.weights (shown a).readings k
  rises =
      rw h.written.count
      (has_mono a.weights (shown a).readings valid p q h.adjacent h.inside (last (marked (shown a)) k) k
      (last_most (marked (shown a)) started h.after (rw h.adjacent.at_p)) (omega (arith, started.below)) h.upto)

  addable : (v : ℕ) → v ≡ has a.weights (shown a).readings k → Addable o d k v
  addable v is =
      written_addable a.weights (shown a) k o d v h.written started.below (omega (arith, h.upto, h.inside)) (omega (arith, h.upto, h.inside, (checked_fit a h.checked).most)) (rw is rises)

  added : (v : ℕ) → v ≡ has a.weights (shown a).readings k → marked (shown a) k ≡ true →
      Written a.weights (shown a) (k + 1) (with_part o d k v) (next_part d k v)
  added v is here =
      let at = (shown a).readings.at in
      let found = read (days a) (shown a).readings q h.inside h.adjacent.at_q in
      let ends : Ends a.weights (shown a) k = record { mark = here; after = omega (arith, first_least at found.first h.adjacent.at_p, h.after); upto = omega (arith, last_most at found.last (omega (arith, h.inside)) h.adjacent.at_q, h.upto) } in
      written_part a.weights (shown a) k o d v h.written ends (omega (arith, h.upto, h.inside)) is

  -- one boundary on, with whatever was written there
  next : k < q → (o' : Outputs) (d' : Progress) → Written a.weights (shown a) (k + 1) o' d' → Within a p q low e z (k + 1) (zk + get_or a.weights k 0) o' d'
  next less o' d' done =
      record {
        checked = h.checked;
        inside = h.inside;
        adjacent = h.adjacent;
        starts = h.starts;
        energy = h.energy;
        sum = h.sum;
        after = omega (arith, h.after);
        upto = omega arith;
        share = ap (λ (x : ℕ). x + get_or a.weights k 0) h.share ∙ sym (sum_next a.weights p k (omega (arith, h.after)));
        written = done;
      }

  -- a boundary before q: without a mark, and with one
  pub within_bare : {o' : Outputs} {d' : Progress} → k < q → get_or a.marks k 0 ≡ 0 → o' ≡ o → d' ≡ d →
      Within a p q low e z (k + 1) (zk + get_or a.weights k 0) o' d'
  within_bare less bare same-o same-d = next less _ _ (written_same (written_none a.weights (shown a) k o d h.written (rw bare)) same-o same-d)

  pub within_addable : k < q → (v : ℕ) → v ≡ low + rounded_share e zk z → Addable o d k v
  within_addable less v is = addable v (count_is less v is)

  pub within_cut : {o' : Outputs} {d' : Progress} → k < q → (get_or a.marks k 0 ≡ 0 → ⊥) → (v : ℕ) → v ≡ low + rounded_share e zk z →
      o' ≡ with_part o d k v → d' ≡ next_part d k v → Within a p q low e z (k + 1) (zk + get_or a.weights k 0) o' d'
  within_cut less some v is same-o same-d =
      let here = mark_counts (get_or a.marks k 0) (mark_most a (checked_sound a h.checked) k (omega (arith, h.inside))) some in
      next less _ _ (written_same (added v (count_is less v is) here) same-o same-d)

-- the end of the interval, the reading q
module _ {a : Account} {p q low e z k zk : ℕ} {o : Outputs} {d : Progress} (h : Within a p q low e z k zk o d) (end : q ≤ k) where
  at_end : Within a p q low e z q zk o d
  at_end =
      let there : k ≡ q = omega (arith, h.upto) in
      subst (λ (m : ℕ). Within a p q low e z m zk o d) there h

  count_end : get_or a.counts q 0 ≡ has a.weights (shown a).readings q
  count_end = sym (has_reading a.weights (shown a).readings q h.adjacent.at_q)

  pub within_end_addable : Addable o d q (get_or a.counts q 0)
  within_end_addable = addable at_end (get_or a.counts q 0) count_end

  pub within_end : {o' : Outputs} {d' : Progress} → o' ≡ with_part o d q (get_or a.counts q 0) → d' ≡ next_part d q (get_or a.counts q 0) →
      Written a.weights (shown a) (q + 1) o' d'
  within_end same-o same-d = written_same (added at_end (get_or a.counts q 0) count_end (rw h.adjacent.at_q)) same-o same-d
