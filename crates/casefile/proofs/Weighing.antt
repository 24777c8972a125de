-- What first bytes and means without a fault show, and the weights that they give (Case file). Assumes nothing.
use Prim.Native.Nat.{ℕ, zero, suc, ◌+◌, ◌-◌, ◌≤◌, ◌<◌}
use mathlib.Core.Path.{◌≡◌, refl, sym, ◌∙◌, ap}
use mathlib.Core.Bool.{Bool, true, false, cond, not, ◌&&◌}
use mathlib.Core.List.{List, [], ◌∷◌, ◌++◌}
use native.Mathlib.Omega.{arith}
use borrow.Author.Tests.{ltb-true, ltb-false, leb-true, leb-false, lt-ltb, le-ltb, le-leb, lt-leb, eq-eqb, not-false}
use lib.Dec.{ltb, leb, leb-suc-suc}
use lib.IntN.{ℤ}
use lib.ListN.{length, take, drop, get_or, replicate, length-drop, length-replicate, get_or-replicate}
use lib.Seq.{ext_get_or, get_or-drop}
use Rattle.profile.specs.Limits.{in_range, span_most, profile_count, bad_span, weight_least, weight_most}
use Rattle.common.proofs.Below.{both, every_is}
use Rattle.common.specs.Rows.{filled}
use Rattle.weights.specs.Means.{first_out, some_out}
use Rattle.common.specs.Lists.{list_of}
use Rattle.weights.specs.Weights.{weights_of, Ready, WeightsMet}
use Rattle.common.proofs.Lists.{list_of_length, take_replicate}
use Rattle.weights.proofs.Calendar.{own_named}
use Rattle.weights.proofs.Span.{weights_length}
use Rattle.weights.proofs.Table.{weights_bounded}
use Rattle.account.specs.Account.{good_weights}
use Rattle.casefile.specs.Bytes.{byte, number16}
use Rattle.casefile.specs.Case.{item_at, mean_at, means_at}
use Rattle.casefile.specs.Faults.{no_fault, ◌before◌, fault, first_fault, first_bytes_fault, means_count_fault, mean_fault_at}
use Rattle.casefile.specs.Sections.{Clear, Weighable}
use Rattle.casefile.proofs.Faults.{no_fault_lem, passes, none_before}

pub record GoodSpan (n : ℕ) : Type 0 where
  pub least : 1 ≤ n
  pub most : n ≤ span_most

good_span : (n : ℕ) → bad_span n ≡ false → GoodSpan n
good_span n e =
    let b = both (leb 1 n) (leb n span_most) (not-false (leb 1 n && leb n span_most) e) in
    record { least = leb-true 1 n b.0; most = leb-true n span_most b.1 }

-- profile and weekday without a fault, and the count of means
pub record FirstBytes (s : List ℕ) (at : ℕ) : Type 0 where
  pub profile_known : byte s at < profile_count
  pub weekday_known : byte s (at + 1) ≤ 6
  pub long : at + 2 ≤ length s

pub first_bytes_none : (s : List ℕ) (at : ℕ) → first_bytes_fault s at ≡ no_fault → FirstBytes s at
first_bytes_none s at e =
    let f1 = passes (ltb (length s) (at + 1)) 13 (length s) _ e in
    let f2 = passes (leb profile_count (byte s at)) 1 at _ f1.1 in
    let f3 = passes (ltb (length s) (at + 2)) 13 (length s) _ f2.1 in
    record { profile_known = leb-false _ _ f2.0; weekday_known = ltb-false _ _ (no_fault_lem (ltb 6 (byte s (at + 1))) 2 (at + 1) f3.1); long = ltb-false _ _ f3.0 }

pub means_count_none : (s : List ℕ) (at : ℕ) → means_count_fault s at ≡ no_fault → (at + 2 ≤ length s) × GoodSpan (number16 s at - 3)
means_count_none s at e =
    let f = passes (ltb (length s) (at + 2)) 13 (length s) _ e in
    (ltb-false _ _ f.0, good_span (number16 s at - 3) (no_fault_lem (bad_span (number16 s at - 3)) 3 at f.1))

pub means_length_lem : (s : List ℕ) (at i : ℕ) → length (means_at s at i) ≡ i
means_length_lem s at i = list_of_length _ i

-- one more mean
out_more : (xs : List ℤ) (t : ℤ) → first_out (xs ++ (t ∷ [])) ≡ cond (some_out xs) (first_out xs) (cond (in_range t) (suc (length xs)) (length xs))
out_more [] t = refl
out_more (x ∷ xs) t = go (in_range x) (out_more xs t)
  where
    inner : (a b : Bool) (i j k : ℕ) → suc (cond a i (cond b j k)) ≡ cond a (suc i) (cond b (suc j) (suc k))
    inner true b i j k = refl
    inner false true i j k = refl
    inner false false i j k = refl

    go : (b : Bool) → first_out (xs ++ (t ∷ [])) ≡ cond (some_out xs) (first_out xs) (cond (in_range t) (suc (length xs)) (length xs))
        → cond b (suc (first_out (xs ++ (t ∷ [])))) 0 ≡ cond (ltb (cond b (suc (first_out xs)) 0) (suc (length xs))) (cond b (suc (first_out xs)) 0) (cond (in_range t) (suc (suc (length xs))) (suc (length xs)))
    go true e = rw (leb-suc-suc (suc (first_out xs)) (length xs)) (ap suc e ∙ inner (some_out xs) (in_range t) _ _ _)
    go false e = rw (lt-ltb 0 (suc (length xs)) (omega arith)) refl

-- the first fault of means that are all there is the first one out of range
pub means_out : (s : List ℕ) (at i : ℕ) → item_at 2 at i ≤ length s → first_fault (mean_fault_at s at) i ≡ fault (some_out (means_at s at i)) 4 (item_at 2 at (first_out (means_at s at i)))
unfolding list_of first_fault
means_out s at zero l = refl
means_out s at (suc i) l =
    let n = means_length_lem s at (suc i) in
    let t = mean_at s at i in
    rw (means_out s at i (omega arith), le-ltb (length s) (item_at 2 at i + 2) (omega arith), n, out_more (means_at s at i) t, means_length_lem s at i)
    (go (ltb (first_out (means_at s at i)) i) (in_range t) refl)
  where
    go : (a b : Bool) → ltb (first_out (means_at s at i)) i ≡ a →
        (fault a 4 (item_at 2 at (first_out (means_at s at i))) before fault (not b) 4 (item_at 2 at i)) ≡
        fault (ltb (cond a (first_out (means_at s at i)) (cond b (suc i) i)) (suc i)) 4 (item_at 2 at (cond a (first_out (means_at s at i)) (cond b (suc i) i)))
    go true b e = rw (lt-ltb (first_out (means_at s at i)) (suc i) (omega (arith, ltb-true (first_out (means_at s at i)) i e))) refl
    go false true e = rw (le-ltb (suc i) (suc i) (omega arith)) refl
    go false false e = rw (lt-ltb i (suc i) (omega arith)) refl

-- means without a fault are all in range
pub means_in : (s : List ℕ) (at i : ℕ) → first_fault (mean_fault_at s at) i ≡ no_fault → some_out (means_at s at i) ≡ false
unfolding list_of
means_in s at zero e = refl
means_in s at (suc i) e =
    let m = passes (ltb (length s) (item_at 2 at i + 2)) 13 (length s) _ (none_before (mean_fault_at s at) (suc i) i (omega arith) e) in
    let l = ltb-false (length s) (item_at 2 at i + 2) m.0 in
    no_fault_lem (some_out (means_at s at (suc i))) 4 _ (sym (means_out s at (suc i) (omega arith)) ∙ e)

drop_zeros : (k n : ℕ) → drop k (replicate {A = ℕ} n 0) ≡ replicate (n - k) 0
drop_zeros k n = ext_get_or 0 (drop k (replicate n 0)) (replicate (n - k) 0) (simp (length-drop, length-replicate)) λ i l.
    let h : i < n - k = rw (length-drop, length-replicate) at l in
    rw (get_or-drop, get_or-replicate {A = ℕ} n (k + i) 0 0 (omega arith), get_or-replicate {A = ℕ} (n - k) i 0 0 h)

-- weights of means that rows 1, 2 and 4 let pass are an account's
pub weights_good : (profile weekday : ℕ) (means : List ℤ) (calendar : List ℕ) → Ready profile weekday means → good_weights (weights_of profile weekday means calendar) ≡ true
unfolding good_weights
weights_good profile weekday means calendar r = every_is _ _ λ d l.
    let x = get_or (weights_of profile weekday means calendar) d 0 in
    let b = weights_bounded profile weekday means calendar r d (omega (arith, weights_length profile weekday means calendar)) in
    simp (le-leb weight_least x b.0, le-leb x weight_most b.1)

-- the weights call does what it is asked
pub weighs : {profile weekday : ℕ} {means means_after : List ℤ} {lent after calendar_after : List ℕ} {answered placed : ℕ} → Weighable profile weekday means lent
    → WeightsMet profile weekday means (take (length lent) (replicate span_most 7)) lent answered placed after means_after calendar_after
    → after ≡ weights_of profile weekday means (replicate (length lent) 7)
weighs {profile} {weekday} {means} {lent = lent} w m =
    let n = length means - 3 in
    let days = length lent in
    let own = take_replicate 7 days span_most w.most in
    rw own at m.writes ∙ simp (le-leb 1 n (omega (arith, w.enough, w.least)), le-leb n span_most (omega (arith, w.enough, w.most)), eq-eqb days n (omega (arith, w.enough)), eq-eqb (length (replicate {A = ℕ} days 7)) n (omega (arith, w.enough, length-replicate {A = ℕ} days 7)), lt-leb profile_count profile (omega (arith, w.profile_known)), le-ltb 6 weekday (omega (arith, w.weekday_known)), w.means_in_range, own_named days)

-- a slice that was clear is zero after the weights written into it
pub rest_zero : {lent : List ℕ} (days : ℕ) (written : List ℕ) → Clear span_most lent → length written ≡ days → written ++ drop days lent ≡ filled span_most written
rest_zero {lent} days written c long =
    let rest : drop days lent ≡ replicate (span_most - days) 0 = ap (drop days) c.zero_throughout ∙ drop_zeros days (length lent) ∙ ap (λ (n : ℕ). replicate (n - days) 0) c.long in
    rw (rest, long) refl
