-- What an account shows after an accepted call is what stood before it, changed as the call says (Account and its calls). Assumes nothing.
use Prim.Native.Nat.{ℕ, zero, suc, ◌<◌}
use mathlib.Core.Path.{◌≡◌, refl, ◌∙◌}
use mathlib.Core.Bool.{Bool, true, false, cond}
use mathlib.Core.List.{List}
use lib.Dec.{eqb}
use lib.ListN.{length, get_or, set, replicate}
use lib.Seq.{get_or-set_same, get_or-set_other}
use borrow.Author.Tests.{eqb-true, eqb-false}
use Rattle.account.specs.Stands.{Stands, nothing, put}
use Rattle.account.specs.Account.{Account, account, shown, marks_reading, marks_cut, mark_of}
use Rattle.account.specs.Calls.{cleared}

-- a question f about a list, after one element is set
pub set_asked : {A : Type 0} (f : ℕ → A) (l : List ℕ) (k x : ℕ) → k < length l →
    (j : ℕ) → f (get_or (set l k x) j 0) ≡ put (λ i. f (get_or l i 0)) k (f x) j
set_asked {A} f l k x inside j = go (eqb j k) refl
  where
    go : (t : Bool) → eqb j k ≡ t → f (get_or (set l k x) j 0) ≡ cond t (f x) (f (get_or l j 0))
    go true e = rw (eqb-true j k e, get_or-set_same)
    go false e = rw (get_or-set_other l k j x 0 (eqb-false j k e))

-- to put what is there already changes nothing
put_same : {A : Type 0} (f : ℕ → A) (k j : ℕ) → put f k (f k) j ≡ f j
put_same {A} f k j = go (eqb j k) refl
  where
    go : (t : Bool) → eqb j k ≡ t → cond t (f k) (f j) ≡ f j
    go true e = rw (eqb-true j k e)
    go false e = refl

mark_of_reading : (r c : Bool) → marks_reading (mark_of r c) ≡ r
mark_of_reading false false = refl
mark_of_reading false true = refl
mark_of_reading true false = refl
mark_of_reading true true = refl

mark_of_cut : (r c : Bool) → marks_cut (mark_of r c) ≡ c
mark_of_cut false false = refl
mark_of_cut false true = refl
mark_of_cut true false = refl
mark_of_cut true true = refl

same_stands : (s t : Stands) → ((k : ℕ) → s.readings.at k ≡ t.readings.at k) → ((k : ℕ) → s.readings.count k ≡ t.readings.count k) →
    ((k : ℕ) → s.cut k ≡ t.cut k) → s ≡ t
same_stands s t at count cut =
    λ i. record { readings = record { at = λ k. at k i; count = λ k. count k i }; cut = λ k. cut k i }

module _ (a : Account) (k : ℕ) (inside : k < length a.marks) where
  -- the questions that a mark answers, after the mark at k is set
  mark_reading : (r c : Bool) (j : ℕ) → marks_reading (get_or (set a.marks k (mark_of r c)) j 0) ≡ put (shown a).readings.at k r j
  mark_reading r c j = set_asked marks_reading a.marks k (mark_of r c) inside j ∙ rw mark_of_reading

  mark_cut : (r c : Bool) (j : ℕ) → marks_cut (get_or (set a.marks k (mark_of r c)) j 0) ≡ put (shown a).cut k c j
  mark_cut r c j = set_asked marks_cut a.marks k (mark_of r c) inside j ∙ rw mark_of_cut

  pub shows_cut : (c : Bool) →
      shown (account a.weights (set a.marks k (mark_of ((shown a).readings.at k) c)) a.counts) ≡
      record { readings = (shown a).readings; cut = put (shown a).cut k c }
  shows_cut c = same_stands _ _ (λ j. mark_reading ((shown a).readings.at k) c j ∙ put_same (shown a).readings.at k j) (λ j. refl)
      (λ j. mark_cut ((shown a).readings.at k) c j)

  pub shows_reading : (r : Bool) (v : ℕ) → k < length a.counts →
      shown (account a.weights (set a.marks k (mark_of r ((shown a).cut k))) (set a.counts k v)) ≡
      record { readings = record { at = put (shown a).readings.at k r; count = put (shown a).readings.count k v }; cut = (shown a).cut }
  shows_reading r v within = same_stands _ _ (λ j. mark_reading r ((shown a).cut k) j)
      (λ j. set_asked (λ (x : ℕ). x) a.counts k v within j)
      (λ j. mark_cut r ((shown a).cut k) j ∙ put_same (shown a).cut k j)

pub zeros : (n j : ℕ) → get_or (replicate n zero) j zero ≡ zero
zeros zero j = refl
zeros (suc n) zero = refl
zeros (suc n) (suc j) = zeros n j

-- "Open clears marks and counts"; "after open nothing stands".
pub shows_nothing : (a : Account) → shown (cleared a) ≡ nothing
shows_nothing a = same_stands _ _ (λ j. rw zeros) (λ j. rw zeros) (λ j. rw zeros)
