-- The account that the readings and cuts of a section make, and how it lies in slices of full length (Case file). Assumes nothing.
use Prim.Native.Nat.{ℕ, zero, suc, ◌+◌, ◌-◌, ◌<◌}
use mathlib.Core.Path.{◌≡◌, refl, sym, ◌∙◌, ap}
use mathlib.Core.Bool.{Bool, true, false}
use mathlib.Core.List.{List}
use native.Mathlib.Omega.{arith}
use native.Mathlib.Decide.{dec_lt, ℕ_discrete}
use lib.ListN.{length, get_or, set, replicate, length-set, get_or-append}
use lib.Seq.{set-append_left, set_out, get_or-set_same, get_or-set_other}
use Rattle.profile.specs.Limits.{span_most}
use Rattle.account.specs.Account.{Account, account, marks_reading, marks_cut, mark_of}
use Rattle.account.specs.Calls.{reading_put, cut_put}
use Rattle.common.specs.Rows.{filled}
use Rattle.casefile.specs.Case.{boundary_at, readings_put, cuts_put}
use Rattle.casefile.specs.Reader.{full}

-- the same weights, with as many marks and counts
pub record Kept (a b : Account) : Type 0 where
  pub weights_are : b.weights ≡ a.weights
  pub marks_long : length b.marks ≡ length a.marks
  pub counts_long : length b.counts ≡ length a.counts

pub kept_on : {a b c : Account} → Kept a b → Kept b c → Kept a c
kept_on k l = record { weights_are = l.weights_are ∙ k.weights_are; marks_long = l.marks_long ∙ k.marks_long; counts_long = l.counts_long ∙ k.counts_long }

pub readings_kept : (a : Account) (s : List ℕ) (at i : ℕ) → Kept a (readings_put a s at i)
unfolding readings_put
readings_kept a s at zero = record { weights_are = refl; marks_long = refl; counts_long = refl }
readings_kept a s at (suc i) =
    let k = readings_kept a s at i in
    record { weights_are = k.weights_are; marks_long = rw length-set k.marks_long; counts_long = rw length-set k.counts_long }

pub cuts_kept : (a : Account) (s : List ℕ) (at i : ℕ) → Kept a (cuts_put a s at i)
unfolding cuts_put
cuts_kept a s at zero = record { weights_are = refl; marks_long = refl; counts_long = refl }
cuts_kept a s at (suc i) =
    let k = cuts_kept a s at i in
    record { weights_are = k.weights_are; marks_long = rw length-set k.marks_long; counts_long = k.counts_long }

-- readings put into marks without a cut leave them without one
set_uncut : (xs : List ℕ) (k x j : ℕ) → marks_cut (get_or xs j 0) ≡ false → marks_cut x ≡ false → marks_cut (get_or (set xs k x) j 0) ≡ false
set_uncut xs k x j h e = go (ℕ_discrete j k) (dec_lt k (length xs))
  where
    go : Dec (j ≡ k) → Dec (k < length xs) → marks_cut (get_or (set xs k x) j 0) ≡ false
    go (yes p) (yes l) = rw (p, get_or-set_same xs k x 0 l) e
    go (yes p) (no g) = rw (set_out xs k x (omega arith)) h
    go (no n) d = rw (get_or-set_other xs k j x 0 n) h

pub uncut : (a : Account) → ((j : ℕ) → marks_cut (get_or a.marks j 0) ≡ false) → (s : List ℕ) (at i j : ℕ) → marks_cut (get_or (readings_put a s at i).marks j 0) ≡ false
unfolding readings_put
uncut a none s at zero j = none j
uncut a none s at (suc i) j =
    set_uncut (readings_put a s at i).marks (boundary_at 10 s at i) _ j (uncut a none s at i j) (ap (λ (b : Bool). marks_cut (mark_of true b)) (uncut a none s at i (boundary_at 10 s at i)))

-- a store inside a list is the same store in the list filled up with zeros
filled_set : (n k x : ℕ) (xs : List ℕ) → k < length xs → set (filled n xs) k x ≡ filled n (set xs k x)
filled_set n k x xs l = set-append_left xs (replicate (n - length xs) 0) k x l ∙ rw length-set refl

filled_at : (n k : ℕ) (xs : List ℕ) → k < length xs → get_or (filled n xs) k 0 ≡ get_or xs k 0
filled_at n k xs l = get_or-append xs (replicate (n - length xs) 0) 0 k l

-- .. and so is a reading or a cut
pub full_reading : (a : Account) (k v : ℕ) → k < length a.marks → k < length a.counts → full (reading_put a k v) ≡ reading_put (full a) k v
full_reading a k v m c = λ i.
    account
    (filled span_most a.weights)
    ((sym (filled_set (span_most + 1) k _ a.marks m) ∙ ap (λ (x : ℕ). set (filled (span_most + 1) a.marks) k (mark_of true (marks_cut x))) (sym (filled_at (span_most + 1) k a.marks m))) i)
    (sym (filled_set (span_most + 1) k v a.counts c) i)

pub full_cut : (a : Account) (k : ℕ) → k < length a.marks → full (cut_put a k) ≡ cut_put (full a) k
full_cut a k m = λ i.
    account
    (filled span_most a.weights)
    ((sym (filled_set (span_most + 1) k _ a.marks m) ∙ ap (λ (x : ℕ). set (filled (span_most + 1) a.marks) k (mark_of (marks_reading x) true)) (sym (filled_at (span_most + 1) k a.marks m))) i)
    (filled (span_most + 1) a.counts)
