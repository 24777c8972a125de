-- Readings one after the other (Case file): what the reader tests of a reading is the definition's fault, and what it stores is the
-- definition's account. Assumes nothing.
use Prim.Native.Nat.{ℕ, zero, suc, ◌+◌, ◌≤◌, ◌<◌}
use mathlib.Core.Path.{◌≡◌, refl, sym, ◌∙◌, ap}
use native.Mathlib.Omega.{arith}
use mathlib.Core.List.{List, []}
use mathlib.Core.Bool.{true, false, ◌||◌, or-true}
use native.Mathlib.Decide.{dec_lt}
use borrow.Author.Tests.{lt-ltb, le-ltb, lt-leb, le-leb, ltb-false}
use lib.Dec.{ltb, leb}
use lib.ListN.{length, get_or, set}
use native.Mathlib.Numerals.{add-one}
use native.Mathlib.Nat.{le_refl}
use Rattle.common.specs.Below.{somewhere}
use Rattle.account.specs.Account.{Account, account, marks_cut, mark_of}
use Rattle.account.specs.Calls.{reading_put}
use Rattle.account.proofs.Shows.{zeros}
use Rattle.casefile.specs.Case.{item_at, boundary_at, reading_count_at, readings_put}
use Rattle.casefile.specs.Faults.{no_fault, first_fault, fails_to_rise, boundary_fault, reading_fault_at}
use Rattle.casefile.specs.Reader.{full}
use Rattle.casefile.specs.Sections.{Clear, item_fault}
use Rattle.casefile.proofs.Faults.{none_both, first_more, passes, no_fault_lem}
use Rattle.casefile.proofs.Kept.{readings_kept, uncut, full_reading}

-- the least boundary that rises, and the count of the reading before; at the first reading 0, and its own count
abbrev pub above : (ℕ → ℕ) → ℕ → ℕ
above boundary zero = 0
above boundary (suc i) = boundary i + 1

abbrev pub before : (ℕ → ℕ) → ℕ → ℕ
before count zero = count 0
before count (suc i) = count i

-- a boundary below that one fails to rise
pub rises : (boundary : ℕ → ℕ) (i : ℕ) → ltb (boundary i) (above boundary i) ≡ fails_to_rise boundary i
rises boundary zero = le-ltb (boundary 0) 0 (omega arith)
rises boundary (suc i) = go (dec_lt (boundary i) (boundary (suc i)))
  where
    go : Dec (boundary i < boundary (suc i)) → ltb (boundary (suc i)) (boundary i + 1) ≡ leb (boundary (suc i)) (boundary i)
    go (yes l) = le-ltb (boundary (suc i)) (boundary i + 1) (omega arith) ∙ sym (lt-leb (boundary (suc i)) (boundary i) l)
    go (no n) = lt-ltb (boundary (suc i)) (boundary i + 1) (omega arith) ∙ sym (le-leb (boundary (suc i)) (boundary i) (omega arith))

-- where counts have not fallen, some earlier count is above this one if the last is
pub some_above : (count : ℕ → ℕ) (v last i : ℕ) → ((j : ℕ) → j < i → count j ≤ last) → last ≤ v → somewhere (λ j. ltb v (count j)) i ≡ false
unfolding somewhere
some_above count v last zero top l = refl
some_above count v last (suc i) top l =
    rw (some_above count v last i (λ j h. top j (omega arith)) l, le-ltb v (count i) (omega (arith, top i (omega arith)))) refl

pub falling : (count : ℕ → ℕ) (v i : ℕ) → ((j : ℕ) → j < i → count j ≤ before count i) → (i ≡ 0 → v ≡ count 0) → somewhere (λ j. ltb v (count j)) i ≡ ltb v (before count i)
unfolding somewhere
falling count v zero top e = sym (le-ltb v (count 0) (omega (arith, e refl)))
falling count v (suc i) top e = go (dec_lt v (count i))
  where
    go : Dec (v < count i) → (somewhere (λ j. ltb v (count j)) i || ltb v (count i)) ≡ ltb v (count i)
    go (yes l) = rw (lt-ltb v (count i) l) (or-true (somewhere (λ j. ltb v (count j)) i))
    go (no n) = rw (le-ltb v (count i) (omega arith), some_above count v (count i) i (λ j h. top j (omega arith)) (omega arith)) refl

-- a boundary without a fault is all there, rises and lies in the span
pub record Sane (width : ℕ) (s : List ℕ) (at n i : ℕ) : Type 0 where
  pub long : item_at width at i + width ≤ length s
  pub rising : fails_to_rise (boundary_at width s at) i ≡ false
  pub inside : boundary_at width s at i ≤ n

pub sane : (width : ℕ) (s : List ℕ) (at n i : ℕ) → boundary_fault width s at n i ≡ no_fault → Sane width s at n i
sane width s at n i e =
    let f1 = passes (ltb (length s) (item_at width at i + width)) 13 (length s) _ e in
    let f2 = passes (fails_to_rise (boundary_at width s at) i) 13 (item_at width at i) _ f1.1 in
    record { long = ltb-false _ _ f1.0; rising = f2.0; inside = ltb-false _ _ (no_fault_lem (ltb n (boundary_at width s at i)) 6 (item_at width at i) f2.1) }

-- so is that of a reading without a fault, and its count falls below none
pub record SaneReading (s : List ℕ) (at n i : ℕ) : Type 0 where
  pub boundary : Sane 10 s at n i
  pub ordered : somewhere (λ j. ltb (reading_count_at s at i) (reading_count_at s at j)) i ≡ false

pub sane_reading : (s : List ℕ) (at n i : ℕ) → reading_fault_at s at n i ≡ no_fault → SaneReading s at n i
sane_reading s at n i e =
    let f = none_both (boundary_fault 10 s at n i) _ e in
    record { boundary = sane 10 s at n i f.0; ordered = (passes (somewhere (λ j. ltb (reading_count_at s at i) (reading_count_at s at j)) i) 8 (item_at 10 at i + 2) _ f.1).0 }

-- the first i readings have no fault, and are put into marks and counts
pub record ReadingsRead (s : List ℕ) (at n : ℕ) (marks₀ counts₀ marks counts : List ℕ) (low last i : ℕ) : Type 0 where
  pub clean : first_fault (reading_fault_at s at n) i ≡ no_fault
  pub low_is : low ≡ above (boundary_at 10 s at) i
  pub last_is : item_at 10 at 0 + 10 ≤ length s → last ≡ before (reading_count_at s at) i
  pub top : (j : ℕ) → j < i → reading_count_at s at j ≤ last
  pub puts : (w : List ℕ) → account w marks counts ≡ readings_put (account w marks₀ counts₀) s at i

module _ {s : List ℕ} {at n : ℕ} {marks₀ counts₀ marks counts : List ℕ} {low last i : ℕ} (r : ReadingsRead s at n marks₀ counts₀ marks counts low last i) where
  above_all : item_at 10 at i + 10 ≤ length s → somewhere (λ j. ltb (reading_count_at s at i) (reading_count_at s at j)) i ≡ ltb (reading_count_at s at i) last
  above_all l =
      let e = r.last_is (omega arith) in
      rw e (falling (reading_count_at s at) (reading_count_at s at i) i (λ j h. rw e at (r.top j h)) (λ z. ap (reading_count_at s at) z))

  -- what the reader tests is the definition's fault
  pub item_is : (first : ℕ) → (item_at 10 at 0 + 10 ≤ length s → first ≡ reading_count_at s at 0) → item_fault s (item_at 10 at i) low n first last ≡ reading_fault_at s at n i
  item_is first f = go (dec_lt (length s) (item_at 10 at i + 10))
    where
      go : Dec (length s < item_at 10 at i + 10) → item_fault s (item_at 10 at i) low n first last ≡ reading_fault_at s at n i
      go (yes l) = simp (lt-ltb (length s) (item_at 10 at i + 10) l)
      go (no g) =
          let e = f (omega arith) in
          simp (e, r.low_is, rises (boundary_at 10 s at) i, ← above_all (omega arith))

  -- .. so that the count before is at most this one
  pub not_below : reading_fault_at s at n i ≡ no_fault → last ≤ reading_count_at s at i
  not_below e =
      let g = sane_reading s at n i e in
      ltb-false (reading_count_at s at i) last (sym (above_all g.boundary.long) ∙ g.ordered)

  -- one reading more, into marks that had no cut
  pub readings_more : ((j : ℕ) → marks_cut (get_or marks₀ j 0) ≡ false) → reading_fault_at s at n i ≡ no_fault
      → ReadingsRead s at n marks₀ counts₀ (set marks (boundary_at 10 s at i) 2) (set counts (boundary_at 10 s at i) (reading_count_at s at i)) (boundary_at 10 s at i + 1) (reading_count_at s at i) (i + 1)
  unfolding readings_put
  readings_more none e =
      let b = boundary_at 10 s at i in
      let free : marks_cut (get_or marks b 0) ≡ false = rw (ap (λ (a : Account). a.marks) (r.puts [])) (uncut (account [] marks₀ counts₀) none s at i b) in
      record {
        clean = first_more (reading_fault_at s at n) i r.clean e;
        low_is = rw (add-one i) refl;
        last_is = λ h. rw (add-one i) refl;
        top = λ j h. go j (not_below e) (dec_lt j i) h;
        puts = λ w. rw (add-one i) ((λ k. account w (set marks b (mark_of true (sym free k))) (set counts b (reading_count_at s at i))) ∙ ap (λ (a : Account). reading_put a b (reading_count_at s at i)) (r.puts w));
      }
    where
      go : (j : ℕ) → last ≤ reading_count_at s at i → Dec (j < i) → j < i + 1 → reading_count_at s at j ≤ reading_count_at s at i
      go j l (yes h) _ = omega (arith, r.top j h)
      go j l (no g) h =
          let same : j ≡ i = omega arith in
          rw same (le_refl _)

-- a slice that is all zero has no cut
pub clear_uncut : {m : ℕ} {marks : List ℕ} → Clear m marks → (j : ℕ) → marks_cut (get_or marks j 0) ≡ false
clear_uncut {marks = marks} c j = rw (c.zero_throughout, zeros (length marks) j) refl

pub readings_none : (s : List ℕ) (at n first : ℕ) (marks counts : List ℕ) → (item_at 10 at 0 + 10 ≤ length s → first ≡ reading_count_at s at 0) → ReadingsRead s at n marks counts marks counts 0 first 0
unfolding first_fault readings_put
readings_none s at n first marks counts f = record { clean = refl; low_is = refl; last_is = f; top = λ j h. absurd (omega arith); puts = λ w. refl }

-- in slices of full length
pub full_readings : (a : Account) (s : List ℕ) (at n i : ℕ) → length a.marks ≡ n + 1 → length a.counts ≡ n + 1 → first_fault (reading_fault_at s at n) i ≡ no_fault
    → full (readings_put a s at i) ≡ readings_put (full a) s at i
unfolding first_fault readings_put
full_readings a s at n zero m c e = refl
full_readings a s at n (suc i) m c e =
    let f = none_both (first_fault (reading_fault_at s at n) i) _ e in
    let k = readings_kept a s at i in
    let g = (sane_reading s at n i f.1).boundary.inside in
    full_reading (readings_put a s at i) (boundary_at 10 s at i) (reading_count_at s at i) (omega (arith, k.marks_long)) (omega (arith, k.counts_long)) ∙
    ap (λ (b : Account). reading_put b (boundary_at 10 s at i) (reading_count_at s at i)) (full_readings a s at n i m c f.0)
