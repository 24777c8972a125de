-- What the account that a file names shows (K2, Case file): readings and cuts at the boundaries of the file's items and nowhere else, with their counts. Assumes nothing.
use Prim.Native.Nat.{ℕ, zero, suc, ◌+◌, ◌≤◌, ◌<◌}
use mathlib.Core.Path.{◌≡◌, refl, sym, ◌∙◌, ap}
use mathlib.Core.Bool.{Bool, true, false, cond}
use mathlib.Core.List.{List}
use native.Mathlib.Omega.{arith}
use native.Mathlib.Decide.{dec_lt}
use borrow.Author.Tests.{eq-eqb, ne_eqb, eqb-true}
use lib.Dec.{eqb}
use lib.ListN.{length, length-replicate}
use Rattle.common.proofs.Below.{clash}
use Rattle.account.specs.Stands.{Stands, put}
use Rattle.account.specs.Account.{Account, shown}
use Rattle.account.specs.Slices.{reads_at, count_at}
use Rattle.account.proofs.Shows.{shows_reading, shows_cut, zeros}
use Rattle.casefile.specs.Case.{boundary_at, reading_count_at, readings_put, cuts_put, days_of, readings_offset, readings_length, reading_boundary, reading_count, cuts_offset, cuts_length, cut_boundary, empty_case, with_readings, account_of}
use Rattle.casefile.specs.Faults.{no_fault, fails_to_rise, reading_fault, cut_fault, fault_of}
use Rattle.casefile.proofs.Faults.{none_before}
use Rattle.casefile.proofs.Kept.{kept_on, readings_kept, cuts_kept}
use Rattle.casefile.proofs.Items.{Sane, sane, sane_reading}
use Rattle.casefile.proofs.Ordered.{risen}
use Rattle.casefile.proofs.Chained.{clean_of}
use Rattle.casewriter.specs.File.{cuts_at}
use Rattle.casewriter.proofs.Listed.{Listed}

-- values put at one boundary after the other
unfoldable puts : {A : Type 0} → (ℕ → A) → (ℕ → ℕ) → (ℕ → A) → ℕ → ℕ → A
puts f b x zero = f
puts f b x (suc i) = put (puts f b x i) (b i) (x i)

-- boundaries that rise differ, so that each keeps its value
puts_at : {A : Type 0} (f : ℕ → A) (b : ℕ → ℕ) (x : ℕ → A) (i : ℕ) → ((j k : ℕ) → j < k → k < i → b j < b k) → (j : ℕ) → j < i → puts f b x i (b j) ≡ x j
unfolding puts
puts_at f b x zero rise j l = absurd (omega arith)
puts_at f b x (suc i) rise j l = go (puts_at f b x i (λ m k h n. rise m k h (omega arith)) j) (dec_lt j i)
  where
    go : (j < i → puts f b x i (b j) ≡ x j) → Dec (j < i) → put (puts f b x i) (b i) (x i) (b j) ≡ x j
    go before (yes h) = rw (ne_eqb (b j) (b i) (λ e. omega (arith, rise j i h (omega arith)))) (before h)
    go before (no g) =
        let same : j ≡ i = omega arith in
        rw (eq-eqb (b j) (b i) (ap b same)) (ap x (sym same))

puts_from : (f : ℕ → Bool) (b : ℕ → ℕ) (i : ℕ) → ((k : ℕ) → f k ≡ false) → (k : ℕ) → puts f b (λ j. true) i k ≡ true → (j : ℕ) × (j < i) × (b j ≡ k)
unfolding puts
puts_from f b zero none k h = absurd (clash h (none k))
puts_from f b (suc i) none k h = go (puts_from f b i none k) (eqb k (b i)) refl h
  where
    go : (puts f b (λ j. true) i k ≡ true → (j : ℕ) × (j < i) × (b j ≡ k)) → (t : Bool) → eqb k (b i) ≡ t → cond t true (puts f b (λ j. true) i k) ≡ true → (j : ℕ) × (j < suc i) × (b j ≡ k)
    go before true e h = (i, omega arith, sym (eqb-true k (b i) e))
    go before false e h = let (j, l, at) = before h in (j, omega arith, at)

-- readings, and cuts, put into an account that has their boundaries
readings_shown : (a : Account) (s : List ℕ) (at i : ℕ) → ((j : ℕ) → j < i → (boundary_at 10 s at j < length a.marks) × (boundary_at 10 s at j < length a.counts))
    → shown (readings_put a s at i) ≡
    record {
      readings = record { at = puts (shown a).readings.at (boundary_at 10 s at) (λ j. true) i; count = puts (shown a).readings.count (boundary_at 10 s at) (reading_count_at s at) i };
      cut = (shown a).cut;
    }
unfolding readings_put puts
readings_shown a s at zero inside = refl
readings_shown a s at (suc i) inside =
    let k = readings_kept a s at i in
    let (m, c) = inside i (omega arith) in
    shows_reading (readings_put a s at i) (boundary_at 10 s at i) (omega (arith, k.marks_long)) true (reading_count_at s at i) (omega (arith, k.counts_long)) ∙
    ap (λ (st : Stands). record {
      readings = record { at = put st.readings.at (boundary_at 10 s at i) true; count = put st.readings.count (boundary_at 10 s at i) (reading_count_at s at i) };
      cut = st.cut;
    }) (readings_shown a s at i (λ j l. inside j (omega arith)))

cuts_shown : (a : Account) (s : List ℕ) (at i : ℕ) → ((j : ℕ) → j < i → boundary_at 2 s at j < length a.marks)
    → shown (cuts_put a s at i) ≡ record { readings = (shown a).readings; cut = puts (shown a).cut (boundary_at 2 s at) (λ j. true) i }
unfolding cuts_put puts
cuts_shown a s at zero inside = refl
cuts_shown a s at (suc i) inside =
    shows_cut (cuts_put a s at i) (boundary_at 2 s at i) (omega (arith, (cuts_kept a s at i).marks_long, inside i (omega arith))) true ∙
    ap (λ (st : Stands). record { readings = st.readings; cut = put st.cut (boundary_at 2 s at i) true }) (cuts_shown a s at i (λ j l. inside j (omega arith)))

-- boundaries without a fault rise
risen_all : (b : ℕ → ℕ) (count : ℕ) → ((j : ℕ) → j < count → fails_to_rise b j ≡ false) → (i j : ℕ) → i < j → j < count → b i < b j
risen_all b count up i zero l h = absurd (omega arith)
risen_all b count up i (suc j) l h = go (risen_all b count up i j) (dec_lt i j) (risen b (suc j) (up (suc j) h))
  where
    go : (i < j → j < count → b i < b j) → Dec (i < j) → b j + 1 ≤ b (suc j) → b i < b (suc j)
    go before (yes k) r = omega (arith, before k (omega arith))
    go before (no g) r = let same : i ≡ j = omega arith in omega (arith, ap b same)

-- marks put at the boundaries of items without a fault
listed : (width : ℕ) (s : List ℕ) (at n count : ℕ) → ((i : ℕ) → i < count → Sane width s at n i) → (p f : ℕ → Bool) → ((k : ℕ) → f k ≡ false)
    → ((k : ℕ) → p k ≡ puts f (boundary_at width s at) (λ j. true) count k) → Listed p (boundary_at width s at) count (n + 1)
listed width s at n count good p f none is =
    let rise = risen_all (boundary_at width s at) count (λ j l. (good j l).rising) in
    record {
      rise = rise;
      below = λ i l. omega (arith, (good i l).inside);
      at = λ i l. is _ ∙ puts_at f (boundary_at width s at) (λ j. true) count rise i l;
      from = λ k t. puts_from f (boundary_at width s at) count none k (sym (is k) ∙ t);
    }

-- the account has the weights of the file's means
pub weights_named : (s : List ℕ) → (account_of s).weights ≡ (empty_case s).weights
weights_named s =
    (kept_on (readings_kept (empty_case s) s (readings_offset s) (readings_length s)) (cuts_kept (with_readings s (readings_length s)) s (cuts_offset s) (cuts_length s))).weights_are

module _ (s : List ℕ) (e : fault_of s ≡ no_fault) where
  pub reading_sane : (i : ℕ) → i < readings_length s → Sane 10 s (readings_offset s) (days_of s) i
  reading_sane i l = (sane_reading s (readings_offset s) (days_of s) i (none_before (reading_fault s) (readings_length s) i l (clean_of s e).readings)).boundary

  pub cut_sane : (i : ℕ) → i < cuts_length s → Sane 2 s (cuts_offset s) (days_of s) i
  cut_sane i l = sane 2 s (cuts_offset s) (days_of s) i (none_before (cut_fault s) (cuts_length s) i l (clean_of s e).cuts)

  stands : shown (account_of s) ≡
      record {
        readings =
            record {
              at = puts (shown (empty_case s)).readings.at (reading_boundary s) (λ j. true) (readings_length s);
              count = puts (shown (empty_case s)).readings.count (reading_boundary s) (reading_count s) (readings_length s);
            };
        cut = puts (shown (empty_case s)).cut (cut_boundary s) (λ j. true) (cuts_length s);
      }
  stands =
      let long = length-replicate {A = ℕ} (days_of s + 1) 0 in
      let k = (readings_kept (empty_case s) s (readings_offset s) (readings_length s)).marks_long in
      cuts_shown (with_readings s (readings_length s)) s (cuts_offset s) (cuts_length s) (λ j l. omega (arith, (cut_sane j l).inside)) ∙
      ap (λ (st : Stands). record { readings = st.readings; cut = puts st.cut (cut_boundary s) (λ j. true) (cuts_length s) })
      (readings_shown (empty_case s) s (readings_offset s) (readings_length s) (λ j l. (omega (arith, (reading_sane j l).inside), omega (arith, (reading_sane j l).inside))))

  pub readings_listed : Listed (reads_at (account_of s).marks) (reading_boundary s) (readings_length s) (days_of s + 1)
  readings_listed = listed 10 s (readings_offset s) (days_of s) (readings_length s) reading_sane _ _ (λ k. rw (zeros (days_of s + 1) k) refl) (λ k. ap (λ (st : Stands). st.readings.at k) stands)

  pub counts_listed : (i : ℕ) → i < readings_length s → count_at (account_of s).counts (reading_boundary s i) ≡ reading_count s i
  counts_listed i l =
      ap (λ (st : Stands). st.readings.count (reading_boundary s i)) stands ∙
      puts_at _ (reading_boundary s) (reading_count s) (readings_length s) readings_listed.rise i l

  pub cuts_listed : Listed (cuts_at (account_of s).marks) (cut_boundary s) (cuts_length s) (days_of s + 1)
  cuts_listed = listed 2 s (cuts_offset s) (days_of s) (cuts_length s) cut_sane _ _ (λ k. rw (zeros (days_of s + 1) k) refl) (λ k. ap (λ (st : Stands). st.cut k) stands)
