-- What is written reads back (K2): the sections of the file are those that the reader finds, none has a fault, and the account that the file names is the one that was
-- written. Assumes nothing.
use Prim.Native.Nat.{ℕ, zero, suc, ◌+◌, ◌-◌, ◌^◌, ◌≤◌, ◌<◌}
use mathlib.Core.Path.{◌≡◌, refl, sym, ◌∙◌, ap, subst, subst⁻¹}
use mathlib.Core.Bool.{Bool, true, false, ◌||◌}
use mathlib.Core.List.{List, [], ◌∷◌, ◌++◌}
use native.Mathlib.Omega.{arith}
use native.Mathlib.Nat.{le_refl, mul-le-mul, mul-suc}
use native.Mathlib.Decide.{dec_lt}
use borrow.Author.Tests.{lt-ltb, le-ltb, le-leb, lt-leb, eqb-true}
use lib.Dec.{ltb, eqb}
use lib.IntN.{ℤ, pos, negsuc}
use lib.ListN.{length, get_or, take, replicate, length-append, get_or-eq_default}
use lib.Seq.{ext_get_or}
use Rattle.rounding.proofs.Parts.{parts}
use Rattle.profile.specs.Limits.{in_range, profile_count, span_most}
use Rattle.profile.proofs.Range.{cold_le, le_warm}
use Rattle.common.specs.Below.{how_many}
use Rattle.common.proofs.Lists.{list_of_length, list_of_at}
use Rattle.weights.specs.Weights.{mean_at, weights_of}
use Rattle.weights.proofs.Series.{all_in}
use Rattle.casefile.specs.Bytes.{byte, number16, signed}
use Rattle.common.proofs.Below.{clash, every_at, none_is, first_found, last_found, first_least, last_most}
use Rattle.account.specs.Stands.{last_less_first, first_reading, last_reading}
use Rattle.account.specs.Account.{Account, account, days, shown, marks_reading, marks_cut, mark_of, zero_counts, energy_most}
use Rattle.account.specs.Slices.{reads_at, count_at, Checked}
use Rattle.account.proofs.Sound.{fit, sound_parts, mark_most}
use Rattle.account.proofs.Stores.{mark_is}
use Rattle.account.proofs.Pairs.{Rising, pairs}
use Rattle.casefile.specs.Case as cases
use Rattle.casefile.specs.Faults.{no_fault, fails_to_rise, boundary_fault, mean_fault, reading_fault, cut_fault, span_fault, fault_of}
use Rattle.casefile.specs.Reader.{full, ReadMet}
use Rattle.casefile.proofs.Faults.{none_of}
use Rattle.casefile.proofs.Sound.{case_long, case_sound}
use Rattle.casefile.proofs.Taken.{filled_starts}
use Rattle.casefile.specs.Case.{item_at, boundary_at, means_length, means_of, days_of, readings_offset, readings_length, reading_boundary, reading_count, cuts_offset, cuts_length, cut_boundary, end_of, account_of}
use Rattle.casewriter.specs.Bytes.{little_bytes, twos}
use Rattle.casewriter.specs.File.{mean_item, reading_item, cut_item, cuts_at, means_section, readings_section, cuts_section, file_of}
use Rattle.casewriter.specs.Writer.{account_given}
use Rattle.casewriter.specs.RoundTrip.{ReadsBack, SameAgain}
use Rattle.casewriter.proofs.Sizes.{bytes_long, mean_long, reading_long, section_long}
use Rattle.casewriter.proofs.Lies.{Lies, lies_first, lies_rest, lies_whole, number_lies, Found, found}
use Rattle.casewriter.proofs.Named.{weights_named}
use Rattle.casewriter.proofs.Named as named
use Rattle.casewriter.proofs.Accepted.{Accepted, given_days, accepted, begins}
use Rattle.casewriter.proofs.Listed.{many_most, many_all, Listed, listed_same, before_each, fewer, earlier, ith}

-- a sound account has no count where it has no reading
zero_count : (a : Account) → Checked a → (k : ℕ) → k < suc (days a) → (shown a).readings.at k ≡ false → get_or a.counts k 0 ≡ 0
unfolding zero_counts
zero_count a c k l e =
    let h = every_at (λ j. (shown a).readings.at j || eqb (get_or a.counts j 0) 0) (suc (days a)) (sound_parts a c.sound).zeros k l in
    eqb-true (get_or a.counts k 0) 0 (rw e at h)

-- a mean in range as a 16-bit number, and back
record Sixteen (t : ℤ) : Type 0 where
  small : twos t < 65536
  same : signed (twos t) ≡ t

sixteen : (t : ℤ) → in_range t ≡ true → Sixteen t
unfolding signed
sixteen (pos n) r =
    let l = parts (le_warm (pos n) r) in
    record { small = omega (arith, l); same = rw (lt-ltb n 32768 (omega (arith, l))) refl }
sixteen (negsuc n) r =
    let l = parts (cold_le (negsuc n) r) in
    let e : 65536 - (65535 - n) ≡ suc n = omega (arith, l) in
    record { small = omega arith; same = rw (le-ltb (65535 - n) 32768 (omega (arith, l)), e) refl }

-- the boundaries of a section that the reader finds are those that were written
found_listed : (width : ℕ) (p : ℕ → Bool) (item : ℕ → List ℕ) (long : (k : ℕ) → length (item k) ≡ width) {s : List ℕ} {at m : ℕ} → Found width p item long s at m
    → ((k at : ℕ) → k < m → Lies s at (item k) → number16 s at ≡ k) → ((k : ℕ) → p k ≡ true → k < m) → Listed p (boundary_at width s at) (number16 s at) m
found_listed width p item long {s} {at} {m} f reads inside =
    record {
      rise = λ i j l c.
          let (k, below, holds, many) = ith p m i (omega (arith, f.counted)) in
          let (k', below', holds', many') = ith p m j (omega (arith, f.counted)) in
          omega (arith, earlier p k k' (omega arith), is i k below holds many, is j k' below' holds' many');
      below = λ i l. let (k, below, holds, many) = ith p m i (omega (arith, f.counted)) in omega (arith, is i k below holds many);
      at = λ i l. let (k, below, holds, many) = ith p m i (omega (arith, f.counted)) in subst⁻¹ (λ (j : ℕ). p j ≡ true) (is i k below holds many) holds;
      from = λ k t. (how_many p k, omega (arith, f.counted, fewer p m k (inside k t) t), is (how_many p k) k (inside k t) t refl);
    }
  where
    is : (i k : ℕ) → k < m → p k ≡ true → how_many p k ≡ i → boundary_at width s at i ≡ k
    is i k below holds many = reads k (item_at width at i) below (subst (λ (j : ℕ). Lies s (item_at width at j) (item k)) many (f.each k below holds))

-- boundaries that are listed up to n, of items that are all there, have no fault
boundary_clean : (width : ℕ) (s : List ℕ) (at n : ℕ) {p : ℕ → Bool} → Listed p (boundary_at width s at) (number16 s at) (n + 1) → item_at width at (number16 s at) ≤ length s
    → (i : ℕ) → i < number16 s at → boundary_fault width s at n i ≡ no_fault
boundary_clean width s at n l inside i h =
    let fits = mul-le-mul (le_refl width) h in
    rw (
      le-ltb (length s) (item_at width at i + width) (omega (arith, mul-suc width i)),
      rises i h,
      le-ltb n (boundary_at width s at i) (omega (arith, l.below i h)),
    ) refl
  where
    rises : (i : ℕ) → i < number16 s at → fails_to_rise (boundary_at width s at) i ≡ false
    rises zero h = refl
    rises (suc i) h = lt-leb _ _ (l.rise i (suc i) (omega arith) h)

module _ {profile weekday : ℕ} {means : List ℤ} {marks counts : List ℕ} (a : Accepted profile weekday means marks counts) (bound : (k : ℕ) → get_or counts k 0 < 2 ^ 64)
    (s : List ℕ) (whole : Lies s 0 (file_of profile weekday means marks counts)) (long : length s ≡ length (file_of profile weekday means marks counts)) where
  abbrev written : Account
  written = account_given profile weekday means marks counts

  -- as many marks and counts as the means ask
  record Sized : Type 0 where
    least : 4 ≤ length means
    most : length means ≤ 1099
    marks_long : length marks ≡ length means - 3 + 1
    counts_long : length counts ≡ length means - 3 + 1

  sized : Sized
  sized =
      let f = fit written a.checked.fits in
      let d = given_days profile weekday means marks counts in
      record { least = omega (arith, f.least, d); most = omega (arith, f.most, d); marks_long = omega (arith, f.marks, d); counts_long = omega (arith, f.counts, d) }

  -- the sections, where the reader finds them
  abbrev head : List ℕ
  head = profile ∷ weekday ∷ []

  means_found : Found 2 (λ i. true) (mean_item means) (mean_long means) s 2 (length means)
  means_found =
      found 2 (λ i. true) (mean_item means) (mean_long means) (length means) (omega (arith, many_all (λ i. true) (λ i. refl) (length means), sized.most))
      (lies_rest head (means_section means)
      (lies_first (head ++ means_section means) (readings_section marks counts)
      (lies_first (head ++ means_section means ++ readings_section marks counts) (cuts_section marks) whole)))

  means_counted : means_length s ≡ length means
  means_counted = means_found.counted ∙ many_all (λ i. true) (λ i. refl) (length means)

  readings_start_lem : 0 + length (head ++ means_section means) ≡ readings_offset s
  readings_start_lem =
      omega (arith, length-append head (means_section means), section_long 2 (λ i. true) (mean_item means) (mean_long means) (length means), means_found.counted)

  readings_found : Found 10 (reads_at marks) (reading_item counts) (reading_long counts) s (readings_offset s) (length marks)
  readings_found =
      found 10 (reads_at marks) (reading_item counts) (reading_long counts) (length marks) (omega (arith, many_most (reads_at marks) (length marks), sized.marks_long, sized.most))
      (subst (λ (at : ℕ). Lies s at (readings_section marks counts)) readings_start_lem
      (lies_rest (head ++ means_section means) (readings_section marks counts)
      (lies_first (head ++ means_section means ++ readings_section marks counts) (cuts_section marks) whole)))

  cuts_start_lem : 0 + length (head ++ means_section means ++ readings_section marks counts) ≡ cuts_offset s
  cuts_start_lem =
      omega (
        arith,
        length-append (head ++ means_section means) (readings_section marks counts),
        readings_start_lem,
        section_long 10 (reads_at marks) (reading_item counts) (reading_long counts) (length marks),
        readings_found.counted,
      )

  cuts_found : Found 2 (cuts_at marks) cut_item (bytes_long 2) s (cuts_offset s) (length marks)
  cuts_found =
      found 2 (cuts_at marks) cut_item (bytes_long 2) (length marks) (omega (arith, many_most (cuts_at marks) (length marks), sized.marks_long, sized.most))
      (subst (λ (at : ℕ). Lies s at (cuts_section marks)) cuts_start_lem
      (lies_rest (head ++ means_section means ++ readings_section marks counts) (cuts_section marks) whole))

  ends : end_of s ≡ length s
  ends =
      omega (
        arith,
        long,
        length-append (head ++ means_section means ++ readings_section marks counts) (cuts_section marks),
        cuts_start_lem,
        section_long 2 (cuts_at marks) cut_item (bytes_long 2) (length marks),
        cuts_found.counted,
      )

  -- the first bytes and the means
  profile_is : byte s 0 ≡ profile
  profile_is = whole.each 0 (omega (arith, long, ends))

  weekday_is : byte s 1 ≡ weekday
  weekday_is = whole.each 1 (omega (arith, long, ends))

  mean_in : (i : ℕ) → i < length means → in_range (mean_at means i) ≡ true
  mean_in = all_in means a.in_range_lem

  mean_is : (i : ℕ) → i < length means → cases.mean_at s 2 i ≡ mean_at means i
  mean_is i l =
      let t = sixteen (mean_at means i) (mean_in i l) in
      let lies = subst (λ (j : ℕ). Lies s (item_at 2 2 j) (mean_item means i)) (many_all (λ j. true) (λ j. refl) i) (means_found.each i l refl) in
      ap signed (number_lies 2 (twos (mean_at means i)) t.small lies) ∙ t.same

  means_are : means_of s ≡ means
  means_are =
      let m = list_of_length (cases.mean_at s 2) (means_length s) in
      ext_get_or (pos 0) (means_of s) means (m ∙ means_counted) λ i l.
      list_of_at (pos 0) (cases.mean_at s 2) (means_length s) i (omega arith) ∙ mean_is i (omega (arith, means_counted))

  -- nothing before the readings is a fault
  there : (to : ℕ) → to ≤ length s → ltb (length s) to ≡ false
  there to l = le-ltb (length s) to l

  span_clean : span_fault s ≡ no_fault
  span_clean =
      rw (
        there 1 (omega (arith, ends)),
        profile_is,
        lt-leb profile_count profile a.profile_known,
        there 2 (omega (arith, ends)),
        weekday_is,
        le-ltb 6 weekday a.weekday_known,
        there 4 (omega (arith, ends)),
        means_counted,
        le-leb 1 (length means - 3) (omega (arith, sized.least)),
        le-leb (length means - 3) span_most (omega (arith, sized.most)),
      )
      (none_of (mean_fault s) (length means) λ i l. rw (there (item_at 2 2 i + 2) (omega (arith, ends, means_counted)), mean_is i l, mean_in i l) refl)

  -- a boundary with a mark is one of the account's
  inside : (f : ℕ → Bool) → f 0 ≡ false → (k : ℕ) → f (get_or marks k 0) ≡ true → k < length marks
  inside f none k t = go (dec_lt k (length marks))
    where
      go : Dec (k < length marks) → k < length marks
      go (yes l) = l
      go (no g) = absurd (clash t (ap f (get_or-eq_default marks 0 {n = k} (omega arith)) ∙ none))

  boundary_small : (k : ℕ) → k < length marks → k < 65536
  boundary_small k l = omega (arith, sized.marks_long, sized.most)

  readings_listed : Listed (reads_at marks) (reading_boundary s) (readings_length s) (length marks)
  readings_listed =
      found_listed 10 (reads_at marks) (reading_item counts) (reading_long counts) readings_found
      (λ k at l lies. number_lies 2 k (boundary_small k l) (lies_first (little_bytes 2 k) _ lies)) (inside marks_reading refl)

  cuts_listed : Listed (cuts_at marks) (cut_boundary s) (cuts_length s) (length marks)
  cuts_listed = found_listed 2 (cuts_at marks) cut_item (bytes_long 2) cuts_found (λ k at l lies. number_lies 2 k (boundary_small k l) lies) (inside marks_cut refl)

  count_is : (i : ℕ) → i < readings_length s → reading_count s i ≡ count_at counts (reading_boundary s i)
  count_is i l =
      let k = reading_boundary s i in
      let item = subst (λ (j : ℕ). Lies s (item_at 10 (readings_offset s) j) (reading_item counts k)) (before_each (reads_at marks) readings_listed i l)
      (readings_found.each k (readings_listed.below i l) (readings_listed.at i l)) in
      number_lies 8 (count_at counts k) (bound k)
      (subst (λ (j : ℕ). Lies s (item_at 10 (readings_offset s) i + j) (little_bytes 8 (count_at counts k))) (bytes_long 2 k) (lies_rest (little_bytes 2 k) _ item))

  -- no count is below one before it, and none more than 2,000,000,000 above the first
  boundary_in : (i : ℕ) → i < readings_length s → reading_boundary s i < suc (days written)
  boundary_in i l = omega (arith, readings_listed.below i l, (fit written a.checked.fits).marks)

  rising : Rising (shown written).readings (suc (days written))
  rising = pairs (shown written).readings (suc (days written)) (sound_parts written a.checked.sound).order (suc (days written)) (le_refl _)

  not_below : (j i : ℕ) → j < i → i < readings_length s → reading_count s j ≤ reading_count s i
  not_below j i h l =
      omega (
        arith,
        count_is j (omega arith),
        count_is i l,
        rising (reading_boundary s j) (reading_boundary s i) (omega (arith, readings_listed.rise j i h l)) (boundary_in i l) (readings_listed.at j (omega arith)) (readings_listed.at i l),
      )

  within : (i : ℕ) → i < readings_length s → reading_count s i - reading_count s 0 ≤ energy_most
  unfolding last_less_first
  within i l =
      let r = (shown written).readings in
      let n = days written in
      let first = first_found r.at (suc n) (reading_boundary s 0) (boundary_in 0 (omega arith)) (readings_listed.at 0 (omega arith)) in
      let last = last_found r.at (suc n) (reading_boundary s i) (boundary_in i l) (readings_listed.at i l) in
      let low = rising (first_reading n r) (reading_boundary s 0) (first_least r.at first (readings_listed.at 0 (omega arith))) (boundary_in 0 (omega arith)) first.holds (readings_listed.at 0 (omega arith)) in
      let high = rising (reading_boundary s i) (last_reading n r) (last_most r.at last (boundary_in i l) (readings_listed.at i l)) last.below (readings_listed.at i l) last.holds in
      omega (arith, count_is 0 (omega arith), count_is i l, (sound_parts written a.checked.sound).energy)

  -- so no reading and no cut has a fault, and no byte is left over
  up_to : length marks ≡ days_of s + 1
  up_to = omega (arith, sized.marks_long, means_counted)

  reading_clean : (i : ℕ) → i < readings_length s → reading_fault s i ≡ no_fault
  reading_clean i l =
      rw (
        boundary_clean 10 s (readings_offset s) (days_of s) (subst (Listed (reads_at marks) (reading_boundary s) (readings_length s)) up_to readings_listed) (omega (arith, readings_found.inside, readings_found.counted)) i l,
        none_is (λ j. ltb (reading_count s i) (reading_count s j)) i (λ j h. le-ltb (reading_count s i) (reading_count s j) (not_below j i h l)),
        le-ltb energy_most (reading_count s i - reading_count s 0) (within i l),
      ) refl

  cut_clean : (i : ℕ) → i < cuts_length s → cut_fault s i ≡ no_fault
  cut_clean i l =
      boundary_clean 2 s (cuts_offset s) (days_of s) (subst (Listed (cuts_at marks) (cut_boundary s) (cuts_length s)) up_to cuts_listed) (omega (arith, cuts_found.inside, cuts_found.counted)) i l

  pub no_fault_in : fault_of s ≡ no_fault
  no_fault_in =
      rw (
        span_clean,
        there (readings_offset s + 2) (omega (arith, ends)),
        none_of (reading_fault s) (readings_length s) reading_clean,
        there (cuts_offset s + 2) (omega (arith, ends)),
        none_of (cut_fault s) (cuts_length s) cut_clean,
        le-ltb (end_of s) (length s) (omega (arith, ends)),
      ) refl

  -- the account that the file names shows what was written, and so is it
  same_reading : (k : ℕ) → reads_at (account_of s).marks k ≡ reads_at marks k
  same_reading = listed_same (named.readings_listed s no_fault_in) readings_listed

  same_cut : (k : ℕ) → cuts_at (account_of s).marks k ≡ cuts_at marks k
  same_cut = listed_same (named.cuts_listed s no_fault_in) cuts_listed

  found_checked : Checked (account_of s)
  found_checked = let (fits, good, _) = case_sound s no_fault_in in record { fits = fits; sound = good }

  days_same : days (account_of s) ≡ days written
  days_same = (case_long s).days_are ∙ ap (λ (n : ℕ). n - 3) means_counted ∙ sym (given_days profile weekday means marks counts)

  same_mark : (k : ℕ) → k < suc (days written) → get_or (account_of s).marks k 0 ≡ get_or marks k 0
  same_mark k l =
      mark_is (get_or (account_of s).marks k 0) (mark_most (account_of s) (sound_parts (account_of s) found_checked.sound) k (omega (arith, days_same))) ∙
      (λ i. mark_of (same_reading k i) (same_cut k i)) ∙
      sym (mark_is (get_or marks k 0) (mark_most written (sound_parts written a.checked.sound) k l))

  same_count : (k : ℕ) → k < suc (days written) → get_or (account_of s).counts k 0 ≡ get_or counts k 0
  same_count k l = go (reads_at marks k) refl
    where
      go : (b : Bool) → reads_at marks k ≡ b → get_or (account_of s).counts k 0 ≡ get_or counts k 0
      go true e =
          let (i, h, at) = readings_listed.from k e in
          subst (λ (j : ℕ). count_at (account_of s).counts j ≡ count_at counts j) at (named.counts_listed s no_fault_in i h ∙ count_is i h)
      go false e =
          zero_count (account_of s) found_checked k (omega (arith, days_same)) (same_reading k ∙ e) ∙ sym (zero_count written a.checked k l e)

  pub account_is : account_of s ≡ written
  account_is =
      let f = fit written a.checked.fits in
      let g = fit (account_of s) found_checked.fits in
      λ i.
      account
      ((weights_named s ∙ λ j. weights_of (profile_is j) (weekday_is j) (means_are j) (replicate (means_counted j - 3) 7)) i)
      (ext_get_or 0 (account_of s).marks marks (omega (arith, f.marks, g.marks, days_same)) (λ k l. same_mark k (omega (arith, f.marks, g.marks, days_same))) i)
      (ext_get_or 0 (account_of s).counts counts (omega (arith, f.counts, g.counts, days_same)) (λ k l. same_count k (omega (arith, f.counts, g.counts, days_same))) i)

pub reads_back : ReadsBack
reads_back profile weekday means means_after marks counts before written marksAfter countsAfter placed size bound met lent after answered at n kept fitting reads =
    let file = file_of profile weekday means marks counts in
    let begun = begins met in
    let a = accepted met in
    let none = no_fault_in a bound file (lies_whole file) refl in
    let is = account_is a bound file (lies_whole file) refl in
    let r = subst (λ (s : List ℕ). ReadMet s lent answered at n after kept) begun reads in
    record {
      answers = r.answers ∙ rw (fitting, none) refl;
      places = r.places ∙ rw (fitting, none) refl;
      gives = r.gives ∙ rw (fitting, none) refl ∙ ap (λ (m : ℕ). m - 3) (means_counted a bound file (lies_whole file) refl);
      writes = r.writes ∙ rw (fitting, none) refl ∙ ap full is;
    }

pub same_again : SameAgain
same_again a after answered placed n fits r =
    let f = fit a fits in
    let e = r.gives in
    let whole : account (take n (full a).weights) (take (n + 1) (full a).marks) (take (n + 1) (full a).counts) ≡ a =
    rw (filled_starts span_most a.weights n (sym e), filled_starts (span_most + 1) a.marks (n + 1) (omega (arith, f.marks)), filled_starts (span_most + 1) a.counts (n + 1) (omega (arith, f.counts))) refl in
    ap (λ (b : Account). account (take n b.weights) (take (n + 1) b.marks) (take (n + 1) b.counts)) r.writes ∙ whole
