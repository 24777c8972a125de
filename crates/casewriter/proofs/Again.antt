-- A file that the reader takes is rewritten to its own bytes (K2): section by section, what the account of the file gives is what lies in the file. Assumes nothing.
use Prim.Native.Nat.{ℕ, zero, suc, ◌+◌, ◌-◌, ◌≤◌, ◌<◌}
use mathlib.Core.Path.{◌≡◌, refl, sym, ◌∙◌, ap, subst, subst⁻¹}
use mathlib.Core.Bool.{Bool, true, false, cond}
use mathlib.Core.List.{List, [], ◌∷◌, ◌++◌}
use native.Mathlib.Omega.{arith}
use native.Mathlib.Decide.{dec_lt}
use borrow.Author.Tests.{ltb-false, lt-ltb, le-ltb, lt-leb}
use lib.Dec.{ltb}
use lib.IntN.{ℤ, pos, neg_ℤ}
use lib.ListN.{length, get_or, take, drop, replicate, length-append}
use lib.Seq.{take_at, drop_at}
use Rattle.common.specs.Below.{how_many}
use Rattle.common.specs.Rows.{row}
use Rattle.common.proofs.Rows.{rows_all}
use Rattle.common.proofs.Lists.{list_of_length, list_of_at}
use Rattle.profile.specs.Limits.{profile_count}
use Rattle.weights.specs.Weights.{mean_at, weights_of}
use Rattle.account.specs.Account.{Account, account, days, unfit_lengths, sound}
use Rattle.account.specs.Slices.{reads_at, count_at}
use Rattle.casefile.specs.Bytes.{little, number16, signed}
use Rattle.casefile.specs.Case.{item_at, profile_byte, weekday_byte, means_length, means_of, days_of, readings_offset, readings_length, reading_boundary, cuts_offset, cuts_length, cut_boundary, end_of, account_of}
use Rattle.casefile.specs.Case as cases
use Rattle.casefile.specs.Faults.{no_fault, span_fault, readings_fault, cut_fault, cuts_fault, before_cuts_fault, sections_fault, left_over, fault_of}
use Rattle.casefile.proofs.Weighing.{means_in}
use Rattle.casefile.proofs.Sound.{case_long, case_sound}
use Rattle.casefile.proofs.Taken.{clean, accepted, taken_is}
use Rattle.casefile.proofs.Faults.{none_both, passes, no_fault_lem}
use Rattle.casefile.proofs.Items.{sane}
use Rattle.casefile.proofs.Chained.{items_end, clean_of, span_of}
use Rattle.casewriter.specs.Bytes.{little_bytes, twos}
use Rattle.casewriter.specs.File.{section, mean_item, reading_item, cut_item, cuts_at, means_section, readings_section, cuts_section, file_of}
use Rattle.casewriter.specs.Writer.{account_given, Ruling, ruling, WriteMet}
use Rattle.casewriter.specs.RoundTrip.{WrittenAs, Rewritten, OwnBytes}
use Rattle.casewriter.proofs.Sizes.{bytes_long, mean_long, reading_long, section_long}
use Rattle.casewriter.proofs.Lies.{Lies, lies_both, lies_all, number_back, Found, found_back}
use Rattle.casewriter.proofs.Listed.{many_all, Listed, before_each, all_counted}
use Rattle.casewriter.proofs.Named.{weights_named, reading_sane, cut_sane, readings_listed, counts_listed, cuts_listed}

-- two's complement and back
twos_signed : (x : ℕ) → x < 65536 → twos (signed x) ≡ x
unfolding signed
twos_signed x l = go (dec_lt x 32768)
  where
    go : Dec (x < 32768) → twos (cond (ltb x 32768) (pos x) (neg_ℤ (pos (65536 - x)))) ≡ x
    go (yes h) = rw (lt-ltb x 32768 h) refl
    go (no g) =
        let e : 65536 - x ≡ suc (65535 - x) = omega arith in
        rw (le-ltb x 32768 (omega arith), e) (omega arith)

-- what a row gives has what it is asked for
row_of : {A B : Type 0} (f : A → B) (b : Bool) (here below : A) → f (row b here below) ≡ row b (f here) (f below)
row_of f true here below = refl
row_of f false here below = refl

-- a slice shorter than the file, and one that holds it
abbrev short : (before : List ℕ) → Ruling
short before = record { number = 15; place = 0; size = 0; memory = before }

abbrev done : (file before : List ℕ) → Ruling
done file before = record { number = 0; place = 0; size = length file; memory = file ++ drop (length file) before }

-- where the sections of a file without a fault start, and where it ends
record Spaced (s : List ℕ) : Type 0 where
  readings : readings_offset s + 2 ≤ length s
  cuts : cuts_offset s + 2 ≤ length s
  end : end_of s ≤ length s
  whole : length s ≤ end_of s

spaced : (s : List ℕ) → fault_of s ≡ no_fault → Spaced s
spaced s e =
    let f = none_both (sections_fault s) (left_over s (end_of s)) e in
    let g = none_both (before_cuts_fault s) (cuts_fault s) f.0 in
    let h = none_both (span_fault s) (readings_fault s) g.0 in
    let c = passes (ltb (length s) (cuts_offset s + 2)) 13 (length s) _ g.1 in
    let there = ltb-false (length s) (cuts_offset s + 2) c.0 in
    record {
      readings = ltb-false _ _ (passes (ltb (length s) (readings_offset s + 2)) 13 (length s) _ h.1).0;
      cuts = there;
      end = items_end 2 s (cuts_offset s) (cut_fault s) (λ i n. (sane 2 s (cuts_offset s) (days_of s) i n).long) there (cuts_length s) c.1;
      whole = ltb-false _ _ (no_fault_lem (ltb (end_of s) (length s)) 13 (end_of s) f.1);
    }

-- a section whose items lie in the file where the reader finds them
listed_found : (width : ℕ) (p : ℕ → Bool) (item : ℕ → List ℕ) (long : (k : ℕ) → length (item k) ≡ width) {s : List ℕ} {at : ℕ} {b : ℕ → ℕ} {m : ℕ} → Listed p b (number16 s at) m
    → item_at width at (number16 s at) ≤ length s → ((i : ℕ) → i < number16 s at → Lies s (item_at width at i) (item (b i))) → Found width p item long s at m
listed_found width p item long {s} {at} {b} {m} l inside lies =
    record {
      counted = sym (all_counted p l);
      inside = rw (all_counted p l) inside;
      each = λ k h t.
          let (i, c, is) = l.from k t in
          subst (λ (j : ℕ). Lies s (item_at width at (how_many p j)) (item j)) is (subst⁻¹ (λ (n : ℕ). Lies s (item_at width at n) (item (b i))) (before_each p l i c) (lies i c));
    }

means_many : (s : List ℕ) → length (means_of s) ≡ means_length s
means_many s = list_of_length _ (means_length s)

module _ (s : List ℕ) (bytes : (i : ℕ) → get_or s i 0 < 256) (e : fault_of s ≡ no_fault) where
  small : (at : ℕ) → number16 s at < 65536
  unfolding little
  small at = omega (arith, bytes at, bytes (at + 1))

  -- a mean is the bytes that it was read from
  mean_lies : (i : ℕ) → i < length (means_of s) → Lies s (item_at 2 2 i) (mean_item (means_of s) i)
  mean_lies i l =
      let at = item_at 2 2 i in
      let same : twos (mean_at (means_of s) i) ≡ number16 s at =
      ap twos (list_of_at (pos 0) (cases.mean_at s 2) (means_length s) i (omega (arith, means_many s))) ∙ twos_signed (number16 s at) (small at) in
      subst⁻¹ (λ (n : ℕ). Lies s at (little_bytes 2 n)) same (number_back 2 s at bytes (omega (arith, means_many s, (spaced s e).readings)))

  means_found : Found 2 (λ i. true) (mean_item (means_of s)) (mean_long (means_of s)) s 2 (length (means_of s))
  means_found =
      let many = many_all (λ i. true) (λ i. refl) (length (means_of s)) ∙ means_many s in
      record {
        counted = sym many;
        inside = omega (arith, (spaced s e).readings);
        each = λ i l _. subst⁻¹ (λ (k : ℕ). Lies s (item_at 2 2 k) (mean_item (means_of s) i)) (many_all (λ j. true) (λ j. refl) i) (mean_lies i l);
      }

  -- .. and so is a reading, and a cut
  reading_lies : (i : ℕ) → i < readings_length s → Lies s (item_at 10 (readings_offset s) i) (reading_item (account_of s).counts (reading_boundary s i))
  reading_lies i l =
      let at = item_at 10 (readings_offset s) i in
      let long = (reading_sane s e i l).long in
      let count = number_back 8 s (at + 2) bytes (omega arith) in
      lies_both (little_bytes 2 (reading_boundary s i)) _ (number_back 2 s at bytes (omega arith))
      (subst⁻¹ (λ (j : ℕ). Lies s (at + j) (little_bytes 8 (count_at (account_of s).counts (reading_boundary s i)))) (bytes_long 2 (reading_boundary s i))
      (subst⁻¹ (λ (n : ℕ). Lies s (at + 2) (little_bytes 8 n)) (counts_listed s e i l) count))

  cut_lies : (i : ℕ) → i < cuts_length s → Lies s (item_at 2 (cuts_offset s) i) (cut_item (cut_boundary s i))
  cut_lies i l = number_back 2 s (item_at 2 (cuts_offset s) i) bytes (cut_sane s e i l).long

  readings_found : Found 10 (reads_at (account_of s).marks) (reading_item (account_of s).counts) (reading_long (account_of s).counts) s (readings_offset s) (days_of s + 1)
  readings_found = listed_found 10 _ _ (reading_long (account_of s).counts) (readings_listed s e) (omega (arith, (spaced s e).cuts)) reading_lies

  cuts_found : Found 2 (cuts_at (account_of s).marks) cut_item (bytes_long 2) s (cuts_offset s) (days_of s + 1)
  cuts_found = listed_found 2 _ _ (bytes_long 2) (cuts_listed s e) (spaced s e).end cut_lies

  abbrev marks : List ℕ
  marks = (account_of s).marks

  abbrev counts : List ℕ
  counts = (account_of s).counts

  abbrev file : List ℕ
  file = file_of (profile_byte s) (weekday_byte s) (means_of s) marks counts

  means_lie : Lies s 2 (means_section (means_of s))
  means_lie = found_back 2 (λ i. true) (mean_item (means_of s)) (mean_long (means_of s)) (length (means_of s)) bytes means_found

  readings_lie : Lies s (readings_offset s) (readings_section marks counts)
  readings_lie =
      subst⁻¹ (λ (n : ℕ). Lies s (readings_offset s) (section (reads_at marks) (reading_item counts) n)) (case_long s).marks_long
      (found_back 10 (reads_at marks) (reading_item counts) (reading_long counts) (days_of s + 1) bytes readings_found)

  cuts_lie : Lies s (cuts_offset s) (cuts_section marks)
  cuts_lie =
      subst⁻¹ (λ (n : ℕ). Lies s (cuts_offset s) (section (cuts_at marks) cut_item n)) (case_long s).marks_long
      (found_back 2 (cuts_at marks) cut_item (bytes_long 2) (days_of s + 1) bytes cuts_found)

  -- each section ends where the next one starts
  means_size : 2 + length (means_section (means_of s)) ≡ readings_offset s
  means_size = omega (arith, section_long 2 (λ i. true) (mean_item (means_of s)) (mean_long (means_of s)) (length (means_of s)), means_found.counted)

  readings_size : readings_offset s + length (readings_section marks counts) ≡ cuts_offset s
  readings_size =
      omega (arith, section_long 10 (reads_at marks) (reading_item counts) (reading_long counts) (length marks), ap (how_many (reads_at marks)) (case_long s).marks_long, readings_found.counted)

  cuts_size : cuts_offset s + length (cuts_section marks) ≡ end_of s
  cuts_size =
      omega (arith, section_long 2 (cuts_at marks) cut_item (bytes_long 2) (length marks), ap (how_many (cuts_at marks)) (case_long s).marks_long, cuts_found.counted)

  head_lies : Lies s 0 (profile_byte s ∷ weekday_byte s ∷ [])
  head_lies = record { inside = omega (arith, (spaced s e).readings); each = λ i l. go i l }
    where
      go : (i : ℕ) → i < 2 → get_or s (0 + i) 0 ≡ get_or (profile_byte s ∷ weekday_byte s ∷ []) i 0
      go zero l = refl
      go (suc zero) l = refl
      go (suc (suc i)) l = absurd (omega arith)

  pub file_again : file ≡ s
  file_again =
      let head = profile_byte s ∷ weekday_byte s ∷ [] in
      let m = means_section (means_of s) in
      let r = readings_section marks counts in
      let one = length-append head m in
      let two = length-append (head ++ m) r in
      let three = length-append (head ++ m ++ r) (cuts_section marks) in
      let after-means : readings_offset s ≡ 0 + length (head ++ m) = omega (arith, means_size) in
      let after_readings : cuts_offset s ≡ 0 + length (head ++ m ++ r) = omega (arith, means_size, readings_size) in
      lies_all s file
      (lies_both (head ++ m ++ r) (cuts_section marks)
      (lies_both (head ++ m) r
      (lies_both head m head_lies means_lie)
      (subst (λ (at : ℕ). Lies s at r) after-means readings_lie))
      (subst (λ (at : ℕ). Lies s at (cuts_section marks)) after_readings cuts_lie))
      (omega (arith, means_size, readings_size, cuts_size, (spaced s e).whole))

  -- .. and no row holds of what the file itself gives
  given_is : account_given (profile_byte s) (weekday_byte s) (means_of s) marks counts ≡ account_of s
  given_is = λ i. account ((ap (λ (n : ℕ). weights_of (profile_byte s) (weekday_byte s) (means_of s) (replicate (n - 3) 7)) (means_many s) ∙ sym (weights_named s)) i) marks counts

  rules : (before : List ℕ) → ruling (profile_byte s) (weekday_byte s) (means_of s) marks counts before ≡ row (ltb (length before) (length s)) (short before) (done s before)
  rules before =
      let c = clean_of s e in
      let span = span_of s 0 c.span in
      let (fits, good, long) = case_sound s e in
      let days_are : length (means_of s) - 3 ≡ days (account_of s) = ap (λ (n : ℕ). n - 3) (means_many s) ∙ sym long in
      let fit : unfit_lengths (length (means_of s) - 3) (length marks) (length counts) ≡ false = ap (λ (n : ℕ). unfit_lengths n (length marks) (length counts)) days_are ∙ fits in
      rw (
        fit,
        lt-leb profile_count (profile_byte s) span.first.profile_known,
        le-ltb 6 (weekday_byte s) span.first.weekday_known,
        means_in s 2 (means_length s) span.means,
        ap sound given_is ∙ good,
      ) (ap (λ (f : List ℕ). row (ltb (length before) (length f)) (short before) (done f before)) file_again)

  pub written_as : {before after marksAfter countsAfter : List ℕ} {means_after : List ℤ} {answered placed given : ℕ}
      → WriteMet (profile_byte s) (weekday_byte s) (means_of s) marks counts before answered placed given after means_after marksAfter countsAfter → WrittenAs s before answered placed given after
  written_as {before} met =
      let is-short = ltb (length before) (length s) in
      record {
        answers = met.answers ∙ ap (λ (r : Ruling). r.number) (rules before) ∙ row_of (λ (r : Ruling). r.number) is-short (short before) (done s before);
        places = met.places ∙ ap (λ (r : Ruling). r.place) (rules before) ∙ rows_all (λ (r : Ruling). r.place ≡ 0) is-short {here = short before} {below = done s before} refl refl;
        gives = met.gives ∙ ap (λ (r : Ruling). r.size) (rules before) ∙ row_of (λ (r : Ruling). r.size) is-short (short before) (done s before);
        writes = met.writes ∙ ap (λ (r : Ruling). r.memory) (rules before) ∙ row_of (λ (r : Ruling). r.memory) is-short (short before) (done s before);
      }

pub rewritten : Rewritten
rewritten s kept lent read at n bytes reads before after marksAfter countsAfter means_after answered placed given met =
    written_as s bytes (clean s lent (accepted reads))
    (subst (λ (a : Account). WriteMet (profile_byte s) (weekday_byte s) (means_of s) a.marks a.counts before answered placed given after means_after marksAfter countsAfter) (taken_is reads) met)

pub own_bytes : OwnBytes
own_bytes file before after answered placed given w room =
    let long = le-ltb (length before) (length file) room in
    let size : given ≡ length file = w.gives ∙ rw long refl in
    let is : after ≡ file ++ drop (length file) before = w.writes ∙ rw long refl in (
      w.answers ∙ rw long refl,
      ap (take given) is ∙ take_at file (drop (length file) before) given (sym size),
      ap (drop given) is ∙ drop_at file (drop (length file) before) given (sym size) ∙ ap (λ (n : ℕ). drop n before) (sym size),
    )
