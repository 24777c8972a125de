-- The sections one after the other (Case file, If a call declines): each is read where those before it have no fault. Assumes nothing.
use Prim.Native.Nat.{ℕ, zero, suc, ◌+◌, ◌-◌, ◌≤◌}
use mathlib.Core.Path.{◌≡◌, refl, sym, ◌∙◌, ap, ap₂}
use mathlib.Core.List.{List, ◌++◌}
use native.Mathlib.Omega.{arith}
use native.Mathlib.Nat.{mul-suc}
use lib.Dec.{ltb}
use lib.IntN.{ℤ}
use lib.ListN.{length, take, drop, replicate, length-replicate, replicate-append-replicate}
use lib.Seq.{length-take-le}
use Rattle.common.specs.Rows.{filled}
use Rattle.weights.proofs.Span.{weights_length}
use Rattle.profile.specs.Limits.{span_most}
use Rattle.weights.specs.Weights.{weights_of}
use Rattle.account.specs.Account.{Account, account}
use Rattle.common.specs.declared.refusal.Fault as placed
use Rattle.casefile.specs.Bytes.{byte, number16}
use Rattle.casefile.specs.Case.{item_at, end_at, readings_put, cuts_put, means_length, means_of, days_of, readings_offset, readings_length, cuts_offset, cuts_length, end_of, empty_case, with_readings}
use Rattle.casefile.specs.Faults.{Fault, no_fault, first_fault, first_bytes_fault, mean_fault_at, items_fault, head_fault_at, span_fault_at, readings_fault_at, cuts_fault_at, left_over, reading_fault, readings_fault, cut_fault, cuts_fault, span_fault, before_cuts_fault, sections_fault, fault_of}
use Rattle.casefile.specs.Reader.{full}
use Rattle.casefile.specs.Sections.{told, Passed, MeansStand, means_fault_at, Clear, Weighable, ReadingsPut, CutsPut, AllClear, Filled}
use Rattle.casefile.proofs.Faults.{passes, none_both, none_before}
use Rattle.casefile.proofs.Kept.{readings_kept}
use Rattle.casefile.proofs.Items.{full_readings}
use Rattle.casefile.proofs.Marked.{full_cuts}
use Rattle.casefile.proofs.Weighing.{GoodSpan, FirstBytes, first_bytes_none, means_count_none, means_in, rest_zero}

-- items without a fault end within the file
pub items_end : (width : ℕ) (s : List ℕ) (at : ℕ) (item : ℕ → Fault) → ((i : ℕ) → item i ≡ no_fault → item_at width at i + width ≤ length s) → at + 2 ≤ length s
    → (i : ℕ) → first_fault item i ≡ no_fault → item_at width at i ≤ length s
items_end width s at item long l zero e = omega arith
items_end width s at item long l (suc i) e = simp mul-suc (omega (arith, long i (none_before item (suc i) i (omega arith) e)))

-- the first bytes, the count of means and the means have no fault
pub record Span (s : List ℕ) (at : ℕ) : Type 0 where
  pub first : FirstBytes s at
  pub long : at + 2 + 2 ≤ length s
  pub span : GoodSpan (number16 s (at + 2) - 3)
  pub means : items_fault s (at + 2) (mean_fault_at s (at + 2)) ≡ no_fault

pub span_of : (s : List ℕ) (at : ℕ) → span_fault_at s at ≡ no_fault → Span s at
span_of s at e =
    let m = none_both (head_fault_at s at) _ e in
    let h = none_both (first_bytes_fault s at) _ m.0 in
    let c = means_count_none s (at + 2) h.1 in
    record { first = first_bytes_none s at h.0; long = c.0; span = c.1; means = m.1 }

-- the parts of a file without a fault have none
pub record Clean (s : List ℕ) : Type 0 where
  pub span : span_fault s ≡ no_fault
  pub readings : first_fault (reading_fault s) (readings_length s) ≡ no_fault
  pub cuts : first_fault (cut_fault s) (cuts_length s) ≡ no_fault
  pub ended : left_over s (end_of s) ≡ no_fault

pub clean_of : (s : List ℕ) → fault_of s ≡ no_fault → Clean s
clean_of s e =
    let f = none_both (sections_fault s) (left_over s (end_of s)) e in
    let g = none_both (before_cuts_fault s) (cuts_fault s) f.0 in
    let h = none_both (span_fault s) (readings_fault s) g.0 in
    record {
      span = h.0;
      readings = (passes (ltb (length s) (readings_offset s + 2)) 13 (length s) _ h.1).1;
      cuts = (passes (ltb (length s) (cuts_offset s + 2)) 13 (length s) _ g.1).1;
      ended = f.1;
    }

-- zeros, filled up with zeros
clear_filled : {m : ℕ} {lent : List ℕ} (n : ℕ) → Clear m lent → n ≤ m → lent ≡ filled m (replicate n 0)
clear_filled {m} {lent} n c l =
    let e : length lent ≡ n + (m - n) = omega (arith, c.long) in
    c.zero_throughout ∙ ap (λ (k : ℕ). replicate k 0) e ∙ sym (replicate-append-replicate n (m - n) 0) ∙ ap (λ (k : ℕ). replicate n 0 ++ replicate (m - k) 0) (sym (length-replicate n 0))

-- the sections one after the other: the fault of each is the file's where those before it have none
module _ (s : List ℕ) {a : ℕ} {P : Type 0} (first : Passed (first_bytes_fault s 0) 2 a P) where
  pub means_told : (e : placed.Fault) → means_fault_at s a ≡ told e → fault_of s ≡ told e
  means_told e f = rw (first.clean, sym (ap (means_fault_at s) first.stands) ∙ f) refl

  module _ {b days : ℕ} {means : List ℤ} (span : Passed (means_fault_at s a) (end_at 2 s a) b (MeansStand s a means days)) where
    span_clean : span_fault s ≡ no_fault
    span_clean = rw first.clean (sym (ap (means_fault_at s) first.stands) ∙ span.clean)

    from : b ≡ readings_offset s
    from = span.stands ∙ ap (end_at 2 s) first.stands

    days_are : days ≡ days_of s
    days_are = span.gives.days_are ∙ ap (λ (x : ℕ). number16 s x - 3) first.stands

    readings_fault_lem : readings_fault_at s b days ≡ readings_fault s
    readings_fault_lem = ap₂ (readings_fault_at s) from days_are

    span_is : Span s 0
    span_is = span_of s 0 span_clean

    pub few_days : days ≤ span_most
    few_days = rw days_are span_is.span.most

    pub readings_told : (e : placed.Fault) → readings_fault_at s b days ≡ told e → fault_of s ≡ told e
    readings_told e f = rw (span_clean, sym readings_fault_lem ∙ f) refl

    module _ {c : ℕ} {marks₀ counts₀ marks counts : List ℕ} (read : Passed (readings_fault_at s b days) (end_at 10 s b) c (ReadingsPut s b marks₀ counts₀ marks counts)) where
      readings_clean : readings_fault s ≡ no_fault
      readings_clean = sym readings_fault_lem ∙ read.clean

      to : c ≡ cuts_offset s
      to = read.stands ∙ ap (end_at 10 s) from

      cuts_fault_lem : cuts_fault_at s c days ≡ cuts_fault s
      cuts_fault_lem = ap₂ (cuts_fault_at s) to days_are

      pub cuts_told : (e : placed.Fault) → cuts_fault_at s c days ≡ told e → fault_of s ≡ told e
      cuts_told e f = rw (span_clean, readings_clean, sym cuts_fault_lem ∙ f) refl

      module _ {d : ℕ} {cut : List ℕ} (put : Passed (cuts_fault_at s c days) (end_at 2 s c) d (CutsPut s c marks cut)) where
        cuts_clean : cuts_fault s ≡ no_fault
        cuts_clean = sym cuts_fault_lem ∙ put.clean

        end : left_over s d ≡ left_over s (end_of s)
        end = ap (left_over s) (put.stands ∙ ap (end_at 2 s) to)

        pub left_told : (e : placed.Fault) → left_over s d ≡ told e → fault_of s ≡ told e
        left_told e f = rw (span_clean, readings_clean, cuts_clean) (sym end ∙ f)

        -- the whole file, into cleared slices
        module _ {weights₀ : List ℕ} (l : AllClear (account weights₀ marks₀ counts₀)) (ended : left_over s d ≡ no_fault) where
          none : fault_of s ≡ no_fault
          none = rw (span_clean, readings_clean, cuts_clean) (sym end ∙ ended)

          first_means_lem : take (days + 3) means ≡ means_of s
          first_means_lem =
              let enough : days + 3 ≡ means_length s = omega (arith, days_are, span_is.span.least) in
              rw enough (rw first.stands at span.gives.read)

          room : length (take days weights₀) ≡ days
          room = length-take-le days weights₀ (omega (arith, few_days, l.weights.long))

          pub weighable : length means ≡ span_most + 3 → Weighable (byte s 0) (byte s 1) (take (days + 3) means) (take days weights₀)
          weighable long =
              record {
                profile_known = span_is.first.profile_known;
                weekday_known = span_is.first.weekday_known;
                least = rw (room, days_are) span_is.span.least;
                most = rw room few_days;
                enough = rw room (length-take-le (days + 3) means (omega (arith, few_days, long)));
                means_in_range = rw first_means_lem (means_in s 2 (means_length s) span_is.means);
              }

          pub file_filled : {written : List ℕ} → length means ≡ span_most + 3 → written ≡ weights_of (byte s 0) (byte s 1) (take (days + 3) means) (replicate (length (take days weights₀)) 7)
              → Filled s (account (written ++ drop days weights₀) cut counts) days
          file_filled {written} long e =
              let weights = written ++ drop days weights₀ in
              let counted : length written ≡ days = ap length e ∙ weights_length (byte s 0) (byte s 1) (take (days + 3) means) (replicate (length (take days weights₀)) 7) ∙ omega (arith, (weighable long).enough, room) in
              let w : weights ≡ filled span_most (weights_of (byte s 0) (byte s 1) (take (days + 3) means) (replicate days 7)) =
              rest_zero days written l.weights counted ∙ ap (filled span_most) (rw room at e) in
              let n = days_of s in
              let parts = clean_of s none in
              let fits : n + 1 ≤ span_most + 1 = omega (arith, span_is.span.most) in
              let start : account weights marks₀ counts₀ ≡ full (empty_case s) = λ i.
              account ((w ∙ ap₂ (λ (xs : List ℤ) (n : ℕ). filled span_most (weights_of (byte s 0) (byte s 1) xs (replicate n 7))) first_means_lem days_are) i) (clear_filled (n + 1) l.marks fits i) (clear_filled (n + 1) l.counts fits i) in
              let k = readings_kept (empty_case s) s (readings_offset s) (readings_length s) in
              record {
                clean = none;
                days_are = days_are;
                fills =
                    put.gives.puts weights counts ∙
                    (λ i. cuts_put ((read.gives.puts weights ∙ (λ j. readings_put (start j) s (from j) (number16 s (from j)))) i) s (to i) (number16 s (to i))) ∙
                    ap (λ (b : Account). cuts_put b s (cuts_offset s) (cuts_length s)) (sym (full_readings (empty_case s) s (readings_offset s) n (readings_length s) (length-replicate (n + 1) 0) (length-replicate (n + 1) 0) parts.readings)) ∙
                    sym (full_cuts (with_readings s (readings_length s)) s (cuts_offset s) n (cuts_length s) (k.marks_long ∙ length-replicate (n + 1) 0) parts.cuts);
              }
