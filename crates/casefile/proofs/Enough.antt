-- Enough bytes (Case file): of a longer file the reader's verdict looks at no byte from 16,384 on. Assumes nothing.
use Prim.Native.Nat.{ℕ, zero, suc, ◌+◌, ◌-◌, ◌≤◌, ◌<◌}
use mathlib.Core.Path.{◌≡◌, refl, sym, ◌∙◌, ap}
use mathlib.Core.List.{List}
use native.Mathlib.Omega.{arith}
use native.Mathlib.Decide.{dec_lt}
use borrow.Author.Tests.{lt-ltb}
use lib.Dec.{ltb, leb}
use lib.ListN.{length, take}
use lib.Seq.{get_or-take, length-take-le, take_all}
use Rattle.profile.specs.Limits.{profile_count, span_most, bad_span}
use Rattle.casefile.specs.Bytes.{number16}
use Rattle.casefile.specs.Case.{item_at, end_at, means_length, days_of, readings_offset, readings_length, cuts_offset, cuts_length, end_of}
use Rattle.casefile.specs.Faults.{Fault, no_fault, refused, ◌before◌, fault, first_fault, first_bytes_fault, cut_fault_at, reading_fault_at, section_fault, left_over, items_fault, mean_fault, head_fault, readings_fault, cuts_fault, span_fault, before_cuts_fault, sections_fault, fault_of}
use Rattle.casefile.specs.Length.{file_most, bytes_read, EnoughBytes}
use Rattle.casefile.proofs.Alike.{Alike, number, whole, mean_same, boundary_same, reading_same}
use Rattle.casefile.proofs.Faults.{none_both, passes}
use Rattle.casefile.proofs.Weighing.{means_count_none}
use Rattle.casefile.proofs.Longest.{few_readings, few_cuts}

-- the first fault of two is the same where each is, the second only needed where the first is none
both_same : (f g : Fault) {f' g' : Fault} → f ≡ f' → (f ≡ no_fault → g ≡ g') → (f before g) ≡ (f' before g')
both_same no_fault g {f'} {g'} e h = h refl ∙ ap (λ (x : Fault). x before g') e
both_same (refused n k) g {f'} {g'} e h = ap (λ (x : Fault). x before g') e

-- items that are the same one by one
first_same : (f g : ℕ → Fault) (m : ℕ) → ((i : ℕ) → i < m → f i ≡ g i) → first_fault f m ≡ first_fault g m
unfolding first_fault
first_same f g zero same = refl
first_same f g (suc m) same = λ k. first_same f g m (λ i l. same i (omega arith)) k before same m (omega arith) k

-- a fault among the first m items is the first of any more
keeps : (f g : Fault) → (f ≡ no_fault → ⊥) → (f before g) ≡ f
keeps no_fault g h = absurd (h refl)
keeps (refused n k) g h = refl

first_stays : (f : ℕ → Fault) (m k : ℕ) → m ≤ k → (first_fault f m ≡ no_fault → ⊥) → first_fault f k ≡ first_fault f m
unfolding first_fault
first_stays f m zero l h =
    let same : 0 ≡ m = omega arith in
    ap (first_fault f) same
first_stays f m (suc k) l h = go (first_stays f m k) (dec_lt k m)
  where
    go : (m ≤ k → (first_fault f m ≡ no_fault → ⊥) → first_fault f k ≡ first_fault f m) → Dec (k < m) → first_fault f (suc k) ≡ first_fault f m
    go earlier (yes g) =
        let same : suc k ≡ m = omega arith in
        ap (first_fault f) same
    go earlier (no n) =
        let e = earlier (omega arith) h in
        keeps (first_fault f k) (f k) (λ z. h (sym e ∙ z)) ∙ e

-- .. so that the items after those decide nothing
within_same : (f g : ℕ → Fault) (most m : ℕ) → ((i : ℕ) → i < most → f i ≡ g i) → (first_fault f most ≡ no_fault → ⊥) → first_fault f m ≡ first_fault g m
within_same f g most m same h = go (dec_lt m most)
  where
    all : first_fault f most ≡ first_fault g most
    all = first_same f g most same

    go : Dec (m < most) → first_fault f m ≡ first_fault g m
    go (yes l) = first_same f g m (λ i k. same i (omega arith))
    go (no n) = first_stays f most m (omega arith) h ∙ all ∙ sym (first_stays g most m (omega arith) (λ z. h (all ∙ z)))

module _ {s t : List ℕ} (a : Alike s t) where
  head_same : head_fault s ≡ head_fault t
  head_same = λ k.
      (whole a 1 (omega arith) k before
      fault (leb profile_count (a.same 0 (omega arith) k)) 1 0 before
      whole a 2 (omega arith) k before
      fault (ltb 6 (a.same 1 (omega arith) k)) 2 1) before
      whole a 4 (omega arith) k before
      fault (bad_span (number a 2 2 (omega arith) k - 3)) 3 2

  -- a section whose items are the same up to one that cannot rise within the span
  section_same : (at most : ℕ) (f g : ℕ → Fault) → at + 2 ≤ bytes_read → ((i : ℕ) → i < most → f i ≡ g i) → (first_fault f most ≡ no_fault → ⊥) → section_fault s at f ≡ section_fault t at g
  section_same at most f g l same h =
      let items = within_same f g most (number16 s at) same h ∙ ap (first_fault g) (number a 2 at l) in
      λ k. whole a (at + 2) l k before items k

  means_counted : means_length s ≡ means_length t
  means_counted = number a 2 2 (omega arith)

  module _ (h : head_fault s ≡ no_fault) where
    span : days_of s ≤ span_most
    span = (means_count_none s 2 (none_both (first_bytes_fault s 0) _ h).1).1.most

    means_same : items_fault s 2 (mean_fault s) ≡ items_fault t 2 (mean_fault t)
    means_same = first_same (mean_fault s) (mean_fault t) (means_length s) (λ i l. mean_same a 2 i (omega (arith, span))) ∙ ap (first_fault (mean_fault t)) means_counted

    -- the readings, which start at the same offset
    readings_offset_lem : readings_offset s ≡ readings_offset t
    readings_offset_lem = ap (item_at 2 2) means_counted

    readings_same : readings_fault s ≡ readings_fault t
    readings_same =
        section_same (readings_offset s) (span_most + 2) _ _ (omega (arith, span)) (λ i l. reading_same a (readings_offset s) (days_of s) i (omega (arith, span)))
        (λ z. omega (arith, span, few_readings s (readings_offset s) (days_of s) (span_most + 2) z)) ∙
        (λ k. section_fault t (readings_offset_lem k) (reading_fault_at t (readings_offset_lem k) (means_counted k - 3)))

    module _ (r : readings_fault s ≡ no_fault) where
      near : cuts_offset s ≤ 13174
      near = omega (arith, span, few_readings s (readings_offset s) (days_of s) (readings_length s) (passes (ltb (length s) (readings_offset s + 2)) 13 (length s) _ r).1)

      -- the cuts, likewise
      cuts_offset_lem : cuts_offset s ≡ cuts_offset t
      cuts_offset_lem = ap (item_at 10 (readings_offset s)) (number a 2 (readings_offset s) (omega (arith, span))) ∙ ap (end_at 10 t) readings_offset_lem

      cuts_same : cuts_fault s ≡ cuts_fault t
      cuts_same =
          section_same (cuts_offset s) (span_most + 2) _ _ (omega (arith, near)) (λ i l. boundary_same a 2 (cuts_offset s) (days_of s) i (λ j h. omega (arith, near)) (omega (arith, near)))
          (λ z. omega (arith, span, few_cuts s (cuts_offset s) (days_of s) (span_most + 2) z)) ∙
          (λ k. section_fault t (cuts_offset_lem k) (cut_fault_at t (cuts_offset_lem k) (means_counted k - 3)))

      -- both have bytes left after the last cut, at the same offset
      left_same : cuts_fault s ≡ no_fault → left_over s (end_of s) ≡ left_over t (end_of t)
      left_same c =
          let items = (passes (ltb (length s) (cuts_offset s + 2)) 13 (length s) _ c).1 in
          let end : end_of s ≤ file_most = omega (arith, near, span, few_cuts s (cuts_offset s) (days_of s) (cuts_length s) items) in
          let ends : end_of s ≡ end_of t = ap (item_at 2 (cuts_offset s)) (number a 2 (cuts_offset s) (omega (arith, near))) ∙ ap (end_at 2 t) cuts_offset_lem in
          let both = lt-ltb (end_of s) (length s) (omega (arith, a.long)) ∙ sym (lt-ltb (end_of t) (length t) (omega (arith, a.long_too, ends))) in
          λ k. fault (both k) 13 (ends k)

  fault_same : fault_of s ≡ fault_of t
  fault_same =
      let span_same = both_same (head_fault s) _ head_same means_same in
      let before-cuts-same = both_same (span_fault s) (readings_fault s) span_same (λ e. readings_same (none_both (head_fault s) _ e).0) in
      let sections-same = both_same (before_cuts_fault s) (cuts_fault s) before-cuts-same (λ e.
      let f = none_both (span_fault s) (readings_fault s) e in
      cuts_same (none_both (head_fault s) _ f.0).0 f.1) in
      both_same (sections_fault s) (left_over s (end_of s)) sections-same (λ e.
      let f = none_both (before_cuts_fault s) (cuts_fault s) e in
      let g = none_both (span_fault s) (readings_fault s) f.0 in
      left_same (none_both (head_fault s) _ g.0).0 g.1 f.1)

pub enough : EnoughBytes
enough s = go (dec_lt bytes_read (length s))
  where
    go : Dec (bytes_read < length s) → fault_of (take bytes_read s) ≡ fault_of s
    go (yes l) =
        let e = length-take-le bytes_read s (omega arith) in
        fault_same {s = take bytes_read s} {t = s} (record { same = λ i h. get_or-take bytes_read s i 0 h; long = omega (arith, e); long_too = omega arith })
    go (no n) = ap fault_of (take_all bytes_read s (omega arith))
