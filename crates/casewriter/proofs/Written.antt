-- What a call wrote are bytes (K2), each below 256. Assumes nothing.
use Prim.Native.Nat.{ℕ, zero, suc, ◌/◌, ◌%◌, ◌<◌}
use mathlib.Core.Path.{◌≡◌, ◌∙◌, ap, subst⁻¹}
use mathlib.Core.Bool.{Bool, true, false, cond}
use mathlib.Core.List.{List, [], ◌∷◌, ◌++◌}
use native.Mathlib.Omega.{arith}
use lib.ListN.{length, get_or, drop, get_or-append}
use Rattle.casewriter.specs.Bytes.{little_bytes}
use Rattle.casewriter.specs.File.{items, section, mean_item, reading_item, cut_item, cuts_at, means_section, readings_section, cuts_section, file_of}
use Rattle.account.specs.Slices.{reads_at}
use Rattle.casewriter.specs.RoundTrip.{WrittenBytes}
use Rattle.casewriter.proofs.Accepted.{accepted, size_is, after_is}

record Bytes (xs : List ℕ) : Type 0 where
  each : (i : ℕ) → get_or xs i 0 < 256

none : Bytes []
none = record { each = λ i. omega arith }

more : (x : ℕ) (xs : List ℕ) → x < 256 → Bytes xs → Bytes (x ∷ xs)
more x xs l b = record { each = go }
  where
    go : (i : ℕ) → get_or (x ∷ xs) i 0 < 256
    go zero = l
    go (suc i) = b.each i

both : (xs ys : List ℕ) → Bytes xs → Bytes ys → Bytes (xs ++ ys)
both [] ys a b = b
both (x ∷ xs) ys a b = more x (xs ++ ys) (a.each 0) (both xs ys (record { each = λ i. a.each (suc i) }) b)

of_number : (width n : ℕ) → Bytes (little_bytes width n)
unfolding little_bytes
of_number zero n = none
of_number (suc width) n = more (n % 256) _ (omega arith) (of_number width (n / 256))

of_items : (p : ℕ → Bool) (item : ℕ → List ℕ) → ((k : ℕ) → Bytes (item k)) → (m : ℕ) → Bytes (items p item m)
unfolding items
of_items p item each zero = none
of_items p item each (suc m) = both (items p item m) _ (of_items p item each m) (go (p m))
  where
    go : (b : Bool) → Bytes (cond b (item m) [])
    go true = each m
    go false = none

of_section : (p : ℕ → Bool) (item : ℕ → List ℕ) → ((k : ℕ) → Bytes (item k)) → (m : ℕ) → Bytes (section p item m)
of_section p item each m = both _ (items p item m) (of_number 2 _) (of_items p item each m)

pub written_bytes : WrittenBytes
written_bytes profile weekday means means_after marks counts before after marksAfter countsAfter placed size met i l =
    let file = file_of profile weekday means marks counts in
    let a = accepted met in
    let all : Bytes file =
    both _ (cuts_section marks)
    (both _ (readings_section marks counts)
    (both (profile ∷ weekday ∷ []) (means_section means)
    (more profile _ (omega (arith, a.profile_known)) (more weekday [] (omega (arith, a.weekday_known)) none))
    (of_section (λ k. true) (mean_item means) (λ k. of_number 2 _) (length means)))
    (of_section (reads_at marks) (reading_item counts) (λ k. both (little_bytes 2 k) _ (of_number 2 k) (of_number 8 _)) (length marks)))
    (of_section (cuts_at marks) cut_item (of_number 2) (length marks)) in
    let is : get_or after i 0 ≡ get_or file i 0 = ap (λ (xs : List ℕ). get_or xs i 0) (after_is met) ∙ get_or-append file (drop (length file) before) 0 i (omega (arith, size_is met)) in
    subst⁻¹ (λ (b : ℕ). b < 256) is (all.each i)
