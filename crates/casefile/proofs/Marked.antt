-- Cuts one after the other (Case file): what the reader tests of a cut is the definition's fault, and what it stores is the definition's
-- account. Assumes nothing.
use Prim.Native.Nat.{ℕ, zero, suc, ◌+◌}
use mathlib.Core.Path.{◌≡◌, refl, ◌∙◌, ap}
use mathlib.Core.Bool.{true}
use mathlib.Core.List.{List}
use native.Mathlib.Omega.{arith}
use native.Mathlib.Numerals.{add-one}
use lib.ListN.{length, get_or, set}
use Rattle.account.specs.Account.{Account, account, marks_reading, mark_of}
use Rattle.account.specs.Calls.{cut_put}
use Rattle.casefile.specs.Case.{item_at, boundary_at, cuts_put}
use Rattle.casefile.specs.Faults.{no_fault, first_fault, cut_fault_at}
use Rattle.casefile.specs.Reader.{full}
use Rattle.casefile.specs.Sections.{rising_fault}
use Rattle.casefile.proofs.Faults.{none_both, first_more}
use Rattle.casefile.proofs.Kept.{cuts_kept, full_cut}
use Rattle.casefile.proofs.Items.{above, rises, sane}

-- the first i cuts have no fault, and are put into the marks
pub record CutsRead (s : List ℕ) (at n : ℕ) (marks₀ marks : List ℕ) (low i : ℕ) : Type 0 where
  pub clean : first_fault (cut_fault_at s at n) i ≡ no_fault
  pub low_is : low ≡ above (boundary_at 2 s at) i
  pub puts : (w c : List ℕ) → account w marks c ≡ cuts_put (account w marks₀ c) s at i

pub cuts_none : (s : List ℕ) (at n : ℕ) (marks : List ℕ) → CutsRead s at n marks marks 0 0
unfolding first_fault cuts_put
cuts_none s at n marks = record { clean = refl; low_is = refl; puts = λ w c. refl }

module _ {s : List ℕ} {at n : ℕ} {marks₀ marks : List ℕ} {low i : ℕ} (r : CutsRead s at n marks₀ marks low i) where
  -- what the reader tests is the definition's fault
  pub cut_is : rising_fault 2 s (item_at 2 at i) low n ≡ cut_fault_at s at n i
  cut_is = rw (r.low_is, rises (boundary_at 2 s at) i) refl

  -- one cut more
  pub cuts_more : cut_fault_at s at n i ≡ no_fault
      → CutsRead s at n marks₀ (set marks (boundary_at 2 s at i) (mark_of (marks_reading (get_or marks (boundary_at 2 s at i) 0)) true)) (boundary_at 2 s at i + 1) (i + 1)
  unfolding cuts_put
  cuts_more e =
      record {
        clean = first_more (cut_fault_at s at n) i r.clean e;
        low_is = rw (add-one i) refl;
        puts = λ w c. rw (add-one i) (ap (λ (a : Account). cut_put a (boundary_at 2 s at i)) (r.puts w c));
      }

-- in slices of full length
pub full_cuts : (a : Account) (s : List ℕ) (at n i : ℕ) → length a.marks ≡ n + 1 → first_fault (cut_fault_at s at n) i ≡ no_fault → full (cuts_put a s at i) ≡ cuts_put (full a) s at i
unfolding first_fault cuts_put
full_cuts a s at n zero m e = refl
full_cuts a s at n (suc i) m e =
    let f = none_both (first_fault (cut_fault_at s at n) i) _ e in
    full_cut (cuts_put a s at i) (boundary_at 2 s at i) (omega (arith, (cuts_kept a s at i).marks_long, (sane 2 s at n i f.1).inside)) ∙
    ap (λ (b : Account). cut_put b (boundary_at 2 s at i)) (full_cuts a s at n i m f.0)
