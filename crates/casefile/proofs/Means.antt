-- The means as they are read, one after the other (Case file). Assumes nothing.
use Prim.Native.Nat.{ℕ, ◌+◌, ◌<◌}
use mathlib.Core.Path.{◌≡◌, refl, ◌∙◌, ap}
use mathlib.Core.List.{List, [], ◌∷◌, ◌++◌}
use native.Mathlib.Numerals.{add-one}
use lib.IntN.{ℤ}
use lib.ListN.{length, set, take}
use lib.Seq.{take-suc-set}
use Rattle.common.specs.Lists.{list_of}
use Rattle.casefile.specs.Case.{mean_at, means_at}
use Rattle.casefile.specs.Faults.{no_fault, first_fault, mean_fault_at}
use Rattle.casefile.proofs.Faults.{first_more}

-- the first i means have no fault and stand in the buffer
pub record MeansRead (s : List ℕ) (at : ℕ) (means : List ℤ) (i : ℕ) : Type 0 where
  pub clean : first_fault (mean_fault_at s at) i ≡ no_fault
  pub read : take i means ≡ means_at s at i

pub means_none : (s : List ℕ) (at : ℕ) (means : List ℤ) → MeansRead s at means 0
unfolding first_fault list_of
means_none s at means = record { clean = refl; read = refl }

pub means_more : {s : List ℕ} {at : ℕ} {means : List ℤ} {i : ℕ} → MeansRead s at means i → i < length means → mean_fault_at s at i ≡ no_fault
    → MeansRead s at (set means i (mean_at s at i)) (i + 1)
unfolding list_of
means_more {s} {at} {means} {i} r l e =
    record {
      clean = first_more (mean_fault_at s at) i r.clean e;
      read = rw add-one (take-suc-set means i (mean_at s at i) l ∙ ap (λ (xs : List ℤ). xs ++ (mean_at s at i ∷ [])) r.read);
    }
