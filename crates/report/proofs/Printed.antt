-- The text of a file's first 16,384 bytes is that of the whole (Case file). Assumes nothing.
use Prim.Native.Nat.{ℕ, ◌<◌}
use mathlib.Core.Path.{◌≡◌, refl, ap, ◌∙◌}
use mathlib.Core.Bool.{Bool, true, false, cond}
use mathlib.Core.List.{List}
use native.Mathlib.Omega.{arith}
use native.Mathlib.Decide.{dec_lt}
use borrow.Author.Tests.{ne_eqb}
use lib.ListN.{take}
use lib.Seq.{take_all}
use Rattle.casefile.specs.Faults.{Fault, refused, fault_of}
use Rattle.casefile.specs.Length.{bytes_read}
use Rattle.casefile.specs.Reader.{fault_number, unfit_slices}
use Rattle.casefile.proofs.Longest.{longest}
use Rattle.casefile.proofs.Enough.{enough}
use Rattle.report.specs.Report.{text_of, EnoughText}
use Rattle.casefile.proofs.Agreed.{file_numbered}

-- a file in fitting slices: where it has a fault the text is the fault's, and else it is no longer than what is read
fitting : (s : List ℕ) → text_of (fault_of (take bytes_read s)) (take bytes_read s) ≡ text_of (fault_of s) s
fitting s = ap (λ (v : Fault). text_of v (take bytes_read s)) (enough s) ∙ go (dec_lt 0 (fault_number (fault_of s)))
  where
    go : Dec (0 < fault_number (fault_of s)) → text_of (fault_of s) (take bytes_read s) ≡ text_of (fault_of s) s
    go (no n) = ap (text_of (fault_of s)) (take_all bytes_read s (omega (arith, longest.most s (file_numbered s (omega arith)))))
    go (yes l) = simp (ne_eqb (fault_number (fault_of s)) 0 (λ z. omega (arith, z)))

pub enough_text : EnoughText
enough_text s lent = by (unfit_slices lent)
  where
    by : (unfit : Bool) →
        text_of (cond unfit (refused 3 0) (fault_of (take bytes_read s))) (take bytes_read s) ≡ text_of (cond unfit (refused 3 0) (fault_of s)) s
    by true = refl
    by false = fitting s
