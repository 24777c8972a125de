-- Texts laid out (Case file, the program's output): two one after the other are their joined text. Assumes nothing.
use mathlib.Core.Path.{◌≡◌, refl, ap, ◌∙◌}
use mathlib.Core.List.{List, ◌++◌, append_assoc}
use Prim.Native.Nat.{ℕ, ◌+◌}
use native.Mathlib.Omega.{arith}
use lib.ListN.{length, length-append}
use lib.Seq.{sets}
use mathlib.Core.Bool.{true, false}
use Rattle.common.proofs.Lists.{sets_append}
use Rattle.statement.specs.Parts.{Outputs}
use Rattle.layout.specs.Text.{LaidOut, TextMet, no_statement, statement_text, parts_text}

pub then_laid : {at : ℕ} {xs o : List ℕ} {m : ℕ} {p ys : List ℕ} {n : ℕ} {q : List ℕ} →
    LaidOut at xs o m p → LaidOut m ys p n q → LaidOut at (xs ++ ys) o n q
then_laid {at} {xs} {o} {m} {p} {ys} one two =
    record {
      ends = omega (arith, one.ends, two.ends, length-append xs ys);
      stored =
          two.stored ∙
          ap (λ (k : ℕ). sets p k ys) one.ends ∙
          ap (λ (l : List ℕ). sets l (at + length xs) ys) one.stored ∙
          sets_append o at xs ys;
    }

-- the same where the second is two joined already
pub then_both : {at : ℕ} {xs o : List ℕ} {m : ℕ} {p : List ℕ} {n : ℕ} {q : List ℕ} (ys zs : List ℕ) →
    LaidOut at xs o m p → LaidOut m (ys ++ zs) p n q → LaidOut at (xs ++ ys ++ zs) o n q
then_both {xs = xs} ys zs one two = rw (append_assoc xs ys zs) (then_laid one two)

-- what is laid out where there can be no such statement: nothing
pub none_laid : (o : Outputs) (m : ℕ) (out : List ℕ) → no_statement o m ≡ true → TextMet (statement_text o m) out 0 out o o
none_laid o m out no_such = rw no_such (record { prints = record { ends = refl; stored = refl }; stays = refl })

pub given_laid : (o : Outputs) (m : ℕ) (out : List ℕ) (next : ℕ) (after : List ℕ) →
    no_statement o m ≡ false → LaidOut 0 (parts_text o m) out next after → TextMet (statement_text o m) out next after o o
given_laid o m out next after such text = rw such (record { prints = text; stays = refl })
