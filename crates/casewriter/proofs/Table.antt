-- The rows of the table for a call of `write_case` (K2, If a call declines): under a row's condition, and none above it, the row's answer meets the contract.
-- Assumes nothing.
use Prim.Native.Nat.{ℕ, ◌-◌, ◌≤◌, ◌<◌}
use mathlib.Core.Path.{◌≡◌, refl, sym, ◌∙◌, ap}
use mathlib.Core.Bool.{Bool, true, false, not}
use mathlib.Core.List.{List, ◌++◌}
use native.Mathlib.Omega.{arith}
use borrow.Author.Tests.{lt-ltb, le-ltb, lt-leb, leb-false, ltb-false}
use lib.Dec.{leb, ltb}
use lib.IntN.{ℤ}
use lib.ListN.{length, drop, replicate, length-replicate, get_or-replicate}
use lib.Seq.{sets}
use Rattle.std.specs.Prelude.{Result, Ok, Err}
use Rattle.std.specs.Result.{result_eq}
use Rattle.profile.specs.Limits.{profile_count}
use Rattle.common.specs.Rows.{row, zeros}
use Rattle.common.specs.declared.refusal.Fault.{Fault}
use Rattle.common.specs.declared.refusal.Refusal.{Refusal}
use Rattle.common.specs.declared.refusal.Refusal.TheVariants.{NoProfile, NoWeekday, Unfit, OutOfRange}
use Rattle.common.specs.Refusals.{number_of, number, at_zero}
use Rattle.common.proofs.Below.{clash, every_is}
use Rattle.weights.specs.Means.{first_out, some_out}
use Rattle.weights.specs.Weights.{weights_of, Ready}
use Rattle.weights.proofs.Span.{weights_length}
use Rattle.account.specs.Account.{Account, account, unfit_lengths, unfit, sound, good_weights, good_marks, zero_counts}
use Rattle.account.specs.Refusals.{account_rows}
use Rattle.account.specs.Slices.{reads_at}
use Rattle.account.proofs.Sound.{fit}
use Rattle.casefile.proofs.Weighing.{weights_good}
use Rattle.casewriter.specs.File.{cuts_at, file_of}
use Rattle.casewriter.specs.Writer.{account_given, Ruling, ruling, series_rows, WriteMet}
use Rattle.casewriter.specs.Sections.{many_readings, many_cuts, marked_in, file_end}
use Rattle.casewriter.proofs.Listed.{many_most}
use Rattle.casewriter.proofs.Sizes.{file_long}
use Rattle.casewriter.proofs.Stored.{from_start}

-- what the answer of rows 3 and 5 says of lengths and soundness
abbrev rows : (unfit sound : Bool) → ℕ
rows u s = row u 3 (row (not s) 5 0)

is_3 : (u s : Bool) → rows u s ≡ 3 → u ≡ true
is_3 true s e = refl
is_3 false true e = absurd (omega (arith, e))
is_3 false false e = absurd (omega (arith, e))

not_3 : (u s : Bool) → (rows u s ≡ 3 → ⊥) → u ≡ false
not_3 true s other = absurd (other refl)
not_3 false s other = refl

is_5 : (u s : Bool) → u ≡ false → (rows u s ≡ 0 → ⊥) → (s ≡ false) × (rows u s ≡ 5)
is_5 true s fits some = absurd (clash refl fits)
is_5 false true fits some = absurd (some refl)
is_5 false false fits some = (refl, refl)

is_0 : (u s : Bool) → rows u s ≡ 0 → (u ≡ false) × (s ≡ true)
is_0 true s e = absurd (omega (arith, e))
is_0 false true e = (refl, refl)
is_0 false false e = absurd (omega (arith, e))

-- which refusal has the number 3
only_unfit : (r : Refusal) → number_of r ≡ 3 → r ≡ Unfit
only_unfit r e = grind arith

-- an answer that is done has the number 0, and no refusal has it
pub passed : {a : Result (Unit {0}) Refusal} {x : Unit {0}} {n : ℕ} → a ≡ Ok x → number a ≡ n → 0 ≡ n
passed is told = sym (ap number is) ∙ told

pub some : (r : Refusal) → number_of r ≡ 0 → ⊥
some r e = grind arith

-- the number of an answer that equals `Err Unfit`, and of one that does not, by a test F of refusals
module _ (E : Unit {0} → Unit {0} → Bool) (F : Refusal → Refusal → Bool) where
  pub told_3 : ((r : Refusal) → F r Unfit ≡ true → r ≡ Unfit) → (a : Result (Unit {0}) Refusal) → result_eq E F a (Err Unfit) ≡ true → number a ≡ 3
  told_3 right (Ok x) e = absurd (clash e refl)
  told_3 right (Err r) e = ap number_of (right r e)

  pub not_told_3 : F Unfit Unfit ≡ true → (a : Result (Unit {0}) Refusal) → result_eq E F a (Err Unfit) ≡ false → number a ≡ 3 → ⊥
  not_told_3 right (Ok x) e three = omega arith
  not_told_3 right (Err r) e three = clash right (rw (only_unfit r three) at e)

-- soundness asks of weights only that they are good, and how many they are
same_sound : (v w marks counts : List ℕ) → length v ≡ length w → good_weights v ≡ true → good_weights w ≡ true → sound (account v marks counts) ≡ sound (account w marks counts)
unfolding good_marks zero_counts
same_sound v w marks counts long good-v good-w = rw (good-v, good-w, long)

ones_good : (n : ℕ) → good_weights (replicate n 1) ≡ true
unfolding good_weights
ones_good n = every_is _ _ λ d l. rw (get_or-replicate {A = ℕ} n d 1 0 (omega (arith, length-replicate {A = ℕ} n 1)))

-- what a row lays down, met
met : {p w : ℕ} {means : List ℤ} {marks counts before : List ℕ} (r : Ruling) → ruling p w means marks counts before ≡ r → {after : List ℕ} → after ≡ r.memory
    → WriteMet p w means marks counts before r.number r.place r.size after means marks counts
met r e is =
    record {
      answers = sym (ap (λ (x : Ruling). x.number) e);
      places = sym (ap (λ (x : Ruling). x.place) e);
      gives = sym (ap (λ (x : Ruling). x.size) e);
      writes = is ∙ sym (ap (λ (x : Ruling). x.memory) e);
      means_stay = refl;
      marks_stay = refl;
      counts_stay = refl;
    }

abbrev refused : (number place : ℕ) (memory : List ℕ) → Ruling
refused number place memory = record { number = number; place = place; size = 0; memory = memory }

-- what rows 1, 2 and 4 answer and lay down where one of them holds, and what is known where none does
abbrev series : (one two four : Bool) (k : ℕ) → Result (Unit {0}) Fault
series one two four k = row one (Err (at_zero NoProfile)) (row two (Err (at_zero NoWeekday)) (row four (Err (record { refusal = OutOfRange; place = k })) (Ok (tt {0}))))

cleared : (one two four : Bool) (k : ℕ) (rest : Ruling) {fault : Fault} {out : List ℕ} → Err fault ≡ series one two four k
    → row one (refused 1 0 out) (row two (refused 2 0 out) (row four (refused 4 k out) rest)) ≡ refused (number_of fault.refusal) fault.place out
cleared true two four k rest {fault} {out} e = let is : at_zero NoProfile ≡ fault = cc in ap (λ (f : Fault). refused (number_of f.refusal) f.place out) is
cleared false true four k rest {fault} {out} e = let is : at_zero NoWeekday ≡ fault = cc in ap (λ (f : Fault). refused (number_of f.refusal) f.place out) is
cleared false false true k rest {fault} {out} e = let is : record { refusal = OutOfRange; place = k } ≡ fault = cc in ap (λ (f : Fault). refused (number_of f.refusal) f.place out) is
cleared false false false k rest e = absurd (cc)

neither : (one two four : Bool) (k : ℕ) {x : Unit {0}} → Ok x ≡ series one two four k → (one ≡ false) × (two ≡ false) × (four ≡ false)
neither true two four k e = absurd (cc)
neither false true four k e = absurd (cc)
neither false false true k e = absurd (cc)
neither false false false k e = (refl, refl, refl)

pub ready : {p w : ℕ} {means : List ℤ} {x : Unit {0}} → Ok x ≡ series_rows p w means → Ready p w means
ready {p} {w} {means} e =
    let none = neither (leb profile_count p) (ltb 6 w) (some_out means) (first_out means) e in
    let w6 = ltb-false 6 w none.1 in
    record { profile_known = leb-false profile_count p none.0; weekday_known = omega arith; means_in_range = none.2 }

-- the lengths of a call that row 3 does not decline
pub record Fitting (means : List ℤ) (marks counts : List ℕ) : Type 0 where
  pub as_long : length counts ≡ length marks
  pub means_few : length means ≤ 1_099
  pub readings_few : many_readings marks ≤ 1_097
  pub cuts_few : many_cuts marks ≤ 1_097

module _ (means : List ℤ) (marks counts : List ℕ) where
  -- the account that rows 3 and 5 are asked of: as long as the weights of the means
  abbrev ones : Account
  ones = account (replicate (length means - 3) 1) marks counts

  lengths : unfit_lengths (length means - 3) (length marks) (length counts) ≡ unfit ones
  lengths = rw length-replicate

  module _ {p w : ℕ} (ready : Ready p w means) where
    known : leb profile_count p ≡ false
    known = lt-leb profile_count p ready.profile_known

    weekday : ltb 6 w ≡ false
    weekday = le-ltb 6 w (omega arith)

    -- the ones stand for the weights of the means
    given : sound (account_given p w means marks counts) ≡ sound ones
    given =
        let calendar = replicate {A = ℕ} (length means - 3) 7 in
        same_sound (weights_of p w means calendar) (replicate (length means - 3) 1) marks counts
        (weights_length p w means calendar ∙ sym (length-replicate (length means - 3) 1))
        (weights_good p w means calendar ready)
        (ones_good (length means - 3))

  module _ {told : ℕ} (is-told : told ≡ account_rows ones 0) where
    pub unfit_met : told ≡ 3 → {p w : ℕ} {before : List ℕ} → WriteMet p w means marks counts before 3 0 0 before means marks counts
    unfit_met three {before} =
        let u = lengths ∙ is_3 (unfit ones) (sound ones) (sym is-told ∙ three) in
        met (refused 3 0 before) (simp u) refl

    module _ (fits : told ≡ 3 → ⊥) where
      ones_fit : unfit ones ≡ false
      ones_fit = not_3 (unfit ones) (sound ones) (λ e. fits (is-told ∙ e))

      pub series_met : {p w : ℕ} {fault : Fault} → Err fault ≡ series_rows p w means → {before after : List ℕ} → after ≡ zeros before
          → WriteMet p w means marks counts before (number_of fault.refusal) fault.place 0 after means marks counts
      series_met {p} {w} {fault} e {before} is =
          let u = lengths ∙ ones_fit in
          met (refused (number_of fault.refusal) fault.place (zeros before)) (simp u (cleared (leb profile_count p) (ltb 6 w) (some_out means) (first_out means) _ e)) is

      pub unsound_met : {p w : ℕ} → Ready p w means → (told ≡ 0 → ⊥) → {before : List ℕ} → WriteMet p w means marks counts before told 0 0 before means marks counts
      unsound_met ready some {before} =
          let five = is_5 (unfit ones) (sound ones) ones_fit (λ e. some (is-told ∙ e)) in
          let s = given ready ∙ five.0 in
          rw (is-told, five.1) (met (refused 5 0 before) (simp (lengths ∙ ones_fit, known ready, weekday ready, ready.means_in_range, s)) refl)

  module _ (none : 0 ≡ account_rows ones 0) where
    passes : (unfit ones ≡ false) × (sound ones ≡ true)
    passes = is_0 (unfit ones) (sound ones) (sym none)

    pub fitting : Fitting means marks counts
    fitting =
        let f = fit ones passes.0 in
        let n = length-replicate {A = ℕ} (length means - 3) 1 in
        record {
          as_long = f.counts ∙ sym f.marks;
          means_few = omega arith;
          readings_few = omega (arith, many_most (reads_at marks) (length marks));
          cuts_few = omega (arith, many_most (cuts_at marks) (length marks));
        }

    module _ {p w : ℕ} (ready : Ready p w means) where
      pub short_met : {before : List ℕ} → length before < file_end (length means) (marked_in marks) → WriteMet p w means marks counts before 15 0 0 before means marks counts
      short_met {before} h =
          let l = lt-ltb (length before) (length (file_of p w means marks counts)) (omega (arith, file_long p w means marks counts)) in
          met (refused 15 0 before) (simp (lengths ∙ passes.0, known ready, weekday ready, ready.means_in_range, given ready ∙ passes.1, l)) refl

      pub done_met : {before after : List ℕ} → file_end (length means) (marked_in marks) ≤ length before → after ≡ sets before 0 (file_of p w means marks counts)
          → WriteMet p w means marks counts before 0 0 (file_end (length means) (marked_in marks)) after means marks counts
      done_met {before} h is =
          let file = file_of p w means marks counts in
          let long = file_long p w means marks counts in
          let room : length file ≤ length before = omega (arith, long) in
          let l = le-ltb (length before) (length file) room in
          rw (← long)
          (met (record { number = 0; place = 0; size = length file; memory = file ++ drop (length file) before })
          (simp (lengths ∙ passes.0, known ready, weekday ready, ready.means_in_range, given ready ∙ passes.1, l))
          (is ∙ from_start file before room))
