-- Demand 3: `demand3` proves the claim of specs/Demand3.antt. Assumes nothing.
use Prim.Native.Nat.{ℕ, suc, ◌≤◌}
use mathlib.Core.Path.{◌≡◌, refl, sym, subst₂, ◌∙◌}
use mathlib.Core.Bool.{true}
use mathlib.Core.List.{List}
use native.Mathlib.Omega.{arith}
use borrow.Author.Tests.{ltb-false}
use lib.ListN.{length}
use Rattle.account.specs.Stands.{Stands, nothing}
use Rattle.account.specs.Account.{Account, days, shown}
use Rattle.account.specs.Refusals.{open_number}
use Rattle.account.specs.Calls.{OpenMet}
use Rattle.account.proofs.Pairs.{pairs}
use Rattle.account.proofs.Sound.{sound_parts}
use Rattle.account.specs.Slices.{Checked}
use Rattle.common.proofs.Rows.{rows_none, rows_all}
use Rattle.account.proofs.Keeps.{Holds, shown_inside, open_keeps}
use Rattle.statement.specs.Parts.{Outputs, parts_of, written}
use Rattle.statement.specs.Call.{StatementMet, Ruling, unfit_outputs, too_few_readings}
use Rattle.statement.specs.Facts.{Valid, TwoReadings}
use Rattle.statement.proofs.Order.{valid_of_sound}
use Rattle.statement.proofs.Successive.{successive}
use Rattle.statement.proofs.Facts.{sums_up, shared, energy_nearest, same_energy}
use Rattle.history.specs.Run.{Event, Step, Run, statement_says, standing}
use Rattle.history.specs.Run as run
use Rattle.history.specs.Demand3.{Demand3, Claim, Among, Given}
use Rattle.history.proofs.Invariant.{along, table_says_lem, leaves_standing}
use Rattle.history.proofs.EveryList.{every_list_runs}
use Rattle.history.proofs.Opens.{opens}

-- a statement of m parts that was given where s stands: the rule's, and all that the rule's facts ask
record By (w : List ℕ) (s : Stands) (m : ℕ) (out : Outputs) : Type 0 where
  counts : m ≡ length (parts_of w s)
  writes : out ≡ written (length w) (parts_of w s)
  two : TwoReadings w s
  valid : Valid w s.readings
  inside : (k : ℕ) → s.readings.at k ≡ true → k ≤ length w

by : (a : Account) (lent : Outputs) (m : ℕ) (b : Account) (out : Outputs) → Checked a → StatementMet a lent 0 m b out → By a.weights (shown a) m out
by a lent m b out f met =
    let long = rows_none (λ (r : Ruling). r.number) (unfit_outputs (days a) lent) _ _ (λ z. omega arith) (sym (rw (f.fits, f.sound) at met.answers)) in
    let some = rows_none (λ (r : Ruling). r.number) (too_few_readings (days a) (shown a).readings) _ _ (λ z. omega arith) long.1 in
    record {
      counts = rw (long.0, f.fits, f.sound, some.0) at met.gives;
      writes = rw (long.0, f.fits, f.sound, some.0) at met.writes;
      two = ltb-false _ _ some.0;
      valid = valid_of_sound a f.sound;
      inside = shown_inside a f.fits;
    }

-- a refused statement has no parts
abbrev NoneIfRefused : Ruling → Type 0
NoneIfRefused r = (r.number ≡ 0 → ⊥) → r.parts ≡ 0

none_declined : (w : List ℕ) (s : Stands) (lent : Outputs) → NoneIfRefused (statement_says w s lent)
none_declined w s lent =
    rows_all NoneIfRefused (unfit_outputs (length w) lent) (λ some. refl)
    (rows_all NoneIfRefused (too_few_readings (length w) s.readings) (λ some. refl) (λ some. absurd (some refl)))

-- .. and what the table says of memory
declines : (a : Account) (lent : Outputs) (r m : ℕ) (b : Account) (out : Outputs) → Checked a → StatementMet a lent r m b out → (r ≡ 0 → ⊥) →
    (m ≡ 0) × (out ≡ (statement_says a.weights (shown a) lent).memory)
declines a lent r m b out f met some =
    let number : r ≡ (statement_says a.weights (shown a) lent).number = rw (f.fits, f.sound) at met.answers in
    let parts : m ≡ (statement_says a.weights (shown a) lent).parts = rw (f.fits, f.sound) at met.gives in
    (parts ∙ none_declined a.weights (shown a) lent (λ z. some (number ∙ z)), rw (f.fits, f.sound) at met.writes)

rises : (a : Account) → Checked a → (p q : ℕ) → p ≤ q → q ≤ days a → (shown a).readings.at p ≡ true → (shown a).readings.at q ≡ true →
    (shown a).readings.count p ≤ (shown a).readings.count q
rises a f p q le below = pairs (shown a).readings (suc (days a)) (sound_parts a f.sound).order (suc (days a)) (omega arith) p q le (omega arith)

module _ (w : List ℕ) (opened : Account) (start : Holds w nothing opened) (es : List Event) (runs : Run opened es) where
  before_each : (before : List Event) (e : Event) → Among es before e → (a : Account) × Holds w (standing w before) a × Step a e
  before_each before e (rest, is) = along w nothing opened start before e rest (rw is at runs)

  given : (before : List Event) (m : ℕ) (out : Outputs) → Given es before m out → By w (standing w before) m out
  given before m out (lent, b, among) =
      let (a, holds, met) = before_each before (run.statement lent 0 m b out) among in
      subst₂ (λ v s. By v s m out) holds.weighs holds.shows (by a lent m b out holds.checked met)

  claims : Demand3 w es
  claims =
      record {
        refusals = λ before e among. let (a, holds, met) = before_each before e among in table_says_lem w (standing w before) a e holds met;
        leaves = λ before e among. let (a, holds, met) = before_each before e among in leaves_standing w before a e holds met;
        declined =
            λ before lent r m b out among some.
            let (a, holds, met) = before_each before (run.statement lent r m b out) among in
            subst₂ (λ v s. (m ≡ 0) × (out ≡ (statement_says v s lent).memory)) holds.weighs holds.shows (declines a lent r m b out holds.checked met some);
        statements = λ before m out g. let by = given before m out g in (by.counts, by.writes);
        successive = λ before m out g. let by = given before m out g in rw (by.counts, by.writes) (successive w (standing w before) by.two);
        rising =
            λ before e among.
            let (a, holds, met) = before_each before e among in
            subst₂ (λ v s. (p q : ℕ) → p ≤ q → q ≤ length v → s.readings.at p ≡ true → s.readings.at q ≡ true → s.readings.count p ≤ s.readings.count q)
            holds.weighs holds.shows (rises a holds.checked);
        sums = λ before m out g. let by = given before m out g in rw (by.counts, by.writes) (sums_up w (standing w before) by.valid by.two);
        shares =
            λ before m out g i below.
            let by = given before m out g in
            rw by.writes (shared w (standing w before) by.valid by.two i (omega arith));
        energies =
            λ before m out g p q b adj low high mark.
            let by = given before m out g in
            rw (by.counts, by.writes) (energy_nearest w (standing w before) by.valid p q b adj (by.inside q adj.at_q) (omega arith) (omega arith) mark);
        boundaries =
            λ before₁ m₁ out₁ g₁ before₂ m₂ out₂ g₂ p q b adj₁ adj₂ same-p same-q low high mark₁ mark₂.
            let by₁ = given before₁ m₁ out₁ g₁ in
            let by₂ = given before₂ m₂ out₂ g₂ in
            rw (by₁.counts, by₁.writes, by₂.counts, by₂.writes)
            (same_energy w (standing w before₁) (standing w before₂) by₁.valid by₂.valid p q b adj₁ adj₂ same-p same-q
            (by₁.inside q adj₁.at_q) (omega arith) (omega arith) mark₁ mark₂);
      }

opened_holds : (before opened : Account) → OpenMet before 0 opened → Holds before.weights nothing opened
opened_holds before opened met =
    let zero : open_number before ≡ 0 = sym met.answers in
    rw (rw zero at met.leaves) (open_keeps before zero)

after_open : (before opened : Account) → OpenMet before 0 opened → (es : List Event) → Run opened es → Demand3 before.weights es
after_open before opened met es runs = claims before.weights opened (opened_holds before opened met) es runs

pub demand3 : Claim
demand3 =
    record {
      after_open = after_open;
      every_list = every_list_runs;
      over_weights =
          λ a opened from answered met.
          let done : answered ≡ 0 = met.answers ∙ opens a from in
          (done, after_open a opened (rw done at met));
    }
