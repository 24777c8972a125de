-- What the answer of a statement call tells, row by row, where its outputs have the length for n (Account and its calls, If a call declines). Assumes nothing.
use Prim.Native.Nat.{ℕ}
use mathlib.Core.Path.{◌≡◌, refl}
use mathlib.Core.Bool.{Bool, true, false}
use lib.ListN.{length}
use Rattle.account.specs.Account.{Account, days, shown, unfit, sound}
use Rattle.account.specs.Slices.{Checked}
use Rattle.statement.specs.Parts.{Outputs, parts_of, statement_of}
use Rattle.statement.specs.Call.{StatementMet, unfit_outputs, too_few_readings}

module _ (a b : Account) (o : Outputs) (long : unfit_outputs (days a) o ≡ false) (number count : ℕ) (out : Outputs) (met : StatementMet a o number count b out) where
  -- P holds where it holds of 3, of 5, of 11 and of a statement that is given
  pub by_row : (P : Type 0) → (unfit a ≡ true → number ≡ 3 → P) → (unfit a ≡ false → sound a ≡ false → number ≡ 5 → P) →
      (Checked a → too_few_readings (days a) (shown a).readings ≡ true → number ≡ 11 → P) →
      (Checked a → too_few_readings (days a) (shown a).readings ≡ false → number ≡ 0 → count ≡ length (parts_of a.weights (shown a)) → out ≡ statement_of a.weights (shown a) → P) → P
  by_row P three five eleven given = by (unfit a) refl (sound a) refl (too_few_readings (days a) (shown a).readings) refl
    where
      by : (u : Bool) → unfit a ≡ u → (s : Bool) → sound a ≡ s → (few : Bool) → too_few_readings (days a) (shown a).readings ≡ few → P
      by true u s is-s few is-few = three u (rw (long, u) at met.answers)
      by false u false s few is-few = five u s (rw (long, u, s) at met.answers)
      by false u true s true few = eleven (record { fits = u; sound = s }) few (rw (long, u, s, few) at met.answers)
      by false u true s false few =
          given (record { fits = u; sound = s }) few (rw (long, u, s, few) at met.answers) (rw (long, u, s, few) at met.gives) (rw (long, u, s, few) at met.writes)
