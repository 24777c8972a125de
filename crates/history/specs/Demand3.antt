-- Demand 3: one claim about every list of reading, withdraw, cut, uncut and statement calls on a freshly opened account, and all
-- their answers. `Claim` is the claim, `Demand3` what it says of a list.
use Rattle.std.specs.Prelude.{ℕ, ◌+◌, ◌-◌, ◌*◌, ◌≤◌, ◌<◌, ◌≡◌, true, List, [], ◌∷◌, ◌++◌, map, ℤ, length, get_or}
use Rattle.rounding.specs.Nearest.{nearest}
use Rattle.weights.specs.Weights.{WeightsMet}
use Rattle.account.specs.Account.{Account, mark_of}
use Rattle.account.specs.Calls.{OpenMet}
use Rattle.account.specs.Stands.{Stands, last_less_first}
use Rattle.statement.specs.Split.{weight_sum}
use Rattle.statement.specs.Parts.{Outputs, parts_of, marked, statement_of}
use Rattle.statement.specs.Shares.{Adjacent, Shared, total, energy}
use Rattle.statement.specs.Facts.{Successive}
use Rattle.history.specs.Run.{Event, Run, call, account_after, answered, statement_says, table_says, standing}
use Rattle.history.specs.Run as run
use Rattle.history.specs.History.{Call}

-- e is the event of the list that comes after `before`
abbrev pub Among : List Event → List Event → Event → Type 0
Among es before e = (rest : List Event) × (es ≡ before ++ (e ∷ rest))

-- the event of the list that comes after `before` is a statement that was given: m parts, written to `out`
abbrev pub Given : List Event → List Event → ℕ → Outputs → Type 0
Given es before m out = (lent : Outputs) × (after : Account) × Among es before (run.statement lent 0 m after out)

-- the account's slices show what stands and nothing else: the weights, and the marks and counts of boundaries 0 to n
pub record Carries (w : List ℕ) (s : Stands) (a : Account) : Type 0 where
  pub weighs : a.weights ≡ w
  pub marks_long : length a.marks ≡ length w + 1
  pub counts_long : length a.counts ≡ length w + 1
  pub mark_is : (k : ℕ) → k ≤ length w → get_or a.marks k 0 ≡ mark_of (s.readings.at k) (s.cut k)
  pub count_is : (k : ℕ) → k ≤ length w → get_or a.counts k 0 ≡ s.readings.count k

-- what demand 3 says of the list es on an account over the weights w; `standing w before` is what stands after the events `before`
pub record Demand3 (w : List ℕ) (es : List Event) : Type 0 where
  -- "A call is refused exactly when and as the table, applied to what stands, says."
  pub refusals : (before : List Event) (e : Event) → Among es before e → answered e ≡ table_says w (standing w before) (call e)
  -- "... and as": what the table says of memory. The account's slices are left as its calls so far make it stand, and a statement that
  -- is refused has no parts, and outputs that are zero (11) or untouched (3).
  pub leaves : (before : List Event) (e : Event) → Among es before e → Carries w (standing w (before ++ (e ∷ []))) (account_after e)
  pub declined : (before : List Event) (lent : Outputs) (r m : ℕ) (a : Account) (out : Outputs) → Among es before (run.statement lent r m a out) →
      (r ≡ 0 → ⊥) → (m ≡ 0) × (out ≡ (statement_says w (standing w before) lent).memory)
  -- "Every statement given has the number of parts, and the from, to and Wh of each, that the paper's rule gives for what then stands."
  pub statements : (before : List Event) (m : ℕ) (out : Outputs) → Given es before m out →
      (m ≡ length (parts_of w (standing w before))) × (out ≡ statement_of w (standing w before))
  -- "Parts run between successive marked boundaries from the first reading to the last."
  pub successive : (before : List Event) (m : ℕ) (out : Outputs) → Given es before m out →
      Successive (length w) (standing w before) out m
  -- No standing reading has less than an earlier one, so that "less" and E below are differences.
  pub rising : (before : List Event) (e : Event) → Among es before e → (p q : ℕ) → p ≤ q → q ≤ length w →
      (standing w before).readings.at p ≡ true → (standing w before).readings.at q ≡ true →
      (standing w before).readings.count p ≤ (standing w before).readings.count q
  -- "Its parts add up exactly to the last standing reading less the first."
  pub sums : (before : List Event) (m : ℕ) (out : Outputs) → Given es before m out →
      total out m ≡ last_less_first (length w) (standing w before).readings
  -- "Each part is less than 1 Wh from its exact share between its two enclosing readings."
  pub shares : (before : List Event) (m : ℕ) (out : Outputs) → Given es before m out →
      (i : ℕ) → i < m → Shared w (standing w before).readings (get_or out.from i 0) (get_or out.to i 0) (get_or out.wh i 0)
  -- "The energy between p and a boundary", p and q being adjacent readings that enclose it, is nearest(E × weights from p to it / Z).
  pub energies : (before : List Event) (m : ℕ) (out : Outputs) → Given es before m out →
      (p q b : ℕ) → Adjacent (standing w before).readings.at p q → p ≤ b → b ≤ q → marked (standing w before) b ≡ true →
      energy out p b m ≡ nearest (((standing w before).readings.count q - (standing w before).readings.count p) * weight_sum w p b) (weight_sum w p q)
  -- "Where the same two adjacent readings with the same counts enclose a marked boundary in two statements of the list, the energy
  -- between the earlier of them and that boundary is the same in both."
  pub boundaries : (before₁ : List Event) (m₁ : ℕ) (out₁ : Outputs) → Given es before₁ m₁ out₁ →
      (before₂ : List Event) (m₂ : ℕ) (out₂ : Outputs) → Given es before₂ m₂ out₂ →
      (p q b : ℕ) → Adjacent (standing w before₁).readings.at p q → Adjacent (standing w before₂).readings.at p q →
      (standing w before₁).readings.count p ≡ (standing w before₂).readings.count p →
      (standing w before₁).readings.count q ≡ (standing w before₂).readings.count q →
      p ≤ b → b ≤ q → marked (standing w before₁) b ≡ true → marked (standing w before₂) b ≡ true →
      energy out₁ p b m₁ ≡ energy out₂ p b m₂

-- "... over weights from demand 2": the weights are those that some weights call gave, with any calendar (K1: "statements follow from those weights"), and marks
-- and counts have the lengths for them
pub record Weighed (a : Account) : Type 0 where
  pub profile : ℕ
  pub weekday : ℕ
  pub means : List ℤ
  pub means_after : List ℤ
  pub calendar : List ℕ
  pub calendar_after : List ℕ
  pub lent : List ℕ
  pub given : WeightsMet profile weekday means calendar lent 0 0 a.weights means_after calendar_after
  pub marks_long : length a.marks ≡ length a.weights + 1
  pub counts_long : length a.counts ≡ length a.weights + 1

-- Demand 3, the claim (proofs/Theorem, `demand3`)
pub record Claim : Type 0 where
  -- for every accepted open, from any contents of marks and counts, and every list of calls that runs after it
  pub after_open : (before opened : Account) → OpenMet before 0 opened → (es : List Event) → Run opened es → Demand3 before.weights es
  -- "for every list": any calls, with any arguments and any lent outputs, run in this order, on any account
  pub every_list : (a : Account) (cs : List Call) → (es : List Event) × Run a es × (map call es ≡ cs)
  -- "over weights from demand 2": open accepts them, so this holds of every list of calls on an account over them
  pub over_weights : (a opened : Account) → Weighed a → (answered : ℕ) → OpenMet a answered opened →
      (answered ≡ 0) × ((es : List Event) → Run opened es → Demand3 a.weights es)
