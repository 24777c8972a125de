-- What the words of demand 3 mean, from the other side: every real event, account and list meets what `Demand3` and `Claim` ask, and what they say
-- is put to use. (proofs/Meaning: the claims' names in small letters)
use Rattle.std.specs.Prelude.{ℕ, ◌+◌, ◌<◌, ◌≡◌, List, [], ◌∷◌, ◌++◌, map, ℤ, length, get_or}
use Rattle.weights.specs.Weights.{WeightsMet}
use Rattle.account.specs.Account.{Account}
use Rattle.account.specs.Calls.{OpenMet}
use Rattle.account.specs.Stands.{Stands, Readings, nothing, with_reading}
use Rattle.statement.specs.Parts.{Outputs}
use Rattle.statement.specs.Shares.{Shared, total, energy}
use Rattle.history.specs.History.{Call}
use Rattle.history.specs.Run.{Event, call}
use Rattle.history.specs.Run as run
use Rattle.history.specs.Demand3.{Among, Given, Carries, Weighed, Demand3, Claim}

-- every event of a list is among it, after those before it (`every_among`)
abbrev pub EveryAmong : Type 0
EveryAmong = (before : List Event) (e : Event) (rest : List Event) → Among (before ++ (e ∷ rest)) before e

-- every statement of a list that was answered 0 is given (`every_given`)
abbrev pub EveryGiven : Type 0
EveryGiven =
    (es before : List Event) (lent : Outputs) (m : ℕ) (after : Account) (out : Outputs) →
    Among es before (run.statement lent 0 m after out) → Given es before m out

-- two accounts that carry the same standing over the same weights are equal (`carries_one`)
abbrev pub CarriesOne : Type 0
CarriesOne = (w : List ℕ) (s : Stands) (a b : Account) → Carries w s a → Carries w s b → a ≡ b

-- every weights call answered 0 makes weights "from demand 2", for marks and counts of the lengths for them (`every_weighed`)
abbrev pub EveryWeighed : Type 0
EveryWeighed =
    (profile weekday : ℕ) (means means_after : List ℤ) (calendar calendar_after lent : List ℕ) (place : ℕ) (a : Account) →
    WeightsMet profile weekday means calendar lent 0 place a.weights means_after calendar_after →
    length a.marks ≡ length a.weights + 1 → length a.counts ≡ length a.weights + 1 → Weighed a

-- "The following holds for every list": whatever calls follow an accepted open, these calls have a list of events that `Demand3` is about (`every_list_holds`)
abbrev pub EveryListHolds : Type 0
EveryListHolds =
    Claim → (before opened : Account) → OpenMet before 0 opened → (cs : List Call) → (es : List Event) × (map call es ≡ cs) × Demand3 before.weights es

-- An example: three equal days, readings 500 at 0 and 600 at 3, cut 1, a statement of m₁ parts, cut 2, and a statement of m₂ parts; `left k` is the
-- account after event k. The events before the first statement, before the second, and all:
abbrev pub until_first : (left : ℕ → Account) → List Event
until_first left = run.reading 0 500 0 (left 0) ∷ run.reading 3 600 0 (left 1) ∷ run.cut 1 0 (left 2) ∷ []

abbrev pub until_second : (left : ℕ → Account) (lent out : Outputs) (m : ℕ) → List Event
until_second left lent out m = until_first left ++ (run.statement lent 0 m (left 3) out ∷ run.cut 2 0 (left 4) ∷ [])

abbrev pub until_end : (left : ℕ → Account) (lent₁ lent₂ out₁ out₂ : Outputs) (m₁ m₂ : ℕ) → List Event
until_end left lent₁ lent₂ out₁ out₂ m₁ m₂ = until_second left lent₁ out₁ m₁ ++ (run.statement lent₂ 0 m₂ (left 5) out₂ ∷ [])

abbrev pub three_days : List ℕ
three_days = 1_000_000 ∷ 1_000_000 ∷ 1_000_000 ∷ []

abbrev pub two_readings : Readings
two_readings = with_reading (with_reading nothing.readings 0 500) 3 600

-- what `Demand3` then says of the two statements, whatever they wrote
pub record Said (m₁ m₂ : ℕ) (out₁ out₂ : Outputs) : Type 0 where
  -- the parts add up to 100
  pub sum : total out₂ m₂ ≡ 100
  -- each of the three is near its share
  pub near : (i : ℕ) → i < 3 → Shared three_days two_readings (get_or out₂.from i 0) (get_or out₂.to i 0) (get_or out₂.wh i 0)
  -- the energy up to the first reading is 0, up to the cut at 1 a third, and up to the last reading all
  pub at_first : energy out₁ 0 0 m₁ ≡ 0
  pub at_cut : energy out₁ 0 1 m₁ ≡ 33
  pub at_last : energy out₁ 0 3 m₁ ≡ 100
  -- and it is the same in both statements
  pub same_at_first : energy out₁ 0 0 m₁ ≡ energy out₂ 0 0 m₂
  pub same_at_cut : energy out₁ 0 1 m₁ ≡ energy out₂ 0 1 m₂
  pub same_at_last : energy out₁ 0 3 m₁ ≡ energy out₂ 0 3 m₂

-- (`two_statements`)
abbrev pub TwoStatements : Type 0
TwoStatements =
    (left : ℕ → Account) (lent₁ lent₂ out₁ out₂ : Outputs) (m₁ m₂ : ℕ) →
    Demand3 three_days (until_end left lent₁ lent₂ out₁ out₂ m₁ m₂) → Said m₁ m₂ out₁ out₂
