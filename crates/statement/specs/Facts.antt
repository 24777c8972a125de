-- The rule's own facts (Account and its calls, "Statement"; Buyer's note: "the closeness of shares [is] proved for the rules themselves,
-- whatever profile or n"). They ask for two readings, or two adjacent ones within the span, and some for `Valid`; proofs/Has.antt,
-- proofs/Successive.antt and proofs/Facts.antt prove them.
use Rattle.std.specs.Prelude.{ℕ, suc, ◌+◌, ◌-◌, ◌*◌, ◌/◌, ◌≤◌, ◌<◌, ◌≡◌, Bool, true, ◌&&◌, ◌↔◌, ◌⊎◌, List, leb, length, get_or}
use Rattle.rounding.specs.Nearest.{nearest}
use Rattle.common.specs.Below.{how_many}
use Rattle.account.specs.Stands.{Stands, Readings, never_falling, first_reading, last_reading, last_less_first}
use Rattle.statement.specs.Split.{weight_sum, has}
use Rattle.statement.specs.Parts.{Outputs, marked, parts_of, statement_of}
use Rattle.statement.specs.Shares.{Adjacent, NearShare, Shared, total, energy}

-- what the facts about sums and shares ask of the weights and of the readings that stand
pub record Valid (w : List ℕ) (r : Readings) : Type 0 where
  pub weights : (d : ℕ) → d < length w → 0 < get_or w d 0
  pub rises : never_falling r (suc (length w)) ≡ true

-- Weights above 0, and readings of which no later one has less, are valid: nothing is asked of profile or n. (proofs/Order, `every_valid`)
abbrev pub EveryValid : Type 0
EveryValid =
    (w : List ℕ) (r : Readings) → ((d : ℕ) → d < length w → 0 < get_or w d 0) →
    ((p q : ℕ) → p ≤ q → q ≤ length w → r.at p ≡ true → r.at q ≡ true → r.count p ≤ r.count q) → Valid w r

-- at least two readings stand
abbrev pub TwoReadings : List ℕ → Stands → Type 0
TwoReadings w s = 2 ≤ how_many s.readings.at (suc (length w))

-- "Between adjacent readings at p and q with counts difference E, weight sum Z, a boundary k between them has count(p) + nearest(E × Zk / Z)";
-- "A reading's boundary has its count." (proofs/Has, `has_rule`)
pub record HasRule : Type 0 where
  pub between : (w : List ℕ) (r : Readings) (p q k : ℕ) → Adjacent r.at p q → q ≤ length w → p < k → k < q →
      has w r k ≡ r.count p + nearest ((r.count q - r.count p) * weight_sum w p k) (weight_sum w p q)
  pub reading : (w : List ℕ) (r : Readings) (k : ℕ) → r.at k ≡ true → has w r k ≡ r.count k

-- a boundary at which a part starts or ends: it is marked, and lies from the first reading to the last
abbrev pub bounds_part : ℕ → Stands → ℕ → Bool
bounds_part n s k = marked s k && (leb (first_reading n s.readings) k && leb k (last_reading n s.readings))

-- "Parts run between successive marked boundaries from the first reading to the last": so do these m parts, over n days where s stands
pub record Successive (n : ℕ) (s : Stands) (o : Outputs) (m : ℕ) : Type 0 where
  -- there is a part
  pub not_empty : 0 < m
  -- the first starts at the first reading
  pub starts : get_or o.from 0 0 ≡ first_reading n s.readings
  -- the last ends at the last reading
  pub ends : get_or o.to (m - 1) 0 ≡ last_reading n s.readings
  -- each next one starts where the one before ends
  pub joined : (i : ℕ) → suc i < m → get_or o.from (suc i) 0 ≡ get_or o.to i 0
  -- each runs from a marked boundary to the next: both are marked, and none between them is
  pub each : (i : ℕ) → i < m → Adjacent (marked s) (get_or o.from i 0) (get_or o.to i 0)
  -- there is one fewer than there are marked boundaries from the first reading to the last
  pub in_number : suc m ≡ how_many (bounds_part n s) (suc n)

-- The parts of every statement are successive. (proofs/Successive, `successive`)
abbrev pub PartsSuccessive : Type 0
PartsSuccessive = (w : List ℕ) (s : Stands) → TwoReadings w s → Successive (length w) s (statement_of w s) (length (parts_of w s))

-- What stands fixes such parts: how many there are, and where each starts and ends. (proofs/Successive, `one_succession`)
abbrev pub OneSuccession : Type 0
OneSuccession =
    (n : ℕ) (s : Stands) (o₁ o₂ : Outputs) (m₁ m₂ : ℕ) → Successive n s o₁ m₁ → Successive n s o₂ m₂ →
    (m₁ ≡ m₂) × ((i : ℕ) → i < m₁ → (get_or o₁.from i 0 ≡ get_or o₂.from i 0) × (get_or o₁.to i 0 ≡ get_or o₂.to i 0))

-- "Its parts add up exactly to the last standing reading less the first." (`sums_up`)
abbrev pub SumsUp : Type 0
SumsUp =
    (w : List ℕ) (s : Stands) → Valid w s.readings → TwoReadings w s →
    total (statement_of w s) (length (parts_of w s)) ≡ last_less_first (length w) s.readings

-- "Each part is less than 1 Wh from its exact share between its two enclosing readings." (`shared`)
abbrev pub SharesClose : Type 0
SharesClose =
    (w : List ℕ) (s : Stands) → Valid w s.readings → TwoReadings w s → (i : ℕ) → i < length (parts_of w s) →
    Shared w s.readings (get_or (statement_of w s).from i 0) (get_or (statement_of w s).to i 0) (get_or (statement_of w s).wh i 0)

-- Less than 1 Wh from its exact share E × its weights / Z are that share rounded down and rounded up, and nothing else. (proofs/Near, `down_or_up`)
abbrev pub DownOrUp : Type 0
DownOrUp =
    (w : List ℕ) (r : Readings) (p q f t wh : ℕ) → 0 < weight_sum w p q →
    NearShare w r p q f t wh ↔
    ((wh ≡ (r.count q - r.count p) * weight_sum w f t / weight_sum w p q) ⊎
    (wh ≡ ((r.count q - r.count p) * weight_sum w f t + (weight_sum w p q - 1)) / weight_sum w p q))

-- It is that near for ALL adjacent p and q that enclose the part: there are no others than those of `Shared`. (proofs/Near, `near_for_all`)
abbrev pub NearForAll : Type 0
NearForAll =
    (w : List ℕ) (r : Readings) (f t wh : ℕ) → f < t → Shared w r f t wh → (p q : ℕ) → Adjacent r.at p q → p ≤ f → t ≤ q → NearShare w r p q f t wh

-- "Where the same two adjacent readings with the same counts enclose a marked boundary in two statements .., the energy between the
-- earlier of them and that boundary is the same in both." (`same_energy`)
abbrev pub SameEnergy : Type 0
SameEnergy =
    (w : List ℕ) (s t : Stands) → Valid w s.readings → Valid w t.readings → (p q b : ℕ) →
    Adjacent s.readings.at p q → Adjacent t.readings.at p q →
    s.readings.count p ≡ t.readings.count p → s.readings.count q ≡ t.readings.count q → q ≤ length w →
    p ≤ b → b ≤ q → marked s b ≡ true → marked t b ≡ true →
    energy (statement_of w s) p b (length (parts_of w s)) ≡ energy (statement_of w t) p b (length (parts_of w t))
