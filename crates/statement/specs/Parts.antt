-- The parts of a statement (Account and its calls, "Statement"): "Parts run between successive marked boundaries from the first
-- reading to the last; cuts outside wait. The Wh of a part is what its end has less what its start has."
use Rattle.std.specs.Prelude.{ℕ, zero, suc, ◌-◌, Bool, cond, ◌&&◌, ◌||◌, List, [], ◌∷◌, ◌++◌, map, leb, ltb, length}
use Rattle.common.specs.Rows.{filled}
use Rattle.common.specs.Below.{last}
use Rattle.account.specs.Stands.{Stands, first_reading, last_reading}
use Rattle.statement.specs.Split.{has}

pub record Part : Type 0 where
  pub from : ℕ
  pub to : ℕ
  pub wh : ℕ

-- a cut or a reading stands at k
abbrev pub marked : Stands → ℕ → Bool
marked s k = s.readings.at k || s.cut k

-- a part ends at k: it is marked, after the first reading and not after the last
abbrev pub ends_part : List ℕ → Stands → ℕ → Bool
ends_part w s k = marked s k && (ltb (first_reading (length w) s.readings) k && leb k (last_reading (length w) s.readings))

-- the part that ends at k starts at the marked boundary before k
abbrev pub part_to : List ℕ → Stands → ℕ → Part
part_to w s k =
    record {
      from = last (marked s) k;
      to = k;
      wh = has w s.readings k - has w s.readings (last (marked s) k);
    }

-- the parts that end below boundary m, in order
unfoldable pub parts_below : List ℕ → Stands → ℕ → List Part
parts_below w s zero = []
parts_below w s (suc m) = parts_below w s m ++ cond (ends_part w s m) (part_to w s m ∷ []) []

-- all parts of a statement
abbrev pub parts_of : List ℕ → Stands → List Part
parts_of w s = parts_below w s (suc (length w))

-- It writes from, to and Wh "into slices of length n, zero past the parts".
pub record Outputs : Type 0 where
  pub from : List ℕ
  pub to : List ℕ
  pub wh : List ℕ

-- what three lent slices hold, at the start (`old`, or `now` where they are only read) or the end (`new`) of a call
abbrev pub outputs : List ℕ → List ℕ → List ℕ → Outputs
outputs f t e = record { from = f; to = t; wh = e }

abbrev pub written : ℕ → List Part → Outputs
written n ps =
    outputs
    (filled n (map (λ (p : Part). p.from) ps))
    (filled n (map (λ (p : Part). p.to) ps))
    (filled n (map (λ (p : Part). p.wh) ps))

-- the slices of a statement given, over these weights and what stands
abbrev pub statement_of : List ℕ → Stands → Outputs
statement_of w s = written (length w) (parts_of w s)
