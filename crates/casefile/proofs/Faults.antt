-- Laws of faults in order (If a call declines): the first of several. Assumes nothing.
use Prim.Native.Nat.{ℕ, zero, suc, ◌+◌, ◌<◌}
use mathlib.Core.Path.{◌≡◌, refl}
use mathlib.Core.Bool.{Bool, true, false}
use mathlib.Core.List.{List}
use native.Mathlib.Omega.{arith}
use native.Mathlib.Numerals.{add-one}
use native.Mathlib.Decide.{dec_lt}
use Rattle.common.specs.Rows.{row}
use Rattle.casefile.specs.Bytes.{number16}
use Rattle.casefile.specs.Faults.{Fault, no_fault, refused, ◌before◌, fault, early, first_fault, section_fault}
use Rattle.casefile.specs.Reader.{fault_number}

-- the items before i have no fault, and item i ..
pub first_more : (f : ℕ → Fault) (i : ℕ) → first_fault f i ≡ no_fault → f i ≡ no_fault → first_fault f (i + 1) ≡ no_fault
unfolding first_fault
first_more f i n e = rw (add-one, n, e) refl

pub first_is : (f : ℕ → Fault) (m i : ℕ) {number place : ℕ} → i < m → first_fault f i ≡ no_fault → f i ≡ refused number place → first_fault f m ≡ refused number place
unfolding first_fault
first_is f zero i l n e = absurd (omega arith)
first_is f (suc m) i {number} {place} l n e = go (first_is f m i) (dec_lt i m)
  where
    go : (i < m → first_fault f i ≡ no_fault → f i ≡ refused number place → first_fault f m ≡ refused number place) → Dec (i < m)
        → (first_fault f m before f m) ≡ refused number place
    go earlier (yes h) = rw (earlier h n e) refl
    go earlier (no g) =
        let same : m ≡ i = omega arith in
        rw (same, n) e

-- no fault in any of them
pub none_of : (f : ℕ → Fault) (m : ℕ) → ((i : ℕ) → i < m → f i ≡ no_fault) → first_fault f m ≡ no_fault
unfolding first_fault
none_of f zero e = refl
none_of f (suc m) e = rw (none_of f m (λ i l. e i (omega arith)), e m (omega arith)) refl

pub none_both : (f g : Fault) → (f before g) ≡ no_fault → (f ≡ no_fault) × (g ≡ no_fault)
none_both no_fault g e = (refl, e)
none_both (refused n k) g e = absurd (let z : ◌≡◌ {A = ℕ} 0 1 = cc in omega arith)

pub no_fault_lem : (b : Bool) (number place : ℕ) → fault b number place ≡ no_fault → b ≡ false
no_fault_lem false number place e = refl
no_fault_lem true number place e = absurd (let z : ◌≡◌ {A = ℕ} 0 1 = cc in omega arith)

-- the number of a condition, and of what comes after it, is a row
pub number_of : (b : Bool) (number place : ℕ) → fault_number (fault b number place) ≡ row b number 0
number_of true number place = refl
number_of false number place = refl

pub number_before : (b : Bool) (number place : ℕ) (g : Fault) → fault_number (fault b number place before g) ≡ row b number (fault_number g)
number_before true number place g = refl
number_before false number place g = refl

-- a fault of number 0 is none
abbrev pub Numbered : Fault → Type 0
Numbered f = fault_number f ≡ 0 → f ≡ no_fault

pub numbered : (b : Bool) (number place : ℕ) → 0 < number → Numbered (fault b number place)
numbered true number place l e = absurd (omega arith)
numbered false number place l e = refl

pub numbered_before : (f g : Fault) → Numbered f → Numbered g → Numbered (f before g)
numbered_before no_fault g a b = b
numbered_before (refused n k) g a b = a

pub then : (b : Bool) (number place : ℕ) (g : Fault) → 0 < number → Numbered g → Numbered (fault b number place before g)
then b number place g l rest = numbered_before (fault b number place) g (numbered b number place l) rest

pub numbered_first : (f : ℕ → Fault) → ((i : ℕ) → Numbered (f i)) → (m : ℕ) → Numbered (first_fault f m)
unfolding first_fault
numbered_first f all zero = λ e. refl
numbered_first f all (suc m) = numbered_before (first_fault f m) (f m) (numbered_first f all m) (all m)

-- a condition that does not hold, and what comes after it
pub passes : (b : Bool) (number place : ℕ) (g : Fault) → (fault b number place before g) ≡ no_fault → (b ≡ false) × (g ≡ no_fault)
passes b number place g e =
    let n = none_both (fault b number place) g e in
    (no_fault_lem b number place n.0, n.1)

pub none_before : (f : ℕ → Fault) (m i : ℕ) → i < m → first_fault f m ≡ no_fault → f i ≡ no_fault
unfolding first_fault
none_before f zero i l e = absurd (omega arith)
none_before f (suc m) i l e = go (none_before f m i) (none_both (first_fault f m) (f m) e) (dec_lt i m)
  where
    go : (i < m → first_fault f m ≡ no_fault → f i ≡ no_fault) → (first_fault f m ≡ no_fault) × (f m ≡ no_fault) → Dec (i < m) → f i ≡ no_fault
    go earlier n (yes h) = earlier h n.0
    go earlier n (no g) =
        let same : i ≡ m = omega arith in
        rw same n.1

pub first_few : (f : ℕ → Fault) (m i : ℕ) → i < m → first_fault f m ≡ no_fault → first_fault f i ≡ no_fault
unfolding first_fault
first_few f zero i l e = absurd (omega arith)
first_few f (suc m) i l e = go (first_few f m i) (none_both (first_fault f m) (f m) e).0 (dec_lt i m)
  where
    go : (i < m → first_fault f m ≡ no_fault → first_fault f i ≡ no_fault) → first_fault f m ≡ no_fault → Dec (i < m) → first_fault f i ≡ no_fault
    go earlier n (yes h) = earlier h n
    go earlier n (no g) =
        let same : i ≡ m = omega arith in
        rw same n

-- the items of a section whose count is there: all without a fault, or item i with the first
module _ (s : List ℕ) (at : ℕ) (item : ℕ → Fault) {count : ℕ} (there : early s (at + 2) ≡ no_fault) (counted : count ≡ number16 s at) where
  pub section_passes : first_fault item count ≡ no_fault → section_fault s at item ≡ no_fault
  section_passes e = rw (there, ← counted) e

  pub section_stops : {i number place : ℕ} → i < count → first_fault item i ≡ no_fault → item i ≡ refused number place → section_fault s at item ≡ refused number place
  section_stops {i = i} l n e = rw (there, ← counted) (first_is item count i l n e)
