-- Parts run between successive marked boundaries from the first reading to the last (Account and its calls, "Statement"), for any n, any
-- weights and any two readings. Assumes nothing.
use mathlib.Core.Path.{◌≡◌, refl, sym, ◌∙◌}
use mathlib.Core.Bool.{Bool, true, false, and-false}
use mathlib.Core.List.{List, [], ◌∷◌, ◌++◌}
use Prim.Native.Nat.{ℕ, zero, suc, ◌-◌, ◌≤◌, ◌<◌}
use native.Mathlib.Decide.{le_ind}
use native.Mathlib.Omega.{arith}
use lib.ListN.{length, get_or, length-append}
use borrow.Author.Tests.{le-leb, lt-leb, lt-ltb}
use Rattle.common.specs.Below.{how_many, last}
use Rattle.account.specs.Stands.{Stands, first_reading, last_reading}
use Rattle.common.proofs.Below.{clash, first_least, last_found, last_most, last_here, last_below}
use Rattle.statement.specs.Parts.{Part, Outputs, marked, ends_part, part_to, parts_below, parts_of}
use Rattle.statement.specs.Shares.{Adjacent}
use Rattle.statement.specs.Facts.{bounds_part, Successive, PartsSuccessive, OneSuccession}
use Rattle.statement.proofs.Order.{Read, some_read}
use Rattle.statement.proofs.Parts.{Ends, is_end, below_part, below_none, none_until, none_more, no_part, written_at, each_written}
use Rattle.statement.proofs.Together.{succession}

-- these parts run from a to b, each from where the one before ends
abbrev Runs : ℕ → List Part → ℕ → Type 0
Runs a [] b = a ≡ b
Runs a (x ∷ xs) b = (x.from ≡ a) × Runs x.to xs b

one_more : (a : ℕ) (xs : List Part) (x : Part) → Runs a xs x.from → Runs a (xs ++ (x ∷ [])) x.to
one_more a [] x is = (sym is, refl)
one_more a (y ∷ xs) x (starts, rest) = (starts, one_more y.to xs x rest)

runs_first : (a b : ℕ) (xs : List Part) → Runs a xs b → 0 < length xs → (get_or xs 0 no_part).from ≡ a
runs_first a b [] is h = absurd (omega arith)
runs_first a b (x ∷ xs) (starts, rest) h = starts

runs_next : (a b : ℕ) (xs : List Part) → Runs a xs b → (i : ℕ) → suc i < length xs → (get_or xs (suc i) no_part).from ≡ (get_or xs i no_part).to
runs_next a b [] is i h = absurd (omega arith)
runs_next a b (x ∷ xs) (starts, rest) zero h = runs_first x.to b xs rest (omega arith)
runs_next a b (x ∷ xs) (starts, rest) (suc i) h = runs_next x.to b xs rest i (omega arith)

runs_last : (a b : ℕ) (xs : List Part) → Runs a xs b → (i : ℕ) → suc i ≡ length xs → (get_or xs i no_part).to ≡ b
runs_last a b [] is i h = absurd (omega arith)
runs_last a b (x ∷ []) (starts, rest) zero h = rest
runs_last a b (x ∷ y ∷ xs) (starts, rest) zero h = absurd (omega arith)
runs_last a b (x ∷ xs) (starts, rest) (suc i) h = runs_last x.to b xs rest i (omega arith)

-- a test that holds wherever another does holds at no fewer boundaries; one that never holds, at none
many_more : (p q : ℕ → Bool) (m : ℕ) → ((k : ℕ) → k < m → p k ≡ true → q k ≡ true) → how_many p m ≤ how_many q m
unfolding how_many
many_more p q zero all = omega arith
many_more p q (suc m) all = go (many_more p q m (λ k h. all k (omega arith))) (p m) refl
  where
    go : how_many p m ≤ how_many q m → (b : Bool) → p m ≡ b → how_many p (suc m) ≤ how_many q (suc m)
    go rest true e = rw (e, all m (omega arith) e) (omega arith)
    go rest false e = rw e (omega arith)

many_none : (p : ℕ → Bool) (m : ℕ) → ((k : ℕ) → k < m → p k ≡ false) → how_many p m ≡ 0
unfolding how_many
many_none p zero none = refl
many_none p (suc m) none = rw (none m (omega arith)) (omega (arith, many_none p m (λ k h. none k (omega arith))))

module _ (w : List ℕ) (s : Stands) (read : Read (length w) s.readings) where
  abbrev n : ℕ
  n = length w

  abbrev f : ℕ
  f = first_reading n s.readings

  abbrev l : ℕ
  l = last_reading n s.readings

  f≤l : f ≤ l
  f≤l = last_most s.readings.at read.last read.first.below read.first.holds

  mark_f : marked s f ≡ true
  mark_f = rw read.first.holds

  -- the parts that end below m run from the first reading to the last marked boundary below m
  runs : (m : ℕ) → suc f ≤ m → m ≤ suc l → Runs f (parts_below w s m) (last (marked s) m)
  runs = le_ind (λ m. m ≤ suc l → Runs f (parts_below w s m) (last (marked s) m)) start next
    where
      start : suc f ≤ suc l → Runs f (parts_below w s (suc f)) (last (marked s) (suc f))
      start h = rw (none_until w s (suc f) (omega arith)) (sym (last_here (marked s) refl mark_f))

      next : (m : ℕ) → suc f ≤ m → (m ≤ suc l → Runs f (parts_below w s m) (last (marked s) m)) → suc m ≤ suc l →
          Runs f (parts_below w s (suc m)) (last (marked s) (suc m))
      next m lo rest hi = go (rest (omega arith)) (marked s m) refl
        where
          go : Runs f (parts_below w s m) (last (marked s) m) → (b : Bool) → marked s m ≡ b →
              Runs f (parts_below w s (suc m)) (last (marked s) (suc m))
          go so_far true e =
              let ends : Ends w s m = record { mark = e; after = lo; upto = omega arith } in
              rw (below_part w s m (is_end w s m ends), last_here (marked s) refl e) (one_more f (parts_below w s m) (part_to w s m) so_far)
          go so_far false e = rw (below_none w s m (rw e), last_below (marked s) refl e) so_far

  -- so all of them run from the first reading to the last
  runs_all : Runs f (parts_of w s) l
  runs_all =
      let mark-l : marked s l ≡ true = rw read.last.holds in
      rw (none_more w s l refl (omega (arith, read.last.below))) (rw (last_here (marked s) refl mark-l) at (runs (suc l) (omega (arith, f≤l)) (omega arith)))

  -- one more marked boundary than parts
  counted : (m : ℕ) → suc f ≤ m → suc (length (parts_below w s m)) ≡ how_many (bounds_part n s) m
  unfolding how_many
  counted = le_ind (λ m. suc (length (parts_below w s m)) ≡ how_many (bounds_part n s) m) start next
    where
      start : suc (length (parts_below w s (suc f))) ≡ how_many (bounds_part n s) (suc f)
      start =
          rw (none_until w s (suc f) (omega arith), mark_f, le-leb f f (omega arith), le-leb f l f≤l)
          (omega (arith, many_none (bounds_part n s) f (λ k h. simp (lt-leb f k h, and-false))))

      next : (m : ℕ) → suc f ≤ m → suc (length (parts_below w s m)) ≡ how_many (bounds_part n s) m →
          suc (length (parts_below w s (suc m))) ≡ how_many (bounds_part n s) (suc m)
      next m lo rest = go (bounds_part n s m) refl
        where
          same : ends_part w s m ≡ bounds_part n s m
          same = rw (lt-ltb f m lo, le-leb f m (omega arith))

          go : (b : Bool) → bounds_part n s m ≡ b → suc (length (parts_below w s (suc m))) ≡ how_many (bounds_part n s) (suc m)
          go true e = rw (below_part w s m (same ∙ e), length-append (parts_below w s m), e) (omega arith)
          go false e = rw (below_none w s m (same ∙ e), e) (omega arith)

  bounds_at : (k : ℕ) → k < suc n → s.readings.at k ≡ true → bounds_part n s k ≡ true
  bounds_at k lt at =
      rw (at, le-leb f k (first_least s.readings.at read.first at), le-leb k l (last_most s.readings.at read.last lt at))

  each_adjacent : (k : ℕ) → Ends w s k → Adjacent (marked s) (last (marked s) k) k
  each_adjacent k ends =
      let is = last_found (marked s) k f ends.after mark_f in
      record { ordered = is.below; at_p = is.holds; at_q = ends.mark; none_between = is.none_after }

pub successive : PartsSuccessive
successive w s two =
    let n : ℕ = length w in
    let ps : List Part = parts_of w s in
    let is = some_read n s.readings two in
    let run = runs_all w s is in
    let number = counted w s is (suc n) (omega (arith, is.first.below)) in
    let some : 0 < length ps =
    omega (arith, two, many_more s.readings.at (bounds_part n s) (suc n) (bounds_at w s is)) in
    succession
    some
    (written_at (λ x. x.from) n ps 0 some ∙ runs_first _ _ ps run some)
    (written_at (λ x. x.to) n ps (length ps - 1) (omega arith) ∙ runs_last _ _ ps run (length ps - 1) (omega arith))
    (λ i h. written_at (λ x. x.from) n ps (suc i) h ∙ runs_next _ _ ps run i h ∙ sym (written_at (λ x. x.to) n ps i (omega arith)))
    (each_written w s (λ from to wh. Adjacent (marked s) from to) (each_adjacent w s is))
    number

-- after a boundary one is the next
next_one : (at : ℕ → Bool) (p q₁ q₂ : ℕ) → Adjacent at p q₁ → Adjacent at p q₂ → q₁ ≡ q₂
next_one at p q₁ q₂ a b =
    let low : q₁ < q₂ → ⊥ = λ h. clash a.at_q (b.none_between q₁ a.ordered h) in
    let high : q₂ < q₁ → ⊥ = λ h. clash b.at_q (a.none_between q₂ b.ordered h) in
    omega arith

module _ (n : ℕ) (s : Stands) (o₁ o₂ : Outputs) (m : ℕ) (a : Successive n s o₁ m) (b : Successive n s o₂ m) where
  ends_alike : (i : ℕ) → i < m → get_or o₁.from i 0 ≡ get_or o₂.from i 0 → get_or o₁.to i 0 ≡ get_or o₂.to i 0
  ends_alike i h same = next_one (marked s) _ _ _ (rw same at (a.each i h)) (b.each i h)

  starts_alike : (i : ℕ) → i < m → get_or o₁.from i 0 ≡ get_or o₂.from i 0
  starts_alike zero h = a.starts ∙ sym b.starts
  starts_alike (suc i) h = a.joined i h ∙ ends_alike i (omega arith) (starts_alike i (omega arith)) ∙ sym (b.joined i h)

pub one_succession : OneSuccession
one_succession n s o₁ o₂ m₁ m₂ a b =
    let same : m₁ ≡ m₂ = omega (arith, a.in_number, b.in_number) in
    let c : Successive n s o₁ m₂ = rw same at a in
    (same, λ i h. let below : i < m₂ = omega arith in let start = starts_alike n s o₁ o₂ m₂ c b i below in (start, ends_alike n s o₁ o₂ m₂ c b i below start))
