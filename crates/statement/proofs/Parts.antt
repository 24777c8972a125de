-- The parts of a statement and the slices they are written to (Account and its calls, "Statement"): where each part ends, that they
-- fit the outputs, and sums over them. Assumes nothing.
use mathlib.Core.Path.{◌≡◌, refl, sym, ◌∙◌}
use mathlib.Core.Bool.{Bool, true, false, cond, ◌&&◌, and-false}
use mathlib.Core.List.{List, [], ◌∷◌, ◌++◌, map, append-nil}
use mathlib.Core.Logic.{⊎_elim}
use Prim.Native.Nat.{ℕ, zero, suc, ◌+◌, ◌≤◌, ◌<◌}
use native.Mathlib.Nat.{eq-or-lt_of_le}
use native.Mathlib.Decide.{le_ind}
use native.Mathlib.Omega.{arith}
use lib.Dec.{leb, ltb}
use lib.ListN.{length, get_or, take, length-append, length-map, get_or-append, get_or-map}
use lib.Seq.{get_or_at, take-suc, take-length}
use borrow.Author.Tests.{ltb-true, leb-true, lt-ltb, le-leb, lt-leb}
use Rattle.account.specs.Stands.{Stands, first_reading, last_reading}
use Rattle.common.proofs.Below.{clash, refuted}
use Rattle.common.specs.Rows.{filled}
use Rattle.std.proofs.lemmas.Bool.{true_from_ne_false}
use Rattle.statement.specs.Parts.{Part, marked, ends_part, part_to, parts_below, parts_of, written, statement_of}
use Rattle.statement.specs.Shares.{energy}

at_most_one : (b : Bool) (x : Part) → length (cond b (x ∷ []) []) ≤ 1
at_most_one true x = omega arith
at_most_one false x = omega arith

module _ (w : List ℕ) (s : Stands) where
  -- where a part ends
  pub record Ends (k : ℕ) : Type 0 where
    pub mark : marked s k ≡ true
    pub after : first_reading (length w) s.readings < k
    pub upto : k ≤ last_reading (length w) s.readings

  ends_is : (k : ℕ) → ends_part w s k ≡ true → Ends k
  ends_is k h =
      let asked : (b : Bool) → (b ≡ false → ends_part w s k ≡ false) → b ≡ true = λ b none. true_from_ne_false b (λ e. clash h (none e)) in
      record {
        mark = asked (marked s k) (λ e. simp e);
        after = ltb-true _ k (asked (ltb (first_reading (length w) s.readings) k) (λ e. simp (e, and-false)));
        upto = leb-true k _ (asked (leb k (last_reading (length w) s.readings)) (λ e. simp (e, and-false)));
      }

  pub is_end : (k : ℕ) → Ends k → ends_part w s k ≡ true
  is_end k e = rw (e.mark, lt-ltb _ k e.after, le-leb k _ e.upto)

  -- what ends at m comes last, and nothing does where no part ends
  pub below_part : (m : ℕ) → ends_part w s m ≡ true → parts_below w s (suc m) ≡ parts_below w s m ++ (part_to w s m ∷ [])
  unfolding parts_below
  below_part m ends = rw ends

  pub below_none : (m : ℕ) → ends_part w s m ≡ false → parts_below w s (suc m) ≡ parts_below w s m
  unfolding parts_below
  below_none m ends = rw ends (append-nil _)

  -- no part ends up to the first reading, nor after the last
  before_first : (k : ℕ) → k ≤ first_reading (length w) s.readings → ends_part w s k ≡ false
  before_first k h = refuted (ends_part w s k) (λ e. omega (arith, (ends_is k e).after))

  after_last : (k : ℕ) → last_reading (length w) s.readings < k → ends_part w s k ≡ false
  after_last k h = refuted (ends_part w s k) (λ e. omega (arith, (ends_is k e).upto))

  pub none_until : (m : ℕ) → m ≤ suc (first_reading (length w) s.readings) → parts_below w s m ≡ []
  unfolding parts_below
  none_until zero h = refl
  none_until (suc m) h = below_none m (before_first m (omega arith)) ∙ none_until m (omega arith)

  -- all parts are those that end up to the last reading
  pub none_more : (p : ℕ) → last_reading (length w) s.readings ≡ p → p ≤ length w → parts_below w s (suc (length w)) ≡ parts_below w s (suc p)
  none_more p is within =
      le_ind (λ m. parts_below w s m ≡ parts_below w s (suc p)) refl (λ m h rest. below_none m (after_last m (omega arith)) ∙ rest) (suc (length w)) (omega arith)

  -- what holds of the part to each boundary where one ends holds of each part
  each_part : (P : Part → Type 0) → ((k : ℕ) → Ends k → P (part_to w s k)) → (m : ℕ) (d : Part) (i : ℕ) →
      i < length (parts_below w s m) → P (get_or (parts_below w s m) i d)
  unfolding parts_below
  each_part P all zero d i h = absurd (omega arith)
  each_part P all (suc m) d i h = go (λ l. each_part P all m d i l) (ends_part w s m) refl
    where
      ps : List Part
      ps = parts_below w s m

      go : (i < length ps → P (get_or ps i d)) → (b : Bool) → ends_part w s m ≡ b → P (get_or (parts_below w s (suc m)) i d)
      go rest true e =
          let x : Part = part_to w s m in
          let here : P x = all m (ends_is m e) in
          let most : i ≤ length ps = omega (arith, length-append ps (x ∷ []), rw e at h) in
          rw e
          (⊎_elim (λ same. rw (get_or_at ps x [] d i (sym same)) here) (λ lt. rw (get_or-append ps (x ∷ []) d i lt) (rest lt))
          (eq-or-lt_of_le most))
      go rest false e = rw (e, append-nil) (rest (rw (e, append-nil) at h))

  -- at most one part ends at each boundary after the first
  pub parts_fit : (m : ℕ) → length (parts_below w s (suc m)) ≤ m
  unfolding parts_below
  parts_fit zero = go (ends_part w s 0) refl
    where
      go : (b : Bool) → ends_part w s 0 ≡ b → length (parts_below w s 1) ≤ 0
      go true e = omega (arith, (ends_is 0 e).after)
      go false e = rw e (omega arith)
  parts_fit (suc m) =
      let one = at_most_one (ends_part w s (suc m)) (part_to w s (suc m)) in
      rw (length-append (parts_below w s (suc m))) (omega (arith, parts_fit m))

-- what a part adds to the energy between a and b
abbrev pub counted : ℕ → ℕ → Part → ℕ
counted a b x = cond (leb a x.from && leb x.to b) x.wh 0

pub counts : (a b : ℕ) (x : Part) → a ≤ x.from → x.to ≤ b → counted a b x ≡ x.wh
counts a b x low high = rw (le-leb a x.from low, le-leb x.to b high)

pub not_before : (a b : ℕ) (x : Part) → x.from < a → counted a b x ≡ 0
not_before a b x h = rw (lt-leb a x.from h)

pub not_after : (a b : ℕ) (x : Part) → b < x.to → counted a b x ≡ 0
not_after a b x h = rw (lt-leb x.to b h, and-false)

-- the energy between a and b of a list of parts
unfoldable pub energy_of : ℕ → ℕ → List Part → ℕ
energy_of a b [] = 0
energy_of a b (x ∷ xs) = counted a b x + energy_of a b xs

energy_append : (a b : ℕ) (xs ys : List Part) → energy_of a b (xs ++ ys) ≡ energy_of a b xs + energy_of a b ys
unfolding energy_of
energy_append a b [] ys = omega arith
energy_append a b (x ∷ xs) ys = omega (arith, energy_append a b xs ys)

-- the part that ends at m, if one does, is one more
pub energy_more : (w : List ℕ) (s : Stands) (a b m : ℕ) → Ends w s m →
    energy_of a b (parts_below w s (suc m)) ≡ energy_of a b (parts_below w s m) + counted a b (part_to w s m)
unfolding energy_of parts_below
energy_more w s a b m e = rw (is_end w s m e, energy_append) (omega arith)

pub energy_same : (w : List ℕ) (s : Stands) (a b m : ℕ) → (Ends w s m → counted a b (part_to w s m) ≡ 0) →
    energy_of a b (parts_below w s (suc m)) ≡ energy_of a b (parts_below w s m)
unfolding parts_below
energy_same w s a b m none = go (ends_part w s m) refl
  where
    go : (t : Bool) → ends_part w s m ≡ t → energy_of a b (parts_below w s (suc m)) ≡ energy_of a b (parts_below w s m)
    go true e = let is = ends_is w s m e in omega (arith, energy_more w s a b m is, none is)
    go false e = rw (e, append-nil)

abbrev pub no_part : Part
no_part = record { from = 0; to = 0; wh = 0 }

-- the slices as written have the parts, one after the other
pub written_at : (f : Part → ℕ) (n : ℕ) (ps : List Part) (i : ℕ) → i < length ps → get_or (filled n (map f ps)) i (f no_part) ≡ f (get_or ps i no_part)
written_at f n ps i h = get_or-append (map f ps) _ (f no_part) i (rw length-map h) ∙ get_or-map f ps i no_part

-- what holds of the part to each boundary where one ends holds of each part as written
pub each_written : (w : List ℕ) (s : Stands) (P : ℕ → ℕ → ℕ → Type 0) →
    ((k : ℕ) → Ends w s k → P (part_to w s k).from (part_to w s k).to (part_to w s k).wh) → (i : ℕ) → i < length (parts_of w s) →
    P (get_or (statement_of w s).from i 0) (get_or (statement_of w s).to i 0) (get_or (statement_of w s).wh i 0)
each_written w s P all i h =
    let ps : List Part = parts_of w s in
    let n : ℕ = length w in
    rw (written_at (λ x. x.from) n ps i h, written_at (λ x. x.to) n ps i h, written_at (λ x. x.wh) n ps i h)
    (each_part w s (λ x. P x.from x.to x.wh) all (suc n) no_part i h)

energy_of_first : (a b n : ℕ) (ps : List Part) (i : ℕ) → i ≤ length ps → energy (written n ps) a b i ≡ energy_of a b (take i ps)
unfolding energy energy_of
energy_of_first a b n ps zero h = refl
energy_of_first a b n ps (suc i) h =
    rw (
      take-suc ps i no_part h,
      energy_append,
      written_at (λ x. x.from) n ps i h,
      written_at (λ x. x.to) n ps i h,
      written_at (λ x. x.wh) n ps i h,
      energy_of_first a b n ps i (omega arith),
    )
    (omega arith)

pub energy_written : (a b n : ℕ) (ps : List Part) → energy (written n ps) a b (length ps) ≡ energy_of a b ps
energy_written a b n ps = energy_of_first a b n ps (length ps) (omega arith) ∙ rw (take-length ps)
